-- Demand 2: the listing of an accepted image is an accepted text, and its image is that image.
-- Assumes nothing.
use mathlib.Core.Path.{◌≡◌, refl, sym, subst, ◌∙◌}
use mathlib.Core.Bool.{Bool, true, false, cond}
use mathlib.Core.List.{List, [], ◌∷◌, ◌++◌, flat_map}
use Prim.Native.Nat.{ℕ, zero, suc, ◌+◌, ◌≤◌, ◌<◌}
use native.Mathlib.Omega.{arith}
use lib.Dec.{T, eqb}
use Rattle.numbers.specs.Tests.{all_of, any_of, listed, eq_list}
use Rattle.numbers.specs.Bytes.{Bytes}
use Rattle.program.specs.Names.{Name}
use Rattle.numbers.proofs.Tests.{all_listed, eq_list_eq, all_append, any_append}
use Rattle.numbers.proofs.Truth.{is_no}
use Rattle.text.specs.Lines.{lines}
use Rattle.text.specs.Forms.{Line, Label}
use Rattle.text.specs.Faults.{undeclared, read_only_written, fault, text_faults, first_fault, said}
use Rattle.image.specs.Layout.{cell_count, label_count, variable_count, label_target}
use Rattle.image.specs.Check.{checked}
use Rattle.translation.specs.Images as I
use Rattle.printing.specs.Listing.{listing}
use Rattle.listing.specs.Listed.{variable_says, label_says, labels_say, cell_says, listed_lines}
use Rattle.listing.proofs.Lists.{numbers, none_listed}
use Rattle.listing.proofs.Accepted.{Accepted, accepted}
use Rattle.listing.proofs.Recorded.{Recorded, recorded, name_of_label, name_of_variable}
use Rattle.listing.proofs.Order.{front, body, front_body, cell_line}
use Rattle.listing.proofs.Counted.{cells_counted, labels_counted, variables_counted}
use Rattle.listing.proofs.Declaring.{declared_by, declared_lines}
use Rattle.listing.proofs.Named.{cell_declared, cell_writes}
use Rattle.listing.proofs.Clear.{all_flat, listing_clear}
use Rattle.listing.proofs.Clean.{New, new_both, Few, fine, no_fault_from}
use Rattle.listing.proofs.Said.{listing_said}
use Rattle.listing.proofs.Size.{listing_fits}
use Rattle.listing.proofs.Image.{listing_image}

-- Names that are new one after the other: each differs from those before.
new_listed : (before : List Name) (f : ℕ → Name) (from n : ℕ) → ((k : ℕ) → from ≤ k → k < from + n → any_of (eq_list (f k)) before ≡ false)
    → ((j k : ℕ) → j < k → k < from + n → f k ≡ f j → ⊥) → New before (listed from n f)
unfolding listed any_of
new_listed before f from zero h g = tt
new_listed before f from (suc n) h g = (
  h from (omega arith) (omega arith),
  new_listed (before ++ (f from ∷ [])) f (suc from) n
      (λ k l m. let e = is_no (eq_list (f k) (f from)) (λ t. g from k (omega arith) (omega arith) (eq_list_eq (f k) (f from) t)) in
      any_append (eq_list (f k)) before (f from ∷ []) ∙ rw (h k (omega arith) (omega arith), e))
      (λ j k l m. g j k l (omega arith)),
)

module _ (s : List ℕ) (a : Accepted s) (r : Recorded s) where
  abbrev xs : List Line
  xs = listed_lines s

  all_new : New [] (declared_by xs)
  unfolding any_of
  all_new =
      subst (New []) (sym (declared_lines s r))
      (new_both [] (listed 0 (variable_count s) (name_of_variable s)) (listed 0 (label_count s) (name_of_label s))
      (new_listed [] (name_of_variable s) 0 (variable_count s) (λ k l m. refl)
      (λ j k l m e. let z = r.variable_once k j (omega arith) (omega arith) e in omega arith))
      (new_listed (listed 0 (variable_count s) (name_of_variable s)) (name_of_label s) 0 (label_count s)
      (λ k l m. none_listed (eq_list (name_of_label s k)) (name_of_variable s) 0 (variable_count s)
      (λ j i h. is_no (eq_list (name_of_label s k) (name_of_variable s j)) (λ t. r.apart k j (omega arith) (omega arith) (eq_list_eq (name_of_label s k) (name_of_variable s j) t))))
      (λ j k l m e. let z = r.label_once k j (omega arith) (omega arith) e in omega arith)))

  all_few : Few xs
  all_few = record {
    cells = omega (arith, cells_counted s r, a.few_cells);
    labels = omega (arith, labels_counted s r, a.few_labels);
    variables = omega (arith, variables_counted s r, a.few_variables);
  }

  labels_fine : (t : ℕ) → T (all_of (fine xs) (labels_say s t))
  unfolding labels_say label_says all_of undeclared read_only_written
  labels_fine t = all_flat (fine xs) (label_says s t) (numbers 0 (label_count s)) (λ k. go (eqb (label_target s k) t) (name_of_label s k))
    where
      go : (b : Bool) (w : Name) → T (all_of (fine xs) (cond b (Label w ∷ []) []))
      go true w = tt
      go false w = tt

  cells_fine : (from n : ℕ) → from + n ≤ cell_count s → T (all_of (fine xs) (flat_map (cell_says s) (numbers from n)))
  unfolding flat_map listed cell_says all_of
  cells_fine from zero h = tt
  cells_fine from (suc n) h =
      let d = cell_declared s a r from (omega arith) in
      let w = cell_writes s a r from (omega arith) in
      all_append (fine xs) (cell_says s from) (flat_map (cell_says s) (numbers (suc from) n))
      (all_append (fine xs) (labels_say s from) (cell_line s from ∷ []) (labels_fine from) (rw (d, w) tt))
      (cells_fine (suc from) n (omega arith))

  all_fine : T (all_of (fine xs) xs)
  unfolding variable_says undeclared read_only_written
  all_fine =
      subst (λ (ys : List Line). T (all_of (fine xs) ys)) (sym (front_body s))
      (all_append (fine xs) (front s) (body s) (all_listed (variable_says s) (fine xs) 0 (variable_count s) (λ k h. tt))
      (all_append (fine xs) (flat_map (cell_says s) (numbers 0 (cell_count s))) (labels_say s (cell_count s)) (cells_fine 0 (cell_count s) (omega arith)) (labels_fine (cell_count s))))

-- No line of the listing has a fault.
pub listing_faultless : (s : List ℕ) → checked s ≡ 0 → first_fault (listing s) ≡ fault 0 0
unfolding first_fault text_faults said flat_map
listing_faultless s e =
    let a = accepted s e in
    let r = recorded s e in
    let h = sym (listing_said s e) in
    no_fault_from (said (listing s)) [] 1 (lines (listing s)) (listing_clear s e)
    (subst (λ (ys : List Line). New [] (declared_by ys)) h (all_new s a r))
    (subst Few h (all_few s a r))
    (subst (λ (ys : List Line). T (all_of (fine ys) ys)) h (all_fine s a r))

pub listing_accepted : (s : List ℕ) → checked s ≡ 0 → I.accepted (listing s) ≡ true
unfolding I.accepted
listing_accepted s e = rw (listing_fits s e, listing_faultless s e)

pub listing_back : (s : List ℕ) → checked s ≡ 0 → Bytes s → (I.accepted (listing s) ≡ true) × (I.image (listing s) ≡ s)
listing_back s e byte = (listing_accepted s e, listing_image s e byte)
