-- No line of the listing of an accepted image has a fault of its own: each of them says something.
-- Assumes nothing.
use mathlib.Core.Path.{◌≡◌, sym, subst}
use mathlib.Core.Bool.{Bool, true, false, cond, ◌||◌, not}
use mathlib.Core.List.{List, [], ◌∷◌, ◌++◌, map, flat_map}
use mathlib.Core.Option.{none, some}
use Prim.Native.Nat.{ℕ}
use lib.Dec.{T, eqb}
use Rattle.numbers.specs.Tests.{all_of, listed}
use Rattle.numbers.proofs.Tests.{all_listed, all_append, all_then}
use Rattle.numbers.proofs.Truth.{both, both_of}
use Rattle.text.specs.Lines.{lines}
use Rattle.text.specs.Forms.{Line, Blank, Label, Declared, Acts, reading}
use Rattle.text.specs.Faults.{long_line, bad_form, big_literal, reserved_name, heard, said}
use Rattle.image.specs.Layout.{cell_count, label_count, variable_count, label_place, label_target, name_at}
use Rattle.image.specs.Check.{checked}
use Rattle.printing.specs.Listing.{listing}
use Rattle.listing.specs.Listed.{variable_says, label_says, labels_say, cell_says, listed_lines}
use Rattle.listing.proofs.Said.{listing_said}

-- A line that says something.
abbrev pub speaking : Line → Bool
speaking Blank = false
speaking (Label w) = true
speaking (Declared w z) = true
speaking (Acts a) = true

-- A line has one of the faults 2 to 5.
abbrev pub faulty : List ℕ → Bool
faulty l = long_line l || (bad_form l || (big_literal l || reserved_name l))

-- It then says nothing; so a line that says something has none of them.
pub clear : (l : List ℕ) → T (speaking (heard l)) → T (not (faulty l))
unfolding heard
clear l t = go (faulty l) (elim (reading l) [ none ↦ Blank | some x ↦ x ]) t where
  go : (f : Bool) (x : Line) → T (speaking (cond f Blank x)) → T (not f)
  go true x t = t
  go false x t = tt

module _ {A : Type 0} (p : A → Bool) where
  pub all_flat : (g : ℕ → List A) (ks : List ℕ) → ((k : ℕ) → T (all_of p (g k))) → T (all_of p (flat_map g ks))
  unfolding all_of flat_map
  all_flat g [] h = tt
  all_flat g (k ∷ ks) h = all_append p (g k) (flat_map g ks) (h k) (all_flat g ks h)

all_map : {A : Type 0} (p : Line → Bool) (f : A → Line) (xs : List A) → T (all_of p (map f xs)) → T (all_of (λ x. p (f x)) xs)
unfolding all_of
all_map p f [] h = tt
all_map p f (x ∷ xs) h = let c = both (p (f x)) (all_of p (map f xs)) h in both_of (p (f x)) (all_of (λ y. p (f y)) xs) c.0 (all_map p f xs c.1)

module _ (s : List ℕ) where
  label_speaks : (target k : ℕ) → T (all_of speaking (label_says s target k))
  unfolding label_says all_of
  label_speaks target k = go (eqb (label_target s k) target) where
    go : (t : Bool) → T (all_of speaking (cond t (Label (name_at s (label_place s k)) ∷ []) []))
    go true = tt
    go false = tt

  labels_speak : (target : ℕ) → T (all_of speaking (labels_say s target))
  unfolding labels_say
  labels_speak target = all_flat speaking (label_says s target) (listed 0 (label_count s) (λ k. k)) (label_speaks target)

  cell_speaks : (k : ℕ) → T (all_of speaking (cell_says s k))
  unfolding cell_says all_of
  cell_speaks k = all_append speaking (labels_say s k) _ (labels_speak k) tt

  -- Every line that an image stands for says something.
  pub lines_speak : T (all_of speaking (listed_lines s))
  unfolding listed_lines variable_says
  lines_speak =
      let xs = listed 0 (variable_count s) (variable_says s) in
      let ys = flat_map (cell_says s) (listed 0 (cell_count s) (λ k. k)) in
      let zs = labels_say s (cell_count s) in
      all_append speaking xs (ys ++ zs) (all_listed (variable_says s) speaking 0 (variable_count s) (λ k h. tt))
      (all_append speaking ys zs (all_flat speaking (cell_says s) (listed 0 (cell_count s) (λ k. k)) cell_speaks) (labels_speak (cell_count s)))

pub listing_clear : (s : List ℕ) → checked s ≡ 0 → T (all_of (λ l. not (faulty l)) (lines (listing s)))
unfolding said
listing_clear s e =
    let t : T (all_of speaking (said (listing s))) = subst (λ (xs : List Line). T (all_of speaking xs)) (sym (listing_said s e)) (lines_speak s) in
    all_then (λ l. speaking (heard l)) (λ l. not (faulty l)) clear (lines (listing s)) (all_map speaking heard (lines (listing s)) t)
