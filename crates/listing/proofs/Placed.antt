-- In the lines of a listing a label has the place of its target, a variable its number.
-- Assumes nothing.
use mathlib.Core.Path.{◌≡◌, refl, sym, subst, ap, ◌∙◌}
use mathlib.Core.Bool.{Bool, true, false, cond, ◌||◌}
use mathlib.Core.List.{List, [], ◌∷◌, ◌++◌, flat_map, append_assoc, append-nil}
use mathlib.Core.Logic.{◌⊎◌, inl, inr}
use Prim.Native.Nat.{ℕ, zero, suc, ◌+◌, ◌-◌, ◌≤◌, ◌<◌}
use native.Mathlib.Nat.{eq-or-lt_of_le}
use native.Mathlib.Omega.{arith}
use borrow.Author.Tests.{eq-eqb, eqb-true, ne_eqb, lt-ltb, le-ltb}
use lib.Dec.{T, eqb, eqb→eq}
use lib.ListN.{get_or}
use Rattle.numbers.specs.Bytes.{ascii}
use Rattle.numbers.specs.Tests.{any_of, all_below, any_below, first_below, listed, eq_list, numbered}
use Rattle.program.specs.Names.{Name, variable_names, paper_variable}
use Rattle.program.proofs.Keys.{user_no_paper, free_user}
use Rattle.program.specs.Variables.{present}
use Rattle.text.specs.Forms.{Line, Label}
use Rattle.text.specs.Faults.{declares, declares_it, how_many, makes_cell, makes_variable, place_of, rank_of, number_of}
use Rattle.image.specs.Layout.{cell_count, label_count, variable_count, label_target}
use Rattle.numbers.proofs.Tests.{all_below_lem, eq_list_refl, eq_list_eq, first_found, first_passes}
use Rattle.numbers.proofs.Truth.{is_true, is_no, left_of_lem}
use Rattle.program.proofs.Ranges.{by_present}
use Rattle.printing.specs.Listing.{variable_name, label_name}
use Rattle.listing.specs.Listed.{variable_says, label_says, labels_say, cell_says, listed_lines}
use Rattle.listing.proofs.Lists.{numbers, any_flat, any_listed, none_listed}
use Rattle.listing.proofs.Accepted.{Accepted}
use Rattle.listing.proofs.Recorded.{Recorded, name_of_label, name_of_variable}
use Rattle.listing.proofs.Order.{body, front, front_body, cell_line}
use Rattle.listing.proofs.Counted.{labels_no_cell}
use Rattle.listing.proofs.Declaring.{label_not_before}

-- ---- places

module _ (w : Name) where
  -- Behind lines that do not declare the name; among lines that do, and make no cell.
  place_behind : (xs ys : List Line) → any_of (declares_it w) xs ≡ false → how_many makes_cell xs ≡ 0 → place_of (xs ++ ys) w ≡ place_of ys w
  unfolding any_of how_many place_of
  place_behind [] ys h n = refl
  place_behind (x ∷ xs) ys h n = go (declares_it w x) (any_of (declares_it w) xs) (makes_cell x) (how_many makes_cell xs) h n (place_behind xs ys)
    where
      go : (b c m : Bool) (k : ℕ) → (b || c) ≡ false → cond m (suc k) k ≡ 0 → (c ≡ false → k ≡ 0 → place_of (xs ++ ys) w ≡ place_of ys w)
          → cond b 0 (cond m (suc (place_of (xs ++ ys) w)) (place_of (xs ++ ys) w)) ≡ place_of ys w
      go true c m k e n f = absurd (subst T e tt)
      go false c true k e n f = absurd (omega arith)
      go false c false k e n f = f e n

  place_here : (xs ys : List Line) → T (any_of (declares_it w) xs) → how_many makes_cell xs ≡ 0 → place_of (xs ++ ys) w ≡ 0
  unfolding any_of how_many place_of
  place_here [] ys h n = absurd h
  place_here (x ∷ xs) ys h n = go (declares_it w x) (any_of (declares_it w) xs) (makes_cell x) (how_many makes_cell xs) h n (place_here xs ys)
    where
      go : (b c m : Bool) (k : ℕ) → T (b || c) → cond m (suc k) k ≡ 0 → (T c → k ≡ 0 → place_of (xs ++ ys) w ≡ 0)
          → cond b 0 (cond m (suc (place_of (xs ++ ys) w)) (place_of (xs ++ ys) w)) ≡ 0
      go true c m k e n f = refl
      go false c true k e n f = absurd (omega arith)
      go false c false k e n f = f e n

front_no_cell : (s : List ℕ) (from n : ℕ) → how_many makes_cell (listed from n (variable_says s)) ≡ 0
unfolding how_many listed makes_cell variable_says
front_no_cell s from zero = refl
front_no_cell s from (suc n) = front_no_cell s (suc from) n

module _ (s : List ℕ) (r : Recorded s) (k : ℕ) (l : k < label_count s) where
  abbrev w : Name
  w = name_of_label s k

  -- The label stands before its target, and before no other cell.
  label_here : (t : ℕ) → label_target s k ≡ t → T (any_of (declares_it w) (labels_say s t))
  unfolding labels_say label_says any_of declares_it declares
  label_here t e =
      subst T (sym (any_flat (declares_it w) (label_says s t) (numbers 0 (label_count s))))
      (any_listed (λ j. any_of (declares_it w) (label_says s t j)) (λ j. j) 0 (label_count s) k (omega arith) (omega arith)
      (rw (eq-eqb (label_target s k) t e) (left_of_lem (eq_list w w || false) false (left_of_lem (eq_list w w) false (eq_list_refl w)))))

  label_away : (t : ℕ) → (label_target s k ≡ t → ⊥) → any_of (declares_it w) (labels_say s t) ≡ false
  unfolding labels_say label_says any_of declares_it declares
  label_away t n =
      any_flat (declares_it w) (label_says s t) (numbers 0 (label_count s))
      ∙ none_listed (λ j. any_of (declares_it w) (label_says s t j)) (λ j. j) 0 (label_count s) (λ j g h. go j (omega arith) (eqb (label_target s j) t) refl)
    where
      go : (j : ℕ) → j < label_count s → (b : Bool) → eqb (label_target s j) t ≡ b → any_of (declares_it w) (cond b (Label (name_of_label s j) ∷ []) []) ≡ false
      go j h true e =
          let f : eq_list w (name_of_label s j) ≡ false =
          is_no (eq_list w (name_of_label s j)) (λ y. n (ap (label_target s) (r.label_once k j l h (eq_list_eq w (name_of_label s j) y)) ∙ eqb-true (label_target s j) t e)) in
          rw f
      go j h false e = refl

  placed_step : (t : ℕ) (more : List Line) → (t ≡ label_target s k) ⊎ (t < label_target s k) → (t < label_target s k → place_of more w ≡ label_target s k - suc t)
      → place_of (labels_say s t ++ (cell_line s t ∷ more)) w ≡ label_target s k - t
  unfolding place_of declares_it declares any_of makes_cell
  placed_step t more (inl e) f =
      place_here w (labels_say s t) (cell_line s t ∷ more) (label_here t (sym e)) (labels_no_cell s t) ∙ omega arith
  placed_step t more (inr m) f =
      place_behind w (labels_say s t) (cell_line s t ∷ more) (label_away t (λ e. omega arith)) (labels_no_cell s t)
      ∙ ap suc (f m) ∙ omega arith

  placed_from : (t n : ℕ) → t ≤ label_target s k → label_target s k ≤ t + n
      → place_of (flat_map (cell_says s) (numbers t n) ++ labels_say s (t + n)) w ≡ label_target s k - t
  unfolding flat_map listed cell_says
  placed_from t zero lo hi =
      let e : label_target s k ≡ t + 0 = omega arith in
      ap (λ (xs : List Line). place_of xs w) (sym (append-nil (labels_say s (t + 0))))
      ∙ place_here w (labels_say s (t + 0)) [] (label_here (t + 0) e) (labels_no_cell s (t + 0))
      ∙ omega arith
  placed_from t (suc n) lo hi =
      let more = flat_map (cell_says s) (numbers (suc t) n) ++ labels_say s (suc t + n) in
      let e : t + suc n ≡ suc t + n = omega arith in
      let cut : (cell_says s t ++ flat_map (cell_says s) (numbers (suc t) n)) ++ labels_say s (suc t + n) ≡ labels_say s t ++ (cell_line s t ∷ more) = simp append_assoc in
      rw e
      (ap (λ (xs : List Line). place_of xs w) cut
      ∙ placed_step t more (eq-or-lt_of_le lo) (λ m. placed_from (suc t) n m (omega arith)))

  pub label_placed : place_of (listed_lines s) w ≡ label_target s k
  label_placed =
      let e : 0 + cell_count s ≡ cell_count s = omega arith in
      let h = r.inside k l in
      ap (λ (xs : List Line). place_of xs w) (front_body s)
      ∙ place_behind w (front s) (body s) (label_not_before s r k l) (front_no_cell s 0 (variable_count s))
      ∙ ap (λ (n : ℕ). place_of (flat_map (cell_says s) (numbers 0 (cell_count s)) ++ labels_say s n) w) (sym e)
      ∙ placed_from 0 (cell_count s) (omega arith) (omega arith)
      ∙ omega arith

-- So a target that a label has is the place of the first label's name.
pub target_placed : (s : List ℕ) (r : Recorded s) (t : ℕ) → T (any_below (label_count s) (λ k. eqb (label_target s k) t)) → place_of (listed_lines s) (label_name s t) ≡ t
unfolding label_name
target_placed s r t h =
    let p : ℕ → Bool = λ k. eqb (label_target s k) t in
    let l = first_found p (label_count s) h in
    label_placed s r (first_below (label_count s) p) l ∙ eqb-true (label_target s (first_below (label_count s) p)) t (first_passes p (label_count s) l)

-- ---- numbers

module _ (s : List ℕ) (r : Recorded s) (k : ℕ) (l : k < variable_count s) where
  ranked_step : (from : ℕ) (more : List Line) → from < variable_count s → (from ≡ k) ⊎ (from < k) → (from < k → rank_of more (name_of_variable s k) ≡ k - suc from)
      → rank_of (variable_says s from ∷ more) (name_of_variable s k) ≡ k - from
  unfolding rank_of declares_it declares any_of makes_variable variable_says
  ranked_step from more h (inl e) f =
      let t : eq_list (name_of_variable s k) (name_of_variable s from) ≡ true =
      is_true (eq_list (name_of_variable s k) (name_of_variable s from)) (subst (λ (j : ℕ). T (eq_list (name_of_variable s k) (name_of_variable s j))) (sym e) (eq_list_refl (name_of_variable s k))) in
      rw t (omega arith)
  ranked_step from more h (inr i) f =
      let t : eq_list (name_of_variable s k) (name_of_variable s from) ≡ false =
      is_no (eq_list (name_of_variable s k) (name_of_variable s from))
      (λ y. let e = r.variable_once k from l h (eq_list_eq (name_of_variable s k) (name_of_variable s from) y) in omega arith) in
      rw t (ap suc (f i) ∙ omega arith)

  ranked_from : (ys : List Line) (from n : ℕ) → from ≤ k → k < from + n → from + n ≤ variable_count s
      → rank_of (listed from n (variable_says s) ++ ys) (name_of_variable s k) ≡ k - from
  unfolding listed
  ranked_from ys from zero lo hi m = absurd (omega arith)
  ranked_from ys from (suc n) lo hi m =
      ranked_step from (listed (suc from) n (variable_says s) ++ ys) (omega arith) (eq-or-lt_of_le lo) (λ i. ranked_from ys (suc from) n i (omega arith) (omega arith))

  pub variable_ranked : rank_of (listed_lines s) (name_of_variable s k) ≡ k
  variable_ranked =
      ap (λ (xs : List Line). rank_of xs (name_of_variable s k)) (front_body s)
      ∙ ranked_from (body s) 0 (variable_count s) (omega arith) (omega arith) (omega arith)
      ∙ omega arith

-- The paper's names have their places in the table.
pub paper_numbered : (i : ℕ) → i < 20 → paper_variable (get_or variable_names i []) ≡ suc i
unfolding paper_variable variable_names ascii numbered eq_list all_below
paper_numbered i h = eqb→eq (paper_variable (get_or variable_names i [])) (suc i) (all_below_lem (λ j. eqb (paper_variable (get_or variable_names j [])) (suc j)) 20 tt i h)

-- A variable that is there is found again by its name.
pub variable_numbered : (s : List ℕ) (a : Accepted s) (r : Recorded s) (v : ℕ) → T (present (variable_count s) v) → number_of (listed_lines s) (variable_name s v) ≡ v
unfolding variable_name number_of
variable_numbered s a r v t =
    by_present (variable_count s) v t
    (λ l m.
    let e = paper_numbered (v - 1) (omega arith) in
    let f : suc (v - 1) ≡ v = omega arith in
    rw (lt-ltb v 32 (omega arith), e, f, ne_eqb v 0 (λ z. omega arith)))
    (λ l m.
    let e = user_no_paper (name_of_variable s (v - 32)) (free_user _ (a.variable_name (v - 32) (omega arith))) in
    let k = variable_ranked s r (v - 32) (omega arith) in
    rw (le-ltb v 32 l, e, k) (omega arith))
