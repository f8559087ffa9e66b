-- The listing has as many lines of each kind as its image has cells, labels and variables.
-- Assumes nothing.
use mathlib.Core.Path.{◌≡◌, refl, ap, ◌∙◌}
use mathlib.Core.Bool.{Bool, true, false, cond}
use mathlib.Core.List.{List, [], ◌∷◌, ◌++◌, flat_map}
use Prim.Native.Nat.{ℕ, suc, ◌+◌}
use native.Mathlib.Omega.{arith}
use lib.ListN.{length}
use Rattle.text.specs.Forms.{Line}
use Rattle.text.specs.Faults.{how_many, makes_cell, makes_label, makes_variable}
use Rattle.names.proofs.Lines.{count_append}
use Rattle.image.specs.Layout.{cell_count, label_count, variable_count}
use Rattle.listing.specs.Listed.{variable_says, labels_say, listed_lines}
use Rattle.listing.proofs.Lists.{length_flat, flat_none}
use Rattle.listing.proofs.Recorded.{Recorded}
use Rattle.listing.proofs.Order.{label_line, cell_line, body, front, front_body, of_labels, only_cells, only_variables, no_label}

-- A mark for a line that passes the test.
abbrev tally : (Line → Bool) → Line → List ℕ
tally p x = cond (p x) (0 ∷ []) []

pub count_tally : (p : Line → Bool) (xs : List Line) → how_many p xs ≡ length (flat_map (tally p) xs)
unfolding how_many flat_map
count_tally p [] = refl
count_tally p (x ∷ xs) = rw (count_tally p xs) (go (p x) (flat_map (tally p) xs))
  where
    go : (b : Bool) (l : List ℕ) → cond b (suc (length l)) (length l) ≡ length (cond b (0 ∷ []) [] ++ l)
    go true l = refl
    go false l = refl

-- None of the labels of a target makes a cell.
pub labels_no_cell : (s : List ℕ) (t : ℕ) → how_many makes_cell (labels_say s t) ≡ 0
unfolding makes_cell
labels_no_cell s t = count_tally makes_cell (labels_say s t) ∙ ap length (no_label s (tally makes_cell) (λ w. refl) t)

module _ (s : List ℕ) (r : Recorded s) where
  count_both : (p : Line → Bool) → how_many p (listed_lines s) ≡ length (flat_map (tally p) (front s)) + length (flat_map (tally p) (body s))
  count_both p =
      let a = count_tally p (front s) in
      let b = count_tally p (body s) in
      ap (how_many p) (front_body s) ∙ count_append p (front s) (body s) ∙ omega arith

  pub cells_counted : how_many makes_cell (listed_lines s) ≡ cell_count s
  unfolding makes_cell variable_says
  cells_counted =
      let f = tally makes_cell in
      let a = ap length (only_variables s f) in
      let b = ap length (flat_none (λ k. f (variable_says s k)) 0 (variable_count s) (λ k l m. refl)) in
      let c = ap length (only_cells s f (λ w. refl)) in
      let d = length_flat (λ k. f (cell_line s k)) 1 0 (cell_count s) (λ k. refl) in
      count_both makes_cell ∙ omega arith

  pub labels_counted : how_many makes_label (listed_lines s) ≡ label_count s
  unfolding makes_label variable_says
  labels_counted =
      let f = tally makes_label in
      let a = ap length (only_variables s f) in
      let b = ap length (flat_none (λ k. f (variable_says s k)) 0 (variable_count s) (λ k l m. refl)) in
      let c = ap length (of_labels s r f (λ w. refl)) in
      let d = length_flat (λ k. f (label_line s k)) 1 0 (label_count s) (λ k. refl) in
      count_both makes_label ∙ omega arith

  pub variables_counted : how_many makes_variable (listed_lines s) ≡ variable_count s
  unfolding makes_variable variable_says
  variables_counted =
      let f = tally makes_variable in
      let a = ap length (only_variables s f) in
      let b = length_flat (λ k. f (variable_says s k)) 1 0 (variable_count s) (λ k. refl) in
      let c = ap length (only_cells s f (λ w. refl)) in
      let d = ap length (flat_none (λ k. f (cell_line s k)) 0 (cell_count s) (λ k l m. refl)) in
      count_both makes_variable ∙ omega arith
