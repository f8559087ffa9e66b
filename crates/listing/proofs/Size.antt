-- The listing of an accepted image has at most 9,472 bytes, so it is short enough for a text: each cell and each record has one line.
-- Assumes nothing.
use mathlib.Core.Path.{◌≡◌, sym, ap, ◌∙◌}
use mathlib.Core.Bool.{false}
use mathlib.Core.List.{List, ◌++◌, flat_map}
use Prim.Native.Nat.{ℕ, suc, ◌+◌, ◌*◌, ◌≤◌}
use native.Mathlib.Nat.{zero-add}
use native.Mathlib.Omega.{arith}
use borrow.Author.Tests.{le-ltb}
use lib.ListN.{length, length-append}
use Rattle.numbers.specs.Bytes.{ascii}
use Rattle.program.specs.Cells.{statement_of}
use Rattle.text.specs.Faults.{overlong}
use Rattle.image.specs.Layout.{cell_count, label_count, variable_count, cell_at, label_place, label_target, name_at}
use Rattle.image.specs.Check.{checked}
use Rattle.printing.specs.Listing.{statement_text, line, variable_line, label_line, label_lines, cell_lines, listing}
use Rattle.listing.proofs.Lists.{numbers}
use Rattle.listing.proofs.Sums.{sum, sum_more, sum_both, sum_most, sum_turn, flat_sum, sum_once}
use Rattle.listing.proofs.Lengths.{line_length_lem, statement_short, declared_short, labelled_short}
use Rattle.listing.proofs.Accepted.{accepted}

module _ (s : List ℕ) where
  -- The bytes of the line of a variable, of a cell's statement, and of the labels of a target.
  abbrev pub variable_size : ℕ → ℕ
  variable_size k = length (variable_line s k)

  abbrev pub cell_size : ℕ → ℕ
  cell_size k = length (line (statement_text s (statement_of (cell_at s k))))

  abbrev pub labels_size : ℕ → ℕ
  labels_size t = sum 0 (label_count s) (λ k. length (label_line s t k))

  labels_sum : (t : ℕ) → length (label_lines s t) ≡ labels_size t
  unfolding label_lines
  labels_sum t = flat_sum (label_line s t) 0 (label_count s)

  -- A listing has just these lines.
  pub listing_sum : length (listing s) ≡ sum 0 (variable_count s) variable_size + (sum 0 (cell_count s) cell_size + sum 0 (suc (cell_count s)) labels_size)
  unfolding listing cell_lines
  listing_sum =
      let vs = flat_map (variable_line s) (numbers 0 (variable_count s)) in
      let cs = flat_map (cell_lines s) (numbers 0 (cell_count s)) in
      let a = length-append vs (cs ++ label_lines s (cell_count s)) in
      let b = length-append cs (label_lines s (cell_count s)) in
      let c = flat_sum (variable_line s) 0 (variable_count s) in
      let d = flat_sum (cell_lines s) 0 (cell_count s) in
      let e = sum_both 0 (cell_count s) labels_size cell_size (λ k. length (cell_lines s k))
      (λ k. length-append (label_lines s k) (line (statement_text s (statement_of (cell_at s k)))) ∙ ap (λ (n : ℕ). n + cell_size k) (labels_sum k)) in
      let f = sum_more 0 (cell_count s) labels_size in
      let g = labels_sum (cell_count s) ∙ ap labels_size (sym (zero-add (cell_count s))) in
      omega arith

  -- At most 18 bytes for each variable and 31 for each cell.
  variables_size : sum 0 (variable_count s) variable_size ≤ 18 * variable_count s
  unfolding variable_line
  variables_size = sum_most 18 0 (variable_count s) variable_size (λ k l. rw line_length_lem (omega (arith, declared_short s k)))

  cells_size : sum 0 (cell_count s) cell_size ≤ 31 * cell_count s
  cells_size = sum_most 31 0 (cell_count s) cell_size (λ k l. rw line_length_lem (omega (arith, statement_short s (statement_of (cell_at s k)))))

  -- A label stands before one target at most, so at most 6 bytes for each label.
  label_size : (k n : ℕ) → sum 0 n (λ t. length (label_line s t k)) ≤ 6
  unfolding label_line
  label_size k n =
      let l = ascii "LB " ++ name_at s (label_place s k) in
      omega (arith, sum_once (line l) (label_target s k) 0 n, line_length_lem l, labelled_short s k)

  labels_size_lem : (n : ℕ) → sum 0 n labels_size ≤ 6 * label_count s
  labels_size_lem n =
      rw (sum_turn 0 n 0 (label_count s) (λ t k. length (label_line s t k)))
      (sum_most 6 0 (label_count s) (λ k. sum 0 n (λ t. length (label_line s t k))) (λ k l. label_size k n))

-- 256 cells of at most 31 bytes, 160 labels of at most 6 and 32 variables of at most 18.
pub listing_size : (s : List ℕ) → checked s ≡ 0 → length (listing s) ≤ 9472
listing_size s e =
    let a = accepted s e in
    omega (arith, listing_sum s, variables_size s, cells_size s, labels_size_lem s (suc (cell_count s)), a.few_cells, a.few_labels, a.few_variables)

-- So the text is not overlong.
pub listing_fits : (s : List ℕ) → checked s ≡ 0 → overlong (listing s) ≡ false
unfolding overlong
listing_fits s e = le-ltb 16384 (length (listing s)) (let h = listing_size s e in omega arith)
