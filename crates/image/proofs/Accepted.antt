-- What the writer makes is accepted, row by row: the trailer, and the cell of each statement whose names are there.
-- Assumes nothing.
use mathlib.Core.Path.{◌≡◌, refl, ap, ◌∙◌}
use mathlib.Core.Bool.{Bool, true, false, ◌&&◌, not, or-true}
use mathlib.Core.List.{List, ◌++◌}
use Prim.Native.Nat.{ℕ, ◌+◌, ◌*◌, ◌≤◌}
use native.Mathlib.Omega.{arith}
use borrow.Author.Tests.{le-ltb, le-leb, eq-eqb}
use lib.Dec.{eqb}
use lib.ListN.{length}
use Rattle.numbers.specs.Tests.{any_of}
use Rattle.numbers.proofs.Laws.{signed_digits}
use Rattle.numbers.proofs.Kit.{within32}
use Rattle.program.specs.Variables.{in_range, literals, present, read_only, most_cells, most_labels, most_variables}
use Rattle.program.specs.Cells.{cell_of, jump_of, operand_of, no_target, operator_number, comparison_number}
use Rattle.program.specs.Statements.{Value, Literal, Variable, Operator, Comparison, Always, Compare, Statement, Set, SetWith, IC, DC, BR, CL, RT, E, H, Hold, OE, Disarm, MA, MR, SL, PR, compared, operands, writes, targets}
use Rattle.program.proofs.Statements.{Refers}
use Rattle.program.proofs.Selectors.{operator_range, comparison_range}
use Rattle.program.specs.declared.Cell.{Cell}
use Rattle.program.specs.declared.Operand.TheVariants as O
use Rattle.image.specs.Layout.{shape, operand_number, cell_bytes, image_length, trailer_bytes, variable_count}
use Rattle.image.specs.Check.{bad_length, bad_edition, bad_trailer, Use, layouts, good_written, good_selector, good_operand, good_target, fits, bad_cell}
use Rattle.image.specs.Code.{labelled}
use Rattle.image.proofs.Back.{GoodCell, shapes_apart, operation_back, written_back, selector_back, shapes_back, left_back, right_back, target_back, rest_back, length_trailed, first_label_back, cell_count_back, label_count_back, variable_count_back, edition_back, whole_length_back}

-- ---- the trailer

module _ (xs : List ℕ) (cells labels variables : ℕ) (e : length xs ≡ 16 * cells + (4 * labels + 8 * variables))
    (c : cells ≤ 256) (l : labels ≤ 160) (v : variables ≤ 32) where
  abbrev made : List ℕ
  made = xs ++ trailer_bytes cells labels variables

  pub length_made : length made ≡ image_length cells labels variables
  unfolding image_length
  length_made = let t = length_trailed xs cells labels variables in omega arith

  pub length_accepted : bad_length made ≡ false
  unfolding bad_length image_length
  length_accepted = rw (length_made) (rw (le-ltb (image_length cells labels variables) 16 (omega arith), le-ltb 5008 (image_length cells labels variables) (omega arith)))

  pub edition_accepted : bad_edition made ≡ false
  unfolding bad_edition
  edition_accepted = rw (edition_back xs cells labels variables)

  pub trailer_accepted : bad_trailer made ≡ false
  unfolding bad_trailer most_cells most_labels most_variables
  trailer_accepted =
      rw (
        first_label_back xs cells labels variables (omega arith),
        whole_length_back xs cells labels variables (omega arith) (omega arith) (omega arith),
        cell_count_back xs cells labels variables (omega arith),
        label_count_back xs cells labels variables (omega arith),
        variable_count_back xs cells labels variables (omega arith),
        length_made,
      )
      (rw (
        eq-eqb (16 * cells) (16 * cells) refl,
        eq-eqb (image_length cells labels variables) (image_length cells labels variables) refl,
        le-ltb 256 cells c,
        le-ltb 160 labels l,
        le-ltb 32 variables v,
      ))

-- ---- a cell

-- The layout of a cell by its fields, for the labels of s.
unfoldable pub fits_cell : List ℕ → ℕ → Cell → Use → Bool
fits_cell s variables c u =
    eqb c.operation u.operation
    && (good_written variables u.writes c.written
    && (good_selector u.selectors c.selector
    && (good_operand variables u.left (shape c.left) (operand_number c.left)
    && (good_operand variables u.right (shape c.right) (operand_number c.right)
    && (good_target s u.operation u.target c.target && true)))))

module _ (c : Cell) (good : GoodCell c) (xs ys : List ℕ) (k : ℕ) (e : length xs ≡ 16 * k) where
  abbrev image : List ℕ
  image = xs ++ (cell_bytes c ++ ys)

  fits_cell_lem : (u : Use) → fits image (16 * k) u ≡ fits_cell image (variable_count image) c u
  unfolding fits fits_cell
  fits_cell_lem u =
      let a = shapes_apart c.left c.right (shapes_back c good xs ys k e) in
      simp (
        operation_back c good xs ys k e,
        written_back c good xs ys k e,
        selector_back c good xs ys k e,
        a.0,
        a.1,
        left_back c good xs ys k e,
        right_back c good xs ys k e,
        target_back c good xs ys k e,
        rest_back c good xs ys k e,
      )

  -- A cell that was written is bad where its fields are.
  pub cell_judged : bad_cell image k ≡ not (any_of (fits_cell image (variable_count image) c) layouts)
  unfolding bad_cell any_of layouts
  cell_judged = simp fits_cell_lem

-- ---- the cell of a statement

-- A statement with the places and numbers of its references: what it writes and reads is there, what it names has a label.
module _ {R : Type 0} (place number : R → ℕ) (s : List ℕ) (variables : ℕ) where
  unfoldable pub Writes : R → Type 0
  Writes v = (present variables (number v) && not (read_only (number v))) ≡ true

  unfoldable pub Reads : Value R → Type 0
  Reads (Literal z) = in_range literals z ≡ true
  Reads (Variable v) = present variables (number v) ≡ true

  unfoldable pub Names : R → Type 0
  Names n = labelled s (place n) ≡ true

  abbrev pub Acceptable : Statement R → Type 0
  Acceptable st = Refers Reads Writes Names st

  operand_good : (x : Value R) → Reads x
      → good_operand variables true (shape (operand_of place number x)) (operand_number (operand_of place number x)) ≡ true
  unfolding good_operand shape operand_number operand_of Reads
  operand_good (Literal z) h = rw (signed_digits z (within32 literals.lowest literals.highest z refl refl h), h)
  operand_good (Variable v) h = h

  target_good : (o n : ℕ) → labelled s n ≡ true → good_target s o true n ≡ true
  unfolding good_target labelled
  target_good o n h = rw h (or-true (eqb o 10 && eqb n no_target))

  written_good : (v : R) → Writes v → good_written variables true (number v) ≡ true
  unfolding good_written Writes
  written_good v h = h

  operator_good : (o : Operator) → good_selector 7 (operator_number o) ≡ true
  unfolding good_selector
  operator_good o = let r = operator_range o in rw (le-leb 1 (operator_number o) r.0, le-leb (operator_number o) 7 r.1) refl

  comparison_good : (c : Comparison) → good_selector 6 (comparison_number c) ≡ true
  unfolding good_selector
  comparison_good c = let r = comparison_range c in rw (le-leb 1 (comparison_number c) r.0, le-leb (comparison_number c) 6 r.1) refl

  name_good : (o : ℕ) (n : R) → Names n → good_target s o true (place n) ≡ true
  unfolding Names
  name_good o n h = target_good o (place n) h

  -- The fields that a statement does not use.
  no_written : good_written variables false 0 ≡ true
  unfolding good_written
  no_written = refl

  no_selector : good_selector 0 0 ≡ true
  unfolding good_selector
  no_selector = refl

  no_operand : good_operand variables false (shape O.Nothing) (operand_number O.Nothing) ≡ true
  unfolding good_operand shape operand_number
  no_operand = refl

  no_target_lem : (o : ℕ) → good_target s o false 0 ≡ true
  unfolding good_target
  no_target_lem o = refl

  disarmed : good_target s 10 true no_target ≡ true
  unfolding good_target no_target
  disarmed = refl

  -- The cell of an acceptable statement has a layout.
  pub statement_fits : (st : Statement R) → Acceptable st → any_of (fits_cell s variables (cell_of place number st)) layouts ≡ true
  unfolding any_of layouts fits_cell cell_of jump_of operands writes targets compared
  statement_fits (Set v x) h = simp (written_good v h.sets.0, no_selector, operand_good x h.reads.0, no_operand, no_target_lem 1)
  statement_fits (SetWith v x o y) h = simp (written_good v h.sets.0, operator_good o, operand_good x h.reads.0, operand_good y h.reads.1.0, no_target_lem 2)
  statement_fits (IC v) h = simp (written_good v h.sets.0, no_selector, no_operand, no_target_lem 3)
  statement_fits (DC v) h = simp (written_good v h.sets.0, no_selector, no_operand, no_target_lem 4)
  statement_fits (BR n Always) h = simp (no_written, no_selector, no_operand, name_good 5 n h.aims.0)
  statement_fits (BR n (Compare x c y)) h =
      simp (no_written, comparison_good c, operand_good x h.reads.0, operand_good y h.reads.1.0, name_good 5 n h.aims.0, or-true)
  statement_fits (CL n Always) h = simp (no_written, no_selector, no_operand, name_good 6 n h.aims.0)
  statement_fits (CL n (Compare x c y)) h =
      simp (no_written, comparison_good c, operand_good x h.reads.0, operand_good y h.reads.1.0, name_good 6 n h.aims.0, or-true)
  statement_fits RT h = simp (no_written, no_selector, no_operand, no_target_lem 7)
  statement_fits E h = simp (no_written, no_selector, no_operand, no_target_lem 8)
  statement_fits H h = simp (no_written, no_selector, no_operand, no_target_lem 9)
  statement_fits (Hold x) h = simp (no_written, no_selector, operand_good x h.reads.0, no_operand, no_target_lem 9, or-true)
  statement_fits (OE n) h = simp (no_written, no_selector, no_operand, name_good 10 n h.aims.0)
  statement_fits Disarm h = simp (no_written, no_selector, no_operand, disarmed)
  statement_fits (MA x) h = simp (no_written, no_selector, operand_good x h.reads.0, no_operand, no_target_lem 11)
  statement_fits (MR x) h = simp (no_written, no_selector, operand_good x h.reads.0, no_operand, no_target_lem 12)
  statement_fits (SL x) h = simp (no_written, no_selector, operand_good x h.reads.0, no_operand, no_target_lem 13)
  statement_fits (PR x) h = simp (no_written, no_selector, operand_good x h.reads.0, no_operand, no_target_lem 14)

-- The cell of an acceptable statement, written among other bytes, is accepted.
pub statement_accepted : {R : Type 0} (place number : R → ℕ) (st : Statement R) (xs ys : List ℕ) (k : ℕ)
    → GoodCell (cell_of place number st) → length xs ≡ 16 * k
    → Acceptable place number (xs ++ (cell_bytes (cell_of place number st) ++ ys)) (variable_count (xs ++ (cell_bytes (cell_of place number st) ++ ys))) st
    → bad_cell (xs ++ (cell_bytes (cell_of place number st) ++ ys)) k ≡ false
statement_accepted place number st xs ys k good e a =
    cell_judged (cell_of place number st) good xs ys k e ∙ ap not (statement_fits place number _ _ st a)
