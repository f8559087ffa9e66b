-- The bound on the bytes of a listing is reached: an accepted image whose listing has 9,472 of them.
-- Assumes nothing.
use mathlib.Core.Path.{◌≡◌, refl, sym, ap, ◌∙◌}
use mathlib.Core.Bool.{true, false, and-false}
use mathlib.Core.List.{List, [], ◌++◌, flat_map, append_assoc}
use Prim.Native.Nat.{ℕ, suc, ◌+◌, ◌*◌, ◌-◌, ◌≤◌, ◌<◌}
use native.Mathlib.Nat.{zero-add}
use native.Mathlib.Omega.{arith}
use lib.Dec.{eqb, lit<, lit≤}
use lib.IntN.{ℤ, negsuc}
use lib.ListN.{length, length-append}
use mir.Syntax.{w32}
use mir.Val.{SFits}
use Rattle.numbers.specs.Bytes.{ascii, bytes, field}
use Rattle.numbers.specs.Tests.{lowest, first_below, eq_list}
use Rattle.numbers.proofs.Tests.{no_any, any_below_lem, first_here}
use Rattle.numbers.proofs.Truth.{if_below}
use Rattle.program.specs.Statements.{Literal, AtMost, Compare, BR, Statement, operands, writes, targets, compared}
use Rattle.program.specs.Cells.{cell_of, jump_of, operand_of, comparison_number, same, value_of, comparison_of, condition_of, statement_by, statement_of}
use Rattle.program.specs.declared.Cell.{Cell}
use Rattle.text.specs.Forms.{comparison_sign}
use Rattle.image.specs.Layout.{cell_bytes, label_bytes, variable_bytes, trailer_bytes, cell_count, label_count, variable_count, cell_at, label_place, label_target, variable_place, start_value, name_at}
use Rattle.image.specs.Check.{bad_length, bad_edition, bad_trailer, bad_cell, bad_cells, record_name, bad_name, bad_target, bad_start, bad_records, image_faults, checked}
use Rattle.image.specs.Code.{labelled}
use Rattle.image.proofs.Laws.{length_cell}
use Rattle.image.proofs.Back.{GoodOperand, GoodCell, cell_count_back, label_count_back, variable_count_back, cell_back, name_back, label_back, start_back, zeros_back}
use Rattle.image.proofs.Accepted.{length_accepted, edition_accepted, trailer_accepted, Writes, Reads, Names, Acceptable, statement_accepted}
use Rattle.printing.specs.Listing.{printed, width, plain, label_name, value_text, condition_text, statement_text, line, variable_line, label_line, listing}
use Rattle.listing.proofs.Lists.{numbers, flat_at, length_flat}
use Rattle.listing.proofs.Sums.{sum_least}
use Rattle.listing.proofs.Accepted.{record_label, record_variable}
use Rattle.listing.proofs.Spare.{name_of, name_good, names_apart}
use Rattle.listing.proofs.Size.{variable_size, cell_size, listing_sum, listing_size}

-- ---- the image

-- A literal of 11 bytes, and the cell of a statement with two of them.
abbrev least : ℤ
least = negsuc 2147483646

abbrev longest_statement : Statement ℕ
longest_statement = BR 0 (Compare (Literal least) AtMost (Literal least))

abbrev longest_cell : Cell
longest_cell = cell_of same same longest_statement

-- The bytes of each cell, of each label and of each variable.
abbrev cell_part : ℕ → List ℕ
cell_part k = cell_bytes longest_cell

abbrev label_part : ℕ → List ℕ
label_part k = label_bytes (name_of k) 0

abbrev variable_part : ℕ → List ℕ
variable_part k = variable_bytes (name_of (160 + k)) least

-- As many of each as an image may have.
abbrev cells : List ℕ
cells = flat_map cell_part (numbers 0 256)

abbrev labels : List ℕ
labels = flat_map label_part (numbers 0 160)

abbrev variables : List ℕ
variables = flat_map variable_part (numbers 0 32)

abbrev front : List ℕ
front = cells ++ (labels ++ variables)

abbrev trailer : List ℕ
trailer = trailer_bytes 256 160 32

unfoldable pub longest_image : List ℕ
longest_image = front ++ trailer

-- ---- its parts

-- A part of an image at a place.
record Piece (s part : List ℕ) (place : ℕ) : Type 0 where
  before : List ℕ
  rest : List ℕ
  whole : s ≡ before ++ (part ++ rest)
  stands : length before ≡ place

-- One of n parts of one length.
piece : (g : ℕ → List ℕ) (w : ℕ) → ((k : ℕ) → length (g k) ≡ w) → {s : List ℕ} (xs ys : List ℕ) (n k : ℕ) {place : ℕ}
    → s ≡ xs ++ (flat_map g (numbers 0 n) ++ ys) → length xs + w * k ≡ place → k < n → Piece s (g k) place
piece g w each xs ys n k e p h = record {
  before = xs ++ flat_map g (numbers 0 k);
  rest = flat_map g (numbers (suc k) (n - suc k)) ++ ys;
  whole = e ∙ ap (λ (l : List ℕ). xs ++ (l ++ ys)) (flat_at g n k h) ∙ simp append_assoc;
  stands = length-append xs (flat_map g (numbers 0 k)) ∙ ap (λ (l : ℕ). length xs + l) (length_flat g w 0 k each) ∙ p;
}

cell_length : (k : ℕ) → length (cell_part k) ≡ 16
cell_length k = length_cell longest_cell

label_length : (k : ℕ) → length (label_part k) ≡ 4
unfolding label_bytes bytes
label_length k = refl

variable_length : (k : ℕ) → length (variable_part k) ≡ 8
unfolding variable_bytes bytes
variable_length k = refl

cells_length : length cells ≡ 4096
cells_length = length_flat cell_part 16 0 256 cell_length

labels_length : length labels ≡ 640
labels_length = length_flat label_part 4 0 160 label_length

variables_length : length variables ≡ 256
variables_length = length_flat variable_part 8 0 32 variable_length

front_length : length front ≡ 4992
front_length = simp (length-append, cells_length, labels_length, variables_length)

cell_count_lem : cell_count longest_image ≡ 256
unfolding longest_image
cell_count_lem = cell_count_back front 256 160 32 (lit< tt)

label_count_lem : label_count longest_image ≡ 160
unfolding longest_image
label_count_lem = label_count_back front 256 160 32 (lit< tt)

variable_count_lem : variable_count longest_image ≡ 32
unfolding longest_image
variable_count_lem = variable_count_back front 256 160 32 (lit< tt)

label_place_lem : (k : ℕ) → length cells + 4 * k ≡ label_place longest_image k
unfolding label_place
label_place_lem k = rw (cells_length, cell_count_lem)

variable_place_lem : (k : ℕ) → length (cells ++ labels) + 8 * k ≡ variable_place longest_image k
unfolding variable_place
variable_place_lem k = rw (length-append, cells_length, labels_length, cell_count_lem, label_count_lem) (omega arith)

cell_piece : (k : ℕ) → k < 256 → Piece longest_image (cell_part k) (16 * k)
unfolding longest_image
cell_piece k h = piece cell_part 16 cell_length [] (labels ++ (variables ++ trailer)) 256 k (simp append_assoc) (zero-add (16 * k)) h

label_piece : (k : ℕ) → k < 160 → Piece longest_image (label_part k) (label_place longest_image k)
unfolding longest_image
label_piece k h = piece label_part 4 label_length cells (variables ++ trailer) 160 k (simp append_assoc) (label_place_lem k) h

variable_piece : (k : ℕ) → k < 32 → Piece longest_image (variable_part k) (variable_place longest_image k)
unfolding longest_image
variable_piece k h = piece variable_part 8 variable_length (cells ++ labels) trailer 32 k (simp append_assoc) (variable_place_lem k) h

-- ---- what is read back

least_fits : SFits w32 least
least_fits = record { sfits = lit< tt }

cell_good : GoodCell longest_cell
unfolding cell_of jump_of operand_of comparison_number GoodOperand
cell_good = record { operation = lit< tt; written = lit< tt; selector = lit< tt; left = least_fits; right = least_fits; target = lit< tt }

cell_read : (k : ℕ) → k < 256 → cell_at longest_image k ≡ longest_cell
cell_read k h = let p = cell_piece k h in rw p.whole (cell_back longest_cell cell_good p.before p.rest k p.stands)

label_name_lem : (k : ℕ) → k < 160 → name_at longest_image (label_place longest_image k) ≡ name_of k
unfolding label_bytes
label_name_lem k h =
    let p = label_piece k h in
    ap (λ (s : List ℕ). name_at s (label_place longest_image k)) p.whole ∙ name_back (name_of k) p.before (bytes 2 0 ++ p.rest) p.stands refl

label_target_lem : (k : ℕ) → k < 160 → label_target longest_image k ≡ 0
label_target_lem k h = let p = label_piece k h in label_back longest_image k (name_of k) p.before p.rest refl 0 p.whole p.stands (lit< tt)

variable_name_lem : (k : ℕ) → k < 32 → name_at longest_image (variable_place longest_image k) ≡ name_of (160 + k)
unfolding variable_bytes
variable_name_lem k h =
    let p = variable_piece k h in
    ap (λ (s : List ℕ). name_at s (variable_place longest_image k)) p.whole ∙ name_back (name_of (160 + k)) p.before _ p.stands refl

variable_start : (k : ℕ) → k < 32 → start_value longest_image k ≡ least
variable_start k h =
    let p = variable_piece k h in
    start_back longest_image k (name_of (160 + k)) p.before p.rest refl least p.whole p.stands least_fits

variable_zeros : (k : ℕ) → k < 32 → field 2 (variable_place longest_image k + 2) longest_image ≡ 0
variable_zeros k h = let p = variable_piece k h in zeros_back longest_image k (name_of (160 + k)) p.before p.rest refl least p.whole p.stands

-- ---- it is accepted

-- The first label has the target of every cell.
first_passes : eqb (label_target longest_image 0) 0 ≡ true
first_passes = rw (label_target_lem 0 (lit< tt))

target_labelled : labelled longest_image 0 ≡ true
unfolding labelled
target_labelled = any_below_lem (λ k. eqb (label_target longest_image k) 0) (label_count longest_image) 0 (rw label_count_lem (lit< tt)) first_passes

acceptable : Acceptable same same longest_image (variable_count longest_image) longest_statement
unfolding Writes Reads Names operands writes targets compared
acceptable = record { reads = (refl, (refl, tt)); sets = tt; aims = (target_labelled, tt) }

cell_accepted : (k : ℕ) → k < 256 → bad_cell longest_image k ≡ false
cell_accepted k h =
    let p = cell_piece k h in
    rw p.whole (statement_accepted same same longest_statement p.before p.rest k cell_good p.stands (rw p.whole at acceptable))

record_name_lem : (k : ℕ) → k < 192 → record_name longest_image k ≡ name_of k
record_name_lem k h =
    if_below k 160
    (λ l. record_label longest_image k (rw label_count_lem l) ∙ label_name_lem k l)
    (λ l. let e : k ≡ 160 + (k - 160) = omega arith in
    ap (record_name longest_image) (e ∙ ap (λ (n : ℕ). n + (k - 160)) (sym label_count_lem))
    ∙ record_variable longest_image (k - 160) ∙ variable_name_lem (k - 160) (omega arith) ∙ ap name_of (sym e))

name_accepted : (k : ℕ) → k < 192 → bad_name longest_image k ≡ false
unfolding bad_name
name_accepted k h =
    rw (record_name_lem k h, name_good k h)
    (no_any (λ j. eq_list (record_name longest_image j) (name_of k)) k (λ j l. rw (record_name_lem j (omega arith)) (names_apart j k l h)))

target_accepted : (k : ℕ) → k < 160 → bad_target longest_image k ≡ false
unfolding bad_target
target_accepted k h = rw (label_target_lem k h, label_target_lem (k - 1) (omega arith), cell_count_lem) (rw and-false)

start_accepted : (k : ℕ) → k < 32 → bad_start longest_image k ≡ false
unfolding bad_start
start_accepted k h = rw (variable_zeros k h, variable_start k h)

cells_accepted : bad_cells longest_image ≡ false
unfolding bad_cells
cells_accepted = rw cell_count_lem (no_any (bad_cell longest_image) 256 cell_accepted)

records_accepted : bad_records longest_image ≡ false
unfolding bad_records
records_accepted =
    rw (
      label_count_lem,
      variable_count_lem,
      no_any (bad_name longest_image) 192 name_accepted,
      no_any (bad_target longest_image) 160 target_accepted,
      no_any (bad_start longest_image) 32 start_accepted,
    )

length_good : bad_length longest_image ≡ false
unfolding longest_image
length_good = length_accepted front 256 160 32 front_length (lit≤ tt) (lit≤ tt) (lit≤ tt)

edition_good : bad_edition longest_image ≡ false
unfolding longest_image
edition_good = edition_accepted front 256 160 32 front_length (lit≤ tt) (lit≤ tt) (lit≤ tt)

trailer_good : bad_trailer longest_image ≡ false
unfolding longest_image
trailer_good = trailer_accepted front 256 160 32 front_length (lit≤ tt) (lit≤ tt) (lit≤ tt)

pub longest_accepted : checked longest_image ≡ 0
unfolding checked image_faults lowest
longest_accepted = rw (length_good, edition_good, trailer_good, cells_accepted, records_accepted)

-- ---- its listing

-- All that a line with literals computes with.
line_with_literals : Unit {0}
unfolding line ascii plain printed width first_below
line_with_literals = tt

-- Each variable has 18 bytes, each cell 31, and each label 6, where it stands: before the first cell.
variable_size_lem : (k : ℕ) → k < 32 → variable_size longest_image k ≡ 18
unfolding line_with_literals variable_line
variable_size_lem k h = rw (variable_name_lem k h, variable_start k h)

first_name : label_name longest_image 0 ≡ name_of 0
unfolding label_name
first_name =
    let f = first_here (λ k. eqb (label_target longest_image k) 0) (label_count longest_image) 0 (rw label_count_lem (lit< tt)) (λ j l. absurd (omega arith)) first_passes in
    rw f (label_name_lem 0 (lit< tt))

cell_stated : statement_of longest_cell ≡ longest_statement
unfolding cell_of jump_of operand_of comparison_number statement_of statement_by condition_of comparison_of value_of
cell_stated = refl

cell_size_lem : (k : ℕ) → k < 256 → cell_size longest_image k ≡ 31
unfolding line_with_literals statement_text condition_text value_text comparison_sign
cell_size_lem k h = rw (cell_read k h, cell_stated, first_name)

label_size : (k : ℕ) → k < 160 → length (label_line longest_image 0 k) ≡ 6
unfolding label_line line ascii
label_size k h = rw (label_target_lem k h, label_name_lem k h)

at_least : 9472 ≤ length (listing longest_image)
at_least =
    omega (
      arith,
      listing_sum longest_image,
      sum_least 18 0 (variable_count longest_image) (variable_size longest_image) (λ k h. omega (arith, variable_size_lem k (omega (arith, variable_count_lem)))),
      sum_least 31 0 (cell_count longest_image) (cell_size longest_image) (λ k h. omega (arith, cell_size_lem k (omega (arith, cell_count_lem)))),
      sum_least 6 0 (label_count longest_image) (λ k. length (label_line longest_image 0 k)) (λ k h. omega (arith, label_size k (omega (arith, label_count_lem)))),
      variable_count_lem,
      cell_count_lem,
      label_count_lem,
    )

pub longest_size : length (listing longest_image) ≡ 9472
longest_size = omega (arith, listing_size longest_image longest_accepted, at_least)
