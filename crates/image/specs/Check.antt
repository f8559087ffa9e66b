-- Document 01, "Refusal numbers": what makes an image bad, field by field, one test for each row of the table.
-- Assumes nothing.
use Rattle.std.specs.Prelude.{Bool, true, false, cond, ◌&&◌, ◌||◌, not, List, [], ◌∷◌, ℕ, ◌+◌, ◌*◌, ◌-◌, ◌/◌, ◌%◌, eqb, leb, ltb, length}
use Rattle.numbers.specs.Bytes.{field}
use Rattle.numbers.specs.Bits.{signed32}
use Rattle.numbers.specs.Tests.{eq_list, any_of, any_below, lowest}
use Rattle.program.specs.Names.{Name, free_name}
use Rattle.program.specs.Variables.{in_range, literals, present, read_only, most_cells, most_labels, most_variables}
use Rattle.program.specs.Cells.{no_target}
use Rattle.image.specs.Layout.{image_length, first_label_place, cell_count, label_count, variable_count, edition, whole_length, label_place, label_target, variable_place, start_value, name_at}

-- Refusals 11, Image 14: shorter than a trailer or longer than the longest image.
unfoldable pub bad_length : List ℕ → Bool
bad_length s = ltb (length s) 16 || ltb 5008 (length s)

-- Refusals 12.
unfoldable pub bad_edition : List ℕ → Bool
bad_edition s = not (eqb (edition s) 1)

-- Refusals 13: place, counts, whole length and the image's length against each other, and each count against its limit.
unfoldable pub bad_trailer : List ℕ → Bool
bad_trailer s =
    not (eqb (first_label_place s) (16 * cell_count s))
    || (not (eqb (whole_length s) (length s))
    || (not (eqb (image_length (cell_count s) (label_count s) (variable_count s)) (length s))
    || (ltb most_cells (cell_count s) || (ltb most_labels (label_count s) || ltb most_variables (variable_count s)))))

-- Image 6, Image 7: which fields an operation uses: the variable written, the operators or comparisons up to this number, the operands, the target.
pub record Use : Type 0 where
  pub operation : ℕ
  pub writes : Bool
  pub selectors : ℕ
  pub left : Bool
  pub right : Bool
  pub target : Bool

abbrev pub uses : ℕ → Bool → ℕ → Bool → Bool → Bool → Use
uses operation writes selectors left right target =
    record { operation = operation; writes = writes; selectors = selectors; left = left; right = right; target = target }

-- Text 17, Image 4, Image 7: each operation with the fields that it may use together; BR, CL and H have two such sets.
unfoldable pub layouts : List Use
layouts =
    uses 1 true 0 true false false
    ∷ uses 2 true 7 true true false
    ∷ uses 3 true 0 false false false
    ∷ uses 4 true 0 false false false
    ∷ uses 5 false 0 false false true
    ∷ uses 5 false 6 true true true
    ∷ uses 6 false 0 false false true
    ∷ uses 6 false 6 true true true
    ∷ uses 7 false 0 false false false
    ∷ uses 8 false 0 false false false
    ∷ uses 9 false 0 false false false
    ∷ uses 9 false 0 true false false
    ∷ uses 10 false 0 false false true
    ∷ uses 11 false 0 true false false
    ∷ uses 12 false 0 true false false
    ∷ uses 13 false 0 true false false
    ∷ uses 14 false 0 true false false
    ∷ []

-- Refusals 26: the variable written is there and not read-only; unused, it is 0.
unfoldable pub good_written : ℕ → Bool → ℕ → Bool
good_written variables used v = cond used (present variables v && not (read_only v)) (eqb v 0)

-- Image 6: an operator or comparison from 1 up to the last; unused, it is 0.
unfoldable pub good_selector : ℕ → ℕ → Bool
good_selector last n = cond (eqb last 0) (eqb n 0) (leb 1 n && leb n last)

-- Refusals 26, Image 6: a literal in its range or a variable that is there; unused, shape and number are 0.
unfoldable pub good_operand : ℕ → Bool → ℕ → ℕ → Bool
good_operand variables used shape n =
    cond used
    ((eqb shape 1 && in_range literals (signed32 n)) || (eqb shape 2 && present variables n))
    (eqb shape 0 && eqb n 0)

-- Refusals 26: a label record has the target, or it is that of `OE 0`; unused, it is 0.
unfoldable pub good_target : List ℕ → ℕ → Bool → ℕ → Bool
good_target s operation used target =
    cond used
    ((eqb operation 10 && eqb target no_target) || any_below (label_count s) (λ k. eqb (label_target s k) target))
    (eqb target 0)

-- Image 6: the cell from this place on has just these fields.
unfoldable pub fits : List ℕ → ℕ → Use → Bool
fits s place u =
    eqb (field 1 place s) u.operation
    && (good_written (variable_count s) u.writes (field 1 (place + 1) s)
    && (good_selector u.selectors (field 1 (place + 2) s)
    && (good_operand (variable_count s) u.left (field 1 (place + 3) s % 4) (field 4 (place + 4) s)
    && (good_operand (variable_count s) u.right (field 1 (place + 3) s / 4) (field 4 (place + 8) s)
    && (good_target s u.operation u.target (field 2 (place + 12) s) && eqb (field 2 (place + 14) s) 0)))))

-- Refusals 14, Refusals 26: some cell has none of the layouts.
unfoldable pub bad_cell : List ℕ → ℕ → Bool
bad_cell s k = not (any_of (fits s (16 * k)) layouts)

unfoldable pub bad_cells : List ℕ → Bool
bad_cells s = any_below (cell_count s) (bad_cell s)

-- The place of a name record, the labels' first.
unfoldable pub record_place : List ℕ → ℕ → ℕ
record_place s k = cond (ltb k (label_count s)) (label_place s k) (variable_place s (k - label_count s))

unfoldable pub record_name : List ℕ → ℕ → Name
record_name s k = name_at s (record_place s k)

-- Refusals 27, Q-10 4: a bad or reserved name, or one that a record before has.
unfoldable pub bad_name : List ℕ → ℕ → Bool
bad_name s k = not (free_name (record_name s k)) || any_below k (λ j. eq_list (record_name s j) (record_name s k))

-- Refusals 27: a label target below the one before it, or over the cell count.
unfoldable pub bad_target : List ℕ → ℕ → Bool
bad_target s k = (leb 1 k && ltb (label_target s k) (label_target s (k - 1))) || ltb (cell_count s) (label_target s k)

-- Refusals 27, Image 11: a start value outside its range, or two zeros that are none.
unfoldable pub bad_start : List ℕ → ℕ → Bool
bad_start s k = not (eqb (field 2 (variable_place s k + 2) s) 0) || not (in_range literals (start_value s k))

-- Refusals 15, Refusals 27.
unfoldable pub bad_records : List ℕ → Bool
bad_records s =
    any_below (label_count s + variable_count s) (bad_name s)
    || (any_below (label_count s) (bad_target s) || any_below (variable_count s) (bad_start s))

-- The rows 21 to 25.
unfoldable pub image_faults : List ℕ → List Bool
image_faults s = bad_length s ∷ bad_edition s ∷ bad_trailer s ∷ bad_cells s ∷ bad_records s ∷ []

-- Refusals 23: the lowest of 21 to 25 that holds; 0 where the image is accepted.
unfoldable pub checked : List ℕ → ℕ
checked s = lowest 21 (image_faults s)
