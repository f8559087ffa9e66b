-- Document 01, "Image": what stands in which byte, written and read back.
-- Assumes nothing.
use Rattle.std.specs.Prelude.{cond, List, ◌++◌, ℕ, ◌+◌, ◌*◌, ◌-◌, ◌/◌, ◌%◌, eqb, ℤ, length, take, drop}
use Rattle.numbers.specs.Bytes.{bytes, field}
use Rattle.numbers.specs.Bits.{digits32, signed32}
use Rattle.numbers.specs.Tests.{listed}
use Rattle.program.specs.Names.{Name}
use Rattle.program.specs.Cells.{cell}
use Rattle.program.specs.declared.Cell.{Cell}
use Rattle.program.specs.declared.Operand.{Operand}
use Rattle.program.specs.declared.Operand.TheVariants.{Nothing, Literal, Variable}

-- Image 6: the shape of an operand.
unfoldable pub shape : Operand → ℕ
shape Nothing = 0
shape (Literal z) = 1
shape (Variable v) = 2

-- Image 6: the number in an operand's four bytes.
unfoldable pub operand_number : Operand → ℕ
operand_number Nothing = 0
operand_number (Literal z) = digits32 z
operand_number (Variable v) = v

-- Image 6: the 16 bytes of a cell.
unfoldable pub cell_bytes : Cell → List ℕ
cell_bytes c =
    bytes 1 c.operation ++ (bytes 1 c.written ++ (bytes 1 c.selector ++ (bytes 1 (shape c.left + 4 * shape c.right)
    ++ (bytes 4 (operand_number c.left) ++ (bytes 4 (operand_number c.right) ++ (bytes 2 c.target ++ bytes 2 0))))))

-- Image 10: a label record; its name has two characters.
unfoldable pub label_bytes : Name → ℕ → List ℕ
label_bytes name target = name ++ bytes 2 target

-- Image 11: a variable record.
unfoldable pub variable_bytes : Name → ℤ → List ℕ
variable_bytes name start = name ++ (bytes 2 0 ++ bytes 4 (digits32 start))

-- Image 1, Image 13: the length of an image with these counts.
unfoldable pub image_length : ℕ → ℕ → ℕ → ℕ
image_length cells labels variables = 16 * cells + (4 * labels + (8 * variables + 16))

-- Image 13: the trailer.
unfoldable pub trailer_bytes : ℕ → ℕ → ℕ → List ℕ
trailer_bytes cells labels variables =
    bytes 4 (16 * cells) ++ (bytes 2 cells ++ (bytes 2 labels ++ (bytes 2 variables ++ (bytes 2 1 ++ bytes 4 (image_length cells labels variables)))))

-- Image 1, Image 13: where the trailer stands, and its fields.
unfoldable pub trailer_place : List ℕ → ℕ
trailer_place s = length s - 16

unfoldable pub first_label_place : List ℕ → ℕ
first_label_place s = field 4 (trailer_place s) s

unfoldable pub cell_count : List ℕ → ℕ
cell_count s = field 2 (trailer_place s + 4) s

unfoldable pub label_count : List ℕ → ℕ
label_count s = field 2 (trailer_place s + 6) s

unfoldable pub variable_count : List ℕ → ℕ
variable_count s = field 2 (trailer_place s + 8) s

unfoldable pub edition : List ℕ → ℕ
edition s = field 2 (trailer_place s + 10) s

unfoldable pub whole_length : List ℕ → ℕ
whole_length s = field 4 (trailer_place s + 12) s

-- Image 6: an operand of this shape, read back from its place.
unfoldable pub operand_at : ℕ → ℕ → List ℕ → Operand
operand_at shape place s = cond (eqb shape 1) (Literal (signed32 (field 4 place s))) (cond (eqb shape 2) (Variable (field 4 place s)) Nothing)

-- Image 6: the cell with this number, from 0, read back.
unfoldable pub cell_at : List ℕ → ℕ → Cell
cell_at s k =
    cell (field 1 (16 * k) s) (field 1 (16 * k + 1) s) (field 1 (16 * k + 2) s)
    (operand_at (field 1 (16 * k + 3) s % 4) (16 * k + 4) s) (operand_at (field 1 (16 * k + 3) s / 4) (16 * k + 8) s)
    (field 2 (16 * k + 12) s)

-- Image 1, Image 10: where the label record with this number stands, and its target.
unfoldable pub label_place : List ℕ → ℕ → ℕ
label_place s k = 16 * cell_count s + 4 * k

unfoldable pub label_target : List ℕ → ℕ → ℕ
label_target s k = field 2 (label_place s k + 2) s

-- Image 1, Image 11: where the variable record with this number stands, and its start value.
unfoldable pub variable_place : List ℕ → ℕ → ℕ
variable_place s k = 16 * cell_count s + (4 * label_count s + 8 * k)

unfoldable pub start_value : List ℕ → ℕ → ℤ
start_value s k = signed32 (field 4 (variable_place s k + 4) s)

-- Image 12: the start values, in order of declaration.
unfoldable pub start_values : List ℕ → List ℤ
start_values s = listed 0 (variable_count s) (start_value s)

-- Image 10, Image 11: the two name bytes of a record.
unfoldable pub name_at : List ℕ → ℕ → Name
name_at s place = take 2 (drop place s)
