-- How the code goes about an image: places by the counts, for a trailer that is read once; the halves of a cell.
-- No demand reaches this; proofs/ tie it to Layout.
-- Assumes nothing.
use Rattle.std.specs.Prelude.{Bool, List, ◌++◌, ℕ, ◌+◌, ◌*◌, eqb}
use Rattle.numbers.specs.Bytes.{bytes, field}
use Rattle.numbers.specs.Tests.{any_below}
use Rattle.program.specs.declared.Cell.{Cell}
use Rattle.image.specs.Layout.{shape, operand_number, label_count, label_target}

-- Where a label record and a variable record stand, behind so many cells and labels.
abbrev pub label_place_of : ℕ → ℕ → ℕ
label_place_of cells k = 16 * cells + 4 * k

abbrev pub variable_place_of : ℕ → ℕ → ℕ → ℕ
variable_place_of cells labels k = 16 * cells + (4 * labels + 8 * k)

-- The target of a label record.
unfoldable pub target_of : ℕ → List ℕ → ℕ → ℕ
target_of cells s k = field 2 (label_place_of cells k + 2) s

-- A label record has this target.
unfoldable pub labelled : List ℕ → ℕ → Bool
labelled s target = any_below (label_count s) (λ k. eqb (label_target s k) target)

-- The first eight bytes of a cell, and the other eight.
unfoldable pub first_half : Cell → List ℕ
first_half c =
    bytes 1 c.operation ++ (bytes 1 c.written ++ (bytes 1 c.selector ++ (bytes 1 (shape c.left + 4 * shape c.right) ++ bytes 4 (operand_number c.left))))

unfoldable pub second_half : Cell → List ℕ
second_half c = bytes 4 (operand_number c.right) ++ (bytes 2 c.target ++ bytes 2 0)
