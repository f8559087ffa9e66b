-- How the code goes about a cell: its fields as they stand, a layout as a row of a table, the targets of labels marked in a table.
-- No demand reaches this; proofs/ tie it to Check.
-- Assumes nothing.
use Rattle.std.specs.Prelude.{◌≡◌, Bool, false, cond, ◌&&◌, List, ℕ, ◌+◌, ◌*◌, ◌/◌, ◌%◌, ◌<◌, eqb, length, get_or}
use Rattle.numbers.specs.Bytes.{field}
use Rattle.numbers.specs.Bits.{signed32}
use Rattle.numbers.specs.Tests.{any_below}
use Rattle.program.specs.Variables.{in_range, literals}
use Rattle.image.specs.Check.{Use, uses, good_written, good_selector, good_operand}
use Rattle.cells.specs.declared.Fields.{Fields}

-- A table has a mark at each number below `size` that `key` gives for one of the first n.
pub record Marked (size : ℕ) (key : ℕ → ℕ) (n : ℕ) (marks : List Bool) : Type 0 where
  pub long : length marks ≡ size
  pub each : (x : ℕ) → x < size → get_or marks x false ≡ any_below n (λ k. eqb (key k) x)

-- 32 digits that are those of a literal.
unfoldable pub literal_bits : ℕ → Bool
literal_bits n = in_range literals (signed32 n)

-- A cell's fields as they stand, and whether they are those of a layout.
unfoldable pub fields_at : List ℕ → ℕ → Fields
fields_at s k =
    record {
      operation = field 1 (16 * k) s;
      written = field 1 (16 * k + 1) s;
      selector = field 1 (16 * k + 2) s;
      shapes = field 1 (16 * k + 3) s;
      left = field 4 (16 * k + 4) s;
      right = field 4 (16 * k + 8) s;
      target = field 2 (16 * k + 12) s;
      zeros = field 2 (16 * k + 14) s;
    }

-- A row of the code's table, as a layout.
unfoldable pub use_of : ℕ × Bool × ℕ × Bool × Bool × Bool → Use
use_of (operation, writes, last, left, right, target) = uses operation writes last left right target

-- Whether the target is good where one is used was found before.
unfoldable pub fits_of : ℕ → Bool → Fields → Use → Bool
fits_of variables aimed f u =
    eqb f.operation u.operation
    && (good_written variables u.writes f.written
    && (good_selector u.selectors f.selector
    && (good_operand variables u.left (f.shapes % 4) f.left
    && (good_operand variables u.right (f.shapes / 4) f.right
    && (cond u.target aimed (eqb f.target 0) && eqb f.zeros 0)))))
