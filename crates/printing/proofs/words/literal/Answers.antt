-- `literal` meets its contract, by its value.
-- Assumes nothing.
use mathlib.Core.Path.{ap, ◌∙◌}
use native.Mathlib.Omega.{arith}
use mir.Syntax.{w32}
use mir.Facts.{to_z-of_z}
use Rattle.numbers.proofs.Kit.{fit32}
use Rattle.printing.specs.Listing.{plain}
use Rattle.printing.proofs.Packed.{plain_positive, plain_negative}
use Rattle.printing.proofs.words.literal.Goals as goal

pub returns-then-value-ge0 : goal.returns-then-value-ge0
returns-then-value-ge0 c =
    let e = to_z-of_z {w = w32} (fit32 _ c.signed-value.type_inv) in
    c.decimal-two.ensures.0 ∙ plain_positive _ c.if-value-ge0.true c.unsigned_abs.ensures.value ∙ ap plain (e ∙ c.signed-value.ensures)

pub overflow_mul-result : goal.overflow_mul-result
overflow_mul-result c = omega (arith, c.decimal-two.ensures.1)

pub overflow_add-result : goal.overflow_add-result
overflow_add-result c = omega (arith, c.decimal-two.ensures.1)

pub returns : goal.returns
returns c =
    let e = to_z-of_z {w = w32} (fit32 _ c.signed-value.type_inv) in
    plain_negative _ _ _ c.if-value-ge0.false c.unsigned_abs.ensures.value c.decimal-two.ensures.0 ∙ ap plain (e ∙ c.signed-value.ensures)
