-- `signed` meets its contract: it hands back the digits as they stand.
-- Assumes nothing.
use mathlib.Core.Path.{◌∙◌}
use Rattle.numbers.proofs.Kit.{fit32, back32}
use Rattle.numbers.proofs.Laws.{bits_signed}
use Rattle.numbers.proofs.signed.Goals as goal

pub returns : goal.returns
returns c = back32 (fit32 _ c.cast_signed.type_inv) ∙ c.cast_signed.ensures ∙ bits_signed c.args.n
