-- `either` meets its contract, by the law over the operation.
-- Assumes nothing.
use mathlib.Core.Path.{refl}
use Prim.Native.Nat.{max}
use lib.Bits.{bit_or, or_step}
use Rattle.numbers.specs.Bits.{or32}
use Rattle.numbers.proofs.Laws.{same}
use Rattle.numbers.proofs.either.Goals as goal

pub returns : goal.returns
unfolding or32
returns c = same max bit_or or_step refl c.args.a c.args.b c.ranges.a c.ranges.b
