-- `both` meets its contract, by the law over the operation.
-- Assumes nothing.
use mathlib.Core.Path.{refl}
use Prim.Native.Nat.{min}
use lib.Bits.{bit_and, and_step}
use Rattle.numbers.specs.Bits.{and32}
use Rattle.numbers.proofs.Laws.{same}
use Rattle.numbers.proofs.both.Goals as goal

pub returns : goal.returns
unfolding and32
returns c = same min bit_and and_step refl c.args.a c.args.b c.ranges.a c.ranges.b
