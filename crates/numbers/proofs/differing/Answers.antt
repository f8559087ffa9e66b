-- `differing` meets its contract, by the law over the operation.
-- Assumes nothing.
use mathlib.Core.Path.{refl}
use lib.Bits.{differ, bit_xor, xor_step}
use Rattle.numbers.specs.Bits.{xor32}
use Rattle.numbers.proofs.Laws.{same}
use Rattle.numbers.proofs.differing.Goals as goal

pub returns : goal.returns
unfolding xor32
returns c = same differ bit_xor xor_step refl c.args.a c.args.b c.ranges.a c.ranges.b
