-- `eight_bytes` meets its contract: by the law for two numbers.
-- Assumes nothing.
use native.Mathlib.Omega.{arith}
use Rattle.numbers.proofs.Laws.{bytes_two}
use Rattle.numbers.proofs.eight_bytes.Goals as goal

pub returns : goal.returns
returns c = rw (c.from.ensures, c.from-2.ensures) (bytes_two 4 4 c.args.low c.args.high (omega arith))
