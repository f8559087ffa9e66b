-- `decimal` meets its contract: one word, or two where there are many digits.
-- Assumes nothing.
use native.Mathlib.Omega.{arith}
use lib.Dec.{lit<}
use Rattle.printing.proofs.Packed.{decimal_one, decimal_two}
use Rattle.printing.proofs.words.decimal.Goals as goal

pub returns-then-n-lt-MANY : goal.returns-then-n-lt-MANY
returns-then-n-lt-MANY c = (decimal_one _ c.digits.ensures.0, lit< tt)

pub returns : goal.returns
returns c = let p = c.digits-2 in (decimal_two _ (omega arith) (omega arith) p.ensures.0 c.digits-3.ensures.0, p.ensures.1)
