-- `at_end` meets its contract.
-- Assumes nothing.
use mathlib.Core.Path.{refl}
use Rattle.text.proofs.Lines.{at_end_lem, not_at_end}
use Rattle.text.proofs.at_end.Goals as goal

pub returns-then-b-gt13 : goal.returns-then-b-gt13
returns-then-b-gt13 c = let a = c.args in not_at_end a.s.now a.at c.if-b-gt13.true

pub returns : goal.returns
returns c = let a = c.args in at_end_lem a.s.now a.at _ c.byte.result refl c.byte.ensures
