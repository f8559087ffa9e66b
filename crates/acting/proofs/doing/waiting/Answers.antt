-- `waiting` meets its contract: MV is 1 where its bits are.
-- Assumes nothing.
use Rattle.effects.specs.Effects.{waiting}
use Rattle.acting.proofs.Kit.{is_one, not_one}
use Rattle.acting.proofs.doing.waiting.Goals as goal

pub returns-then-read-eq1 : goal.returns-then-read-eq1
unfolding waiting
returns-then-read-eq1 c = let x = c.read in simp (is_one _ _ x.type_inv x.ensures c.if-read-eq1.true)

pub returns : goal.returns
unfolding waiting
returns c = let x = c.read in simp (not_one _ _ x.type_inv x.ensures c.if-read-eq1.false)
