-- `count` meets its contract: what was read and the step are stored.
-- Assumes nothing.
use Rattle.numbers.proofs.Kit.{back32}
use Rattle.program.proofs.Results.{got32, got64}
use Rattle.acting.proofs.doing.count.Goals as goal

pub returns : goal.returns
returns c =
    let x = c.read in
    let r = c.sum in
    simp (got64 _ _ r.type_inv (simp (got32 _ _ x.type_inv x.ensures, back32 c.ranges.step) at r.ensures)) at c.storing_result.ensures
