-- `count` meets its contract: the invariant: what was counted and what is left make up all entries.
-- Assumes nothing.
use mathlib.Core.Path.{ap}
use native.Mathlib.Omega.{arith}
use lib.ListN.{length}
use Rattle.comparing.proofs.Entries.{rest_all, count_more, count_end, one_most}
use Rattle.comparing.proofs.Sides.count.Goals as goal

pub loop-k-init : goal.loop-k-init
loop-k-init c = (omega (arith, ap length (rest_all _ _ c.longer-end.ensures)), omega arith)

pub loop-k-preserved : goal.loop-k-preserved
loop-k-preserved c =
    let l = c.loop-k in
    (count_more _ _ _ l.k l.entries c.loop-k-test.true c.sum_at.ensures c.from-entries.ensures l.invariant.0, omega (arith, l.invariant.1, one_most _ c.from-entries.ensures))

pub returns : goal.returns
returns c =
    let l = c.loop-k in
    (count_end _ _ _ l.k l.entries (omega arith) l.invariant.0, omega (arith, c.longer-end.ensures))
