-- `are_good` meets its contract: the invariant: the pairs that are left are good behind the last number exactly if all are.
-- Assumes nothing.
use mathlib.Core.Path.{sym, ap, ◌∙◌}
use native.Mathlib.Omega.{arith}
use Rattle.settings.specs.Layout.{good_pairs}
use Rattle.settings.proofs.Loops.{rest_all, good_next, good_not, good_end}
use Rattle.settings.proofs.layout.are_good.Goals as goal

pub loop-i-init : goal.loop-i-init
loop-i-init c = ap (good_pairs 0) (rest_all _ _ c.pair_count-count.ensures)

pub returns-then-not-is_next : goal.returns-then-not-is_next
returns-then-not-is_next c =
    let l = c.loop-i in
    sym (sym l.invariant ∙ good_not _ _ l.i l.last c.loop-i-test.true c.pair_at-p.ensures c.is_next.ensures c.if-not-is_next.true)

pub loop-i-preserved : goal.loop-i-preserved
loop-i-preserved c =
    let l = c.loop-i in
    sym (good_next _ _ l.i l.last c.loop-i-test.true c.pair_at-p.ensures c.is_next.ensures c.if-not-is_next.false) ∙ l.invariant

pub returns : goal.returns
returns c = let l = c.loop-i in sym (good_end _ _ l.i l.last (omega arith)) ∙ l.invariant
