-- `are_good` meets its contract: the invariant: the pairs that are left are good behind the last number exactly if all are.
-- Assumes nothing.
use mathlib.Core.Path.{◌≡◌}
use Rattle.settings.specs.Layout.{pairs_of, good_pairs}
use Rattle.settings.proofs.Loops.{rest}
use Rattle.settings.proofs.layout.are_good.Given as goal

abbrev pub invariant-loop-i : goal.invariant-loop-i
invariant-loop-i l = good_pairs l.last (rest l.s l.count l.i) ≡ good_pairs 0 (pairs_of l.s)
