-- `label_targets` meets its contract. The invariant: the targets passed are marked.
-- Assumes nothing.
use Prim.Native.Nat.{◌≤◌}
use Rattle.image.specs.Layout.{label_target}
use Rattle.cells.specs.Code.{Marked}
use Rattle.cells.proofs.label_targets.Given as goal

abbrev pub invariant-loop-k : goal.invariant-loop-k
invariant-loop-k l = (l.k ≤ l.k-end) × Marked 257 (label_target l.s) l.k l.marks
