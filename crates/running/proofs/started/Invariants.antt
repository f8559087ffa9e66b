-- `started` meets its contract. The invariant: the machine has the start values passed.
-- Assumes nothing.
use mathlib.Core.Path.{◌≡◌}
use Prim.Native.Nat.{◌≤◌}
use lib.ListN.{take}
use Rattle.image.specs.Layout.{start_values}
use Rattle.machine.specs.Turn.{start_machine}
use Rattle.running.proofs.started.Given as goal

abbrev pub invariant-loop-k : goal.invariant-loop-k
invariant-loop-k l = (l.k ≤ l.count) × (l.machine ≡ start_machine (take l.k (start_values l.image)))
