-- The start values, one after the other, and the events of a turn.
-- Assumes nothing.
use mathlib.Core.Path.{◌≡◌}
use mathlib.Core.List.{List}
use Prim.Native.Nat.{ℕ, suc, ◌+◌, ◌-◌, ◌<◌}
use native.Mathlib.Omega.{arith}
use lib.IntN.{ℤ, pos}
use lib.ListN.{length, get_or, set, take}
use lib.Seq.{take-suc, length-take-le}
use Rattle.numbers.proofs.Laws.{sets_append}
use Rattle.program.specs.Variables.{start_variables}
use Rattle.events.specs.declared.Event.{Event}
use Rattle.events.specs.Events.{event_at}
use Rattle.machine.specs.declared.Machine.{Machine}
use Rattle.machine.specs.Turn.{with_variables, start_machine}
use Rattle.machine.specs.Happens.{happens}
use Rattle.machine.specs.Code.{acts}

-- One more start value.
pub start_more : (values : List ℤ) (k : ℕ) → k < length values
    → with_variables (set (start_machine (take k values)).variables (32 + k) (get_or values k (pos 0))) (start_machine (take k values)) ≡ start_machine (take (suc k) values)
unfolding start_machine start_variables
start_more values k h =
    rw (take-suc values k (pos 0) h, sets_append (take k values), length-take-le k values (omega arith))

-- One event more has acted.
pub acts_more : (s : List ℕ) (k last : ℕ) (m : Machine) → k < last → {e : Event} {m' : Machine} → e ≡ event_at s k → m' ≡ happens e m → acts s (k + 1) (last - (k + 1)) m' ≡ acts s k (last - k) m
unfolding acts
acts_more s k last m h ee em = let n : last - k ≡ suc (last - (k + 1)) = omega arith in rw (n, em, ee)
