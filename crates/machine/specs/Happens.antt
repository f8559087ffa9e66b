-- Document 01, "Events and records": what an event does.
-- Assumes nothing.
use Rattle.std.specs.Prelude.{cond, List, ℕ, ◌+◌, eqb, ℤ, set}
use Rattle.program.specs.Variables.{all_inputs}
use Rattle.events.specs.declared.Event.{Event}
use Rattle.machine.specs.declared.Machine.{Machine}
use Rattle.machine.specs.declared.Motion.{Motion}
use Rattle.machine.specs.declared.Motion.TheVariants.{Still, To, Slewing}
use Rattle.machine.specs.Turn.{with_variables, in_motion}

-- Events 2: an input takes a value, and IN (20) with it; inputs are 16 to 19.
unfoldable pub input : ℕ → ℤ → List ℤ → List ℤ
input n z vars = let seen = set vars (15 + n) z in set seen 20 (all_inputs seen)

-- Events 2: arrival stops a move, and P (5) is where the move went; an axis that stands or slews takes no notice.
unfoldable pub arrived_by : Motion → Machine → Machine
arrived_by Still m = m
arrived_by (To z) m = in_motion Still (with_variables (set m.variables 5 z) m)
arrived_by (Slewing z) m = m

-- Events 2: what an event of kind 1, 2 or 3 does.
unfoldable pub happens : Event → Machine → Machine
happens e m =
    cond (eqb e.kind 1) (with_variables (input e.number e.value m.variables) m)
    (cond (eqb e.kind 2) (arrived_by m.motion m)
    (with_variables (set m.variables 5 e.value) m))
