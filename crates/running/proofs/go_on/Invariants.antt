-- `go_on` meets its contract. The invariant: what is left to run from here, behind the records in the buffer, gives the whole.
-- Assumes nothing.
use Prim.Native.Nat.{◌-◌}
use Rattle.running.specs.Code.{course_from}
use Rattle.running.proofs.Courses.{Underway}
use Rattle.running.proofs.go_on.Given as goal

abbrev pub invariant-loop-machine : goal.invariant-loop-machine
invariant-loop-machine l = Underway l.image l.events (course_from l.image l.events l.initial.machine l.turn l.first l.last) l.turn l.last l.initial.records l.records l.machine l.turns l.event l.bytes

abbrev pub decreases-loop-machine : goal.decreases-loop-machine
decreases-loop-machine l = l.last - l.turns
