-- `visit` meets its contract. The invariant: the places still to come, behind those in the buffer, give the whole.
-- Assumes nothing.
use Rattle.running.proofs.Visits.{Passing}
use Rattle.running.proofs.visit.Given as goal

abbrev pub invariant-loop-taken : goal.invariant-loop-taken
invariant-loop-taken l = Passing l.image l.events l.budget l.initial.visits l.visits l.machine l.taken l.event
