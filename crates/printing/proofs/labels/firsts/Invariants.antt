-- `firsts` meets its contract. The loop's invariant: entering the records that are left gives the whole.
-- Assumes nothing.
use Rattle.printing.proofs.Targets.{Entering}
use Rattle.printing.proofs.labels.firsts.Given as goal

abbrev pub invariant-loop-k : goal.invariant-loop-k
invariant-loop-k l = Entering l.image l.firsts l.k
