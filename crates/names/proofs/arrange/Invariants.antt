-- `arrange` meets its contract. The loop's invariant: entering the lines that are left gives the whole.
-- Assumes nothing.
use Rattle.text.specs.Lines.{lines}
use Rattle.names.proofs.Arranging.{Arranging}
use Rattle.names.proofs.arrange.Given as goal

abbrev pub invariant-loop-k : goal.invariant-loop-k
invariant-loop-k l =
    goal.iterator-loop-k.can_next l.k-iterator × goal.iterator-loop-k.is_finite l.k-iterator
    × Arranging l.s l.rows l.counts l.k-iterator.count (lines l.k-iterator.iter.rest.now)
