-- `survey_lines` meets its contract. The loop's invariant: what is known at the start of a line.
-- Assumes nothing.
use Rattle.text.specs.Lines.{lines}
use Rattle.names.proofs.Surveying.{Surveying}
use Rattle.names.proofs.survey_lines.Given as goal

abbrev pub invariant-loop-k : goal.invariant-loop-k
invariant-loop-k l =
    goal.iterator-loop-k.can_next l.k-iterator × goal.iterator-loop-k.is_finite l.k-iterator
    × Surveying l.s l.counts l.k-iterator.count (lines l.k-iterator.iter.rest.now)
