-- `line_faults` meets its contract. The loop's invariant: the faults of the lines that are left, over what the buffer has, give the whole.
-- Assumes nothing.
use Rattle.text.specs.Lines.{lines}
use Rattle.names.proofs.Surveying.{Judging}
use Rattle.names.proofs.line_faults.Given as goal

abbrev pub invariant-loop-line : goal.invariant-loop-line
invariant-loop-line l = Judging l.s l.initial.faults l.faults l.counts l.lines (lines l.line-iterator.rest.now)
