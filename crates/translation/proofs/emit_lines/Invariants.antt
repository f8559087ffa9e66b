-- `emit_lines` meets its contract. The loop's invariant: what is left to write gives the whole.
-- Assumes nothing.
use Rattle.text.specs.Lines.{lines}
use Rattle.translation.proofs.Writing.{Writing}
use Rattle.translation.proofs.emit_lines.Given as goal

abbrev pub invariant-loop-line : goal.invariant-loop-line
invariant-loop-line l = Writing l.s l.initial.places l.initial.buffer l.buffer l.places (lines l.line-iterator.rest.now)
