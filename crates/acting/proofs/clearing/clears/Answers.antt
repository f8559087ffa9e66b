-- `clears` meets its contract: the statement reads ER, and its effect is no error.
-- Assumes nothing.
use Rattle.program.proofs.Results.{held, failed}
use Rattle.effects.specs.Deeds.{in_error, clears}
use Rattle.acting.proofs.Reading.{no_error}
use Rattle.acting.proofs.clearing.clears.Goals as goal
use Rattle.acting.proofs.clearing.clears.Goals.{in-Fails, in_default}

pub returns-after-matches : goal.returns-after-matches
unfolding clears in_error
returns-after-matches c =
    let reads = held c.reads_er.ensures c.if-reads_er.true in
    elim c.match-matches.branch [ in-Fails w ↦ rw (w.matches-is, w.in-Fails.is, reads) | in_default w ↦ rw (w.matches-is, no_error _ w.in_default.not-Fails, reads) ]

pub returns-else-reads_er : goal.returns-else-reads_er
unfolding clears
returns-else-reads_er c = rw (c.if-reads_er.false, failed c.reads_er.ensures c.if-reads_er.false)
