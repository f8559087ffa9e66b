-- `is_printable` meets its contract. The loop's invariant: what was found so far and the bytes from here on decide.
-- Assumes nothing.
use mathlib.Core.Path.{◌∙◌}
use Rattle.text.proofs.Scanning.{printable_more, printable_end}
use Rattle.text.proofs.tokens.is_printable.Goals as goal

pub loop-b-preserved : goal.loop-b-preserved
loop-b-preserved c =
    printable_more c.args.l.now c.loop-b.b-index c.loop-b.all c.loop-b-test.true c.is_allowed-all.ensures ∙ c.loop-b.invariant

pub returns : goal.returns
returns c = printable_end c.args.l.now c.loop-b.b-index c.loop-b.all c.loop-b-test.false ∙ c.loop-b.invariant
