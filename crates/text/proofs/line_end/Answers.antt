-- `line_end` meets its contract. The loop's invariant: what is left of the line from here gives the whole.
-- Assumes nothing.
use mathlib.Core.Path.{sym, ◌∙◌}
use native.Mathlib.Numerals.{add-one}
use native.Mathlib.Omega.{arith}
use Rattle.text.proofs.Lines.{length_more, length_stop, length_end}
use Rattle.text.proofs.line_end.Goals as goal

pub returns-then-at_end : goal.returns-then-at_end
returns-then-at_end c =
    omega (arith, length_stop c.args.s.now c.loop-end.end c.loop-end-test.true (sym c.at_end.ensures ∙ c.if-at_end.true))

pub loop-end-preserved : goal.loop-end-preserved
loop-end-preserved c =
    simp add-one
    (omega (arith, length_more c.args.s.now c.loop-end.end c.loop-end-test.true (sym c.at_end.ensures ∙ c.if-at_end.false)))

pub returns : goal.returns
returns c = omega (arith, length_end c.args.s.now c.loop-end.end c.loop-end-test.false)
