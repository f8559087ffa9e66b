-- `holds` meets its contract: a selector of 0, or the comparison of both operands.
-- Assumes nothing.
use borrow.Author.Tests.{eq-eqb, ne_eqb}
use Rattle.program.specs.Cells.{condition_of}
use Rattle.effects.specs.Effects.{holds}
use Rattle.program.proofs.Results.{got32}
use Rattle.acting.proofs.values.holds.Goals as goal

pub returns-then-cell-eq-ALWAYS : goal.returns-then-cell-eq-ALWAYS
unfolding holds condition_of
returns-then-cell-eq-ALWAYS c = simp (eq-eqb _ _ c.if-cell-eq-ALWAYS.true)

pub returns : goal.returns
unfolding holds condition_of
returns c =
    let x = c.value in
    let y = c.value-2 in
    simp (ne_eqb _ _ c.if-cell-eq-ALWAYS.false, c.compares.ensures, got32 _ _ x.type_inv x.ensures, got32 _ _ y.type_inv y.ensures)
