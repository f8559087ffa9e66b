-- `operand` meets its contract.
-- Assumes nothing.
use mathlib.Core.Path.{refl, ap, ◌∙◌}
use borrow.Author.Tests.{eq-eqb, ne_eqb}
use Rattle.image.specs.Layout.{operand_at}
use Rattle.printing.specs.Code.{packed, packed_in, operand_text}
use Rattle.printing.proofs.Pieces.{one_word}
use Rattle.printing.proofs.statements.operand.Goals as goal

pub returns-then-shape-eq-LITERAL : goal.returns-then-shape-eq-LITERAL
unfolding operand_at operand_text
returns-then-shape-eq-LITERAL c = rw (eq-eqb _ 1 c.if-shape-eq-LITERAL.true, ← c.read4-number.ensures) c.literal.ensures

pub returns-then-shape-eq-VARIABLE : goal.returns-then-shape-eq-VARIABLE
unfolding operand_at operand_text
returns-then-shape-eq-VARIABLE c =
    rw (ne_eqb _ 1 c.if-shape-eq-LITERAL.false, eq-eqb _ 2 c.if-shape-eq-VARIABLE.true, ← c.read4-number.ensures) (one_word _ ∙ ap packed c.variable_key.ensures)

pub returns : goal.returns
unfolding operand_at operand_text packed packed_in
returns c = rw (ne_eqb _ 1 c.if-shape-eq-LITERAL.false, ne_eqb _ 2 c.if-shape-eq-VARIABLE.false) refl
