-- `sign` meets its contract.
-- Assumes nothing.
use borrow.Author.Tests.{eq-eqb, ne_eqb}
use Rattle.printing.specs.Code.{packed, packed_in, sign_text}
use Rattle.printing.proofs.statements.sign.Goals as goal

pub returns-then-operation-eq-SET_WITH : goal.returns-then-operation-eq-SET_WITH
unfolding sign_text
returns-then-operation-eq-SET_WITH c = rw (eq-eqb _ _ c.if-operation-eq-SET_WITH.true) c.operator_sign.ensures

pub returns-then-is_jump : goal.returns-then-is_jump
unfolding sign_text
returns-then-is_jump c = rw (ne_eqb _ _ c.if-operation-eq-SET_WITH.false, ← c.is_jump.ensures, c.if-is_jump.true) c.comparison_sign.ensures

pub returns : goal.returns
unfolding sign_text packed packed_in
returns c = rw (ne_eqb _ _ c.if-operation-eq-SET_WITH.false, ← c.is_jump.ensures, c.if-is_jump.false)
