-- `end` meets its contract.
-- Assumes nothing.
use mathlib.Core.Path.{refl}
use borrow.Author.Tests.{le-leb, lt-leb}
use Rattle.printing.specs.Code.{comma_if, end_of}
use Rattle.printing.proofs.statements.end.Goals as goal

pub returns-then-operation-le-SET_WITH : goal.returns-then-operation-le-SET_WITH
unfolding end_of
returns-then-operation-le-SET_WITH c = rw (le-leb _ 2 c.if-operation-le-SET_WITH.true) refl

pub returns-then-more-is_jump : goal.returns-then-more-is_jump
unfolding end_of comma_if
returns-then-more-is_jump c = rw (lt-leb _ 2 c.if-operation-le-SET_WITH.false, ← c.is_jump.ensures, c.if-more-is_jump.true) refl

pub returns : goal.returns
unfolding end_of comma_if
returns c = rw (lt-leb _ 2 c.if-operation-le-SET_WITH.false, ← c.is_jump.ensures, c.if-more-is_jump.false) refl
