-- `Word::grown` meets its contract.
-- Assumes nothing.
use borrow.Author.Tests.{eq-eqb, ne_eqb}
use Rattle.text.specs.Code.{grown}
use Rattle.text.proofs.tokens.Word.grown.Goals as goal

pub returns-then-c-eq32 : goal.returns-then-c-eq32
unfolding grown
returns-then-c-eq32 c = rw (eq-eqb _ _ c.if-c-eq32.true)

pub returns : goal.returns
unfolding grown
returns c = rw (ne_eqb _ _ c.if-c-eq32.false, c.key_with.ensures, c.value_with.ensures)
