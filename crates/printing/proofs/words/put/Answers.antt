-- `put` meets its contract. The loops' invariant: what is left of the words, put from here on, gives the whole.
-- Assumes nothing.
use mathlib.Core.Path.{refl}
use native.Mathlib.Omega.{arith}
use Rattle.printing.proofs.Pages.{wording, word_byte, word_next, words_put, words_out, word_over}
use Rattle.printing.proofs.words.put.Goals as goal

pub loop-word-init : goal.loop-word-init
loop-word-init c = (omega arith, wording _ _ _)

pub loop-rest-init : goal.loop-rest-init
loop-rest-init c = word_next c.loop-word.invariant.1 refl (omega arith)

pub returns-then-page-i : goal.returns-then-page-i
returns-then-page-i c = words_out c.loop-rest.invariant c.if-page-i.true

pub loop-rest-preserved : goal.loop-rest-preserved
loop-rest-preserved c = word_byte c.loop-rest.invariant c.loop-rest-test.true (omega arith)

pub loop-word-preserved : goal.loop-word-preserved
loop-word-preserved c = (omega arith, word_over c.loop-rest.invariant c.loop-rest-test.false)

pub returns : goal.returns
returns c = words_put c.loop-word.invariant.1 refl (omega arith)
