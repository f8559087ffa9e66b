-- `put` meets its contract. The loops' invariant: what is left of the words, put from here on, gives the whole.
-- Assumes nothing.
use Prim.Native.Nat.{◌+◌, ◌≤◌}
use Rattle.printing.proofs.Pages.{Wording}
use Rattle.printing.proofs.words.put.Given as goal

abbrev pub invariant-loop-word : goal.invariant-loop-word
invariant-loop-word l = (l.word-index ≤ l.word-index-end) × Wording l.words l.fn.page l.at 0 l.word-index l.page l.i

abbrev pub invariant-loop-rest : goal.invariant-loop-rest
invariant-loop-rest l = Wording l.words l.fn.page l.at l.rest (l.word-index + 1) l.page l.i

abbrev pub decreases-loop-rest : goal.decreases-loop-rest
decreases-loop-rest l = l.rest
