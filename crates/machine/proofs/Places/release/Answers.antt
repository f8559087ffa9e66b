-- `Places::release` meets its contract: past the last place nothing is set.
-- Assumes nothing.
use borrow.Author.Rules.{rules}
use Rattle.numbers.proofs.Kit.{length_held, array_set_out}
use Rattle.machine.specs.Turn.{release}
use Rattle.machine.proofs.Places.release.Goals as goal

pub returns-then-self-ge-MOST : goal.returns-then-self-ge-MOST
unfolding release
returns-then-self-ge-MOST c = rw (array_set_out _ c.args.self.all 8 _ _ (search (rules, length_held)) c.if-self-ge-MOST.true)

pub returns : goal.returns
unfolding release
returns c = rw c.by_call.ensures
