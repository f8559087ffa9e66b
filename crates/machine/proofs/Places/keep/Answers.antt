-- `Places::keep` meets its contract: one place is set.
-- Assumes nothing.
use borrow.Author.Rules.{rules}
use Rattle.machine.specs.Turn.{keep}
use Rattle.machine.proofs.Places.keep.Goals as goal

pub returns : goal.returns
unfolding keep
returns c = search rules
