-- `Event::is_arrival` meets its contract: a value is 0 where its bits are.
-- Assumes nothing.
use borrow.Author.Rules.{rules}
use mir.Val.{SFits}
use mir.Syntax.{w32}
use Rattle.program.proofs.Results.{zero_test}
use Rattle.events.proofs.Event.is_arrival.Goals as goal

pub returns : goal.returns
returns c =
    let f : SFits w32 c.args.self.value = search rules in
    rw (zero_test _ f)
