-- `whole_event` meets its contract: each field is read where specs/ has it, and its bytes are there.
-- Assumes nothing.
use native.Mathlib.Omega.{arith}
use Rattle.numbers.proofs.Laws.{field_one}
use Rattle.program.proofs.Results.{got32}
use Rattle.events.specs.Events.{event_at}
use Rattle.events.proofs.Scripts.{event_inside}
use Rattle.events.proofs.script.whole_event.Goals as goal

pub four-requires : goal.four-requires
four-requires c = omega (arith, event_inside c.args.s.now c.args.k c.requires.0)

pub bounds-s-at : goal.bounds-s-at
bounds-s-at c = omega (arith, event_inside c.args.s.now c.args.k c.requires.0)

pub bounds-s-at-2 : goal.bounds-s-at-2
bounds-s-at-2 c = omega (arith, event_inside c.args.s.now c.args.k c.requires.0)

pub two-requires : goal.two-requires
two-requires c = omega (arith, event_inside c.args.s.now c.args.k c.requires.0)

pub four-requires-2 : goal.four-requires-2
four-requires-2 c = omega (arith, event_inside c.args.s.now c.args.k c.requires.0)

pub returns : goal.returns
unfolding event_at
returns c =
    simp (c.four.ensures, ← field_one, c.two.ensures, got32 _ _ c.signed.type_inv c.signed.ensures, c.four-2.ensures)
