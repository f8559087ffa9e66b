-- `Machine::turn` meets its contract: the events act, then the effect comes to the variables and to all else.
-- Assumes nothing.
use mathlib.Core.Path.{◌≡◌, refl, sym, ◌∙◌}
use lib.ListN.{length}
use Rattle.machine.proofs.Turns.{ready, turned_by}
use borrow.Author.Rules.{rules}
use Rattle.machine.proofs.Machine.turn.Goals as goal

pub slice_bounds-effect-end : goal.slice_bounds-effect-end
slice_bounds-effect-end c = let n : length c.args.self.variables ≡ 64 = search rules in sym (c.reach-motion.ensures.size ∙ n)

pub after-requires : goal.after-requires
after-requires c = (c.requires.0, ready _ c.args.self.places.kept c.args.self.hold _ c.effect-does.ensures)

pub returns : goal.returns
returns c =
    turned_by _ _ _ _ _ c.args.self _ c.reach-motion.ensures c.effect-does.ensures c.change.ensures refl c.after.ensures c.recorded-wrote.ensures c.stops-stops.ensures c.turned.ensures
