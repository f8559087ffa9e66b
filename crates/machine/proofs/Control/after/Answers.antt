-- `Control::after` meets its contract: each arm by what the effect is.
-- Assumes nothing.
use mathlib.Core.Path.{◌≡◌, refl, ap, ◌∙◌}
use mathlib.Core.List.{[]}
use mir.Val.{to_z, of_z}
use mir.Syntax.{w32}
use Rattle.machine.specs.declared.Machine.{Machine}
use Rattle.machine.specs.Turn.{no_handler, onward, armed, applied}
use Rattle.machine.specs.Code.{changed}
use Rattle.machine.proofs.Turns.{after_by, goes_onward}
use borrow.Author.Rules.{rules}
use Rattle.machine.proofs.Control.after.Goals as goal

pub called-requires : goal.called-requires
called-requires c = (c.requires.0, c.requires.1.calls _ c.in-Calls.is)

pub returned-requires : goal.returned-requires
returned-requires c = c.requires.1.returns c.in-Returns.is

pub onward-requires : goal.onward-requires
unfolding armed
onward-requires c = rw (ap (λ (m : Machine). m.next) (c.armed.ensures [])) c.requires.0

pub onward-requires-in-Disarms : goal.onward-requires-in-Disarms
unfolding armed
onward-requires-in-Disarms c = rw (ap (λ (m : Machine). m.next) (c.armed-in-Disarms.ensures [])) c.requires.0

pub returns-in-Fails : goal.returns-in-Fails
unfolding applied
returns-in-Fails c = after_by _ _ c.in-Fails.is (c.failed.ensures _)

pub returns-in-Goes : goal.returns-in-Goes
unfolding applied changed
returns-in-Goes c = after_by _ _ c.in-Goes.is c.at.ensures

pub returns-in-Calls : goal.returns-in-Calls
unfolding applied changed
returns-in-Calls c = after_by _ _ c.in-Calls.is c.called.ensures

pub returns-in-Returns : goal.returns-in-Returns
unfolding applied changed
returns-in-Returns c = after_by _ _ c.in-Returns.is c.returned.ensures

pub returns-in-Ends : goal.returns-in-Ends
unfolding applied changed
returns-in-Ends c = after_by _ _ c.in-Ends.is c.at-in-Ends.ensures

pub returns-in-Stays : goal.returns-in-Stays
unfolding applied changed
returns-in-Stays c = after_by _ _ c.in-Stays.is (λ vars. refl)

pub returns-in-Holds : goal.returns-in-Holds
unfolding applied changed
returns-in-Holds c = after_by _ _ c.in-Holds.is c.held.ensures

pub returns-in-Arms : goal.returns-in-Arms
unfolding applied changed
returns-in-Arms c = after_by _ _ c.in-Arms.is (λ vars. c.onward.ensures vars ∙ ap (λ (m : Machine). onward m) (c.armed.ensures vars))

pub returns-in-Disarms : goal.returns-in-Disarms
unfolding applied changed no_handler
returns-in-Disarms c = after_by _ _ c.in-Disarms.is (λ vars. c.onward-in-Disarms.ensures vars ∙ ap (λ (m : Machine). onward m) (c.armed-in-Disarms.ensures vars))

pub returns-in-Moves : goal.returns-in-Moves
unfolding applied changed
returns-in-Moves c = let x' : to_z w32 (of_z w32 c.in-Moves.target) ≡ c.in-Moves.target = search rules in after_by _ _ c.in-Moves.is (λ vars. simp x' at (c.moved.ensures vars))

pub returns-in-Slews : goal.returns-in-Slews
unfolding applied changed
returns-in-Slews c = let z' : to_z w32 (of_z w32 c.in-Slews.velocity) ≡ c.in-Slews.velocity = search rules in after_by _ _ c.in-Slews.is (λ vars. simp (c.slew.ensures, z') at (c.moved-in-Slews.ensures vars))

pub returns-in_default : goal.returns-in_default
returns-in_default c =
    let d = c.in_default in
    λ vars. goes_onward c.args.does _ vars _ _ (record { fails = d.not-Fails; goes = d.not-Goes; calls = d.not-Calls; returns = d.not-Returns; ends = d.not-Ends; stays = d.not-Stays; holds = d.not-Holds; arms = d.not-Arms; disarms = d.not-Disarms; moves = d.not-Moves; slews = d.not-Slews }) (c.onward-in_default.ensures (changed _ vars))
