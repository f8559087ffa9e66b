-- `recorded` meets its contract: by the effect.
-- Assumes nothing.
use mathlib.Core.Path.{◌≡◌, ◌∙◌}
use mir.Val.{Fits, to_z, of_z}
use mir.Syntax.{w8, w32}
use Rattle.machine.specs.Turn.{applied}
use Rattle.machine.proofs.Kit.{byte_up}
use Rattle.machine.proofs.Turns.{error_recorded, records_nothing}
use borrow.Author.Rules.{rules}
use Rattle.machine.proofs.recording.recorded.Goals as goal

pub returns-in-Fails : goal.returns-in-Fails
unfolding applied
returns-in-Fails c = λ cells m. let f : Fits w8 c.in-Fails.error = search rules in rw c.in-Fails.is (rw (byte_up f) (error_recorded c.in-Fails.error m))

pub returns-in-Stores : goal.returns-in-Stores
unfolding applied
returns-in-Stores c = λ cells m. let z' : to_z w32 (of_z w32 c.in-Stores.value) ≡ c.in-Stores.value = search rules in rw c.in-Stores.is (simp z' at c.stored.ensures)

pub returns-in-Moves : goal.returns-in-Moves
unfolding applied
returns-in-Moves c = λ cells m. let z' : to_z w32 (of_z w32 c.in-Moves.value) ≡ c.in-Moves.value = search rules in rw (c.in-Moves.is, z')

pub returns-in-Slews : goal.returns-in-Slews
unfolding applied
returns-in-Slews c = λ cells m. let z' : to_z w32 (of_z w32 c.in-Slews.velocity) ≡ c.in-Slews.velocity = search rules in rw (c.in-Slews.is, z')

pub returns-in-Prints : goal.returns-in-Prints
unfolding applied
returns-in-Prints c = λ cells m. let z' : to_z w32 (of_z w32 c.in-Prints.value) ≡ c.in-Prints.value = search rules in rw (c.in-Prints.is, z')

pub returns-in_default : goal.returns-in_default
returns-in_default c =
    let d = c.in_default in
    λ cells m. c.nothing.ensures ∙ records_nothing c.args.does cells m (record { fails = d.not-Fails; stores = d.not-Stores; moves = d.not-Moves; slews = d.not-Slews; prints = d.not-Prints })
