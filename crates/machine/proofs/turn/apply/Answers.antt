-- `apply` meets its contract: by the effect.
-- Assumes nothing.
use mathlib.Core.Path.{◌≡◌}
use mir.Val.{to_z, of_z}
use mir.Syntax.{w32}
use Rattle.machine.specs.Code.{changed}
use Rattle.machine.proofs.Turns.{unchanged}
use borrow.Author.Rules.{rules}
use Rattle.machine.proofs.turn.apply.Goals as goal

pub returns-in-Fails : goal.returns-in-Fails
unfolding changed
returns-in-Fails c = rw c.in-Fails.is c.flag.ensures

pub returns-in-Stores : goal.returns-in-Stores
unfolding changed
returns-in-Stores c =
    let z' : to_z w32 (of_z w32 c.in-Stores.value) ≡ c.in-Stores.value = search rules in
    rw c.in-Stores.is (simp z' at c.store.ensures)

pub returns-in-Moves : goal.returns-in-Moves
unfolding changed
returns-in-Moves c =
    let z' : to_z w32 (of_z w32 c.in-Moves.target) ≡ c.in-Moves.target = search rules in
    rw c.in-Moves.is (simp z' at c.set_moving.ensures)

pub returns-in-Slews : goal.returns-in-Slews
unfolding changed
returns-in-Slews c =
    let z' : to_z w32 (of_z w32 c.in-Slews.velocity) ≡ c.in-Slews.velocity = search rules in
    rw c.in-Slews.is (simp (c.slew.ensures, z') at c.set_moving-in-Slews.ensures)

pub returns-in_default : goal.returns-in_default
returns-in_default c =
    let d = c.in_default in
    unchanged c.args.does _ (record { fails = d.not-Fails; stores = d.not-Stores; moves = d.not-Moves; slews = d.not-Slews })
