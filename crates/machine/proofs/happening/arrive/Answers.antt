-- `arrive` meets its contract: by the kind of motion.
-- Assumes nothing.
use mathlib.Core.Path.{◌≡◌}
use borrow.Author.Rules.{rules}
use mir.Val.{to_z, of_z}
use mir.Syntax.{w32}
use Rattle.machine.proofs.Inputs.{arrived_still, arrived_to, arrived_slewing}
use Rattle.machine.proofs.happening.arrive.Goals as goal

pub returns-in-Still : goal.returns-in-Still
returns-in-Still c = arrived_still c.in-Still.is

pub returns-in-To : goal.returns-in-To
returns-in-To c =
    let e : to_z w32 (of_z w32 c.in-To.target) ≡ c.in-To.target = search rules in
    rw e (arrived_to c.in-To.is)

pub returns-in-Slewing : goal.returns-in-Slewing
returns-in-Slewing c = arrived_slewing c.in-Slewing.is
