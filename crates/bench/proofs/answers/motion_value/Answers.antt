-- `motion_value` meets its contract: the target or the velocity, 0 when still.
use mathlib.Core.Path.{◌≡◌, ◌∙◌}
use mir.Syntax.{w32}
use mir.Val.{to_z, of_z}
use Rattle.bench.specs.Answers.{motion_value}
use borrow.Author.Rules.{rules}
use Rattle.bench.proofs.answers.motion_value.Goals as goal

pub returns-in-Still : goal.returns-in-Still
unfolding motion_value
returns-in-Still c = rw c.in-Still.is

pub returns-in-To : goal.returns-in-To
unfolding motion_value
returns-in-To c =
    let back : to_z w32 (of_z w32 c.in-To.target) ≡ c.in-To.target = search rules in
    back ∙ rw c.in-To.is

pub returns-in-Slewing : goal.returns-in-Slewing
unfolding motion_value
returns-in-Slewing c =
    let back : to_z w32 (of_z w32 c.in-Slewing.velocity) ≡ c.in-Slewing.velocity = search rules in
    back ∙ rw c.in-Slewing.is
