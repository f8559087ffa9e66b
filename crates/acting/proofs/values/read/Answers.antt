-- `read` meets its contract: past the last variable stands 0.
-- Assumes nothing.
use mathlib.Core.Path.{◌≡◌, ◌∙◌}
use lib.IntN.{pos}
use native.Mathlib.Omega.{arith}
use borrow.Author.Rules.{rules}
use mir.Val.{to_z, of_z}
use mir.Syntax.{w32}
use Rattle.std.specs.Prelude.{unwrap_or, option_map}
use Rattle.effects.specs.Effects.{read}
use Rattle.acting.proofs.values.read.Goals as goal

pub returns-in-Some : goal.returns-in-Some
unfolding read
returns-in-Some c =
    let back : to_z w32 (of_z w32 c.in-Some.value.now) ≡ c.in-Some.value.now = search rules in
    back ∙ (rw c.in-Some.is at (c.get.ensures.lookup.4 (omega arith) (pos 0)))

pub returns-in-None : goal.returns-in-None
unfolding read
returns-in-None c = rw c.in-None.is at (c.get.ensures.lookup.4 (omega arith) (pos 0))
