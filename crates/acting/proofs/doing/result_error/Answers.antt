-- `result_error` meets its contract: the lower end of the range is that of the definition.
-- Assumes nothing.
use mathlib.Core.Path.{◌≡◌}
use mathlib.Core.Bool.{true, false}
use lib.Signed.{lt_z}
use mir.Facts.{to_z-of_z}
use mir.Syntax.{w64}
use Rattle.program.specs.Variables.{literals}
use Rattle.effects.specs.Errors.{result_error}
use Rattle.acting.proofs.doing.result_error.Goals as goal

pub returns-then-res-literals : goal.returns-then-res-literals
unfolding result_error
returns-then-res-literals c =
    let below : lt_z c.args.res literals.lowest ≡ true = simp (to_z-of_z {w = w64} c.ranges.res, c.literals.ensures) at c.if-res-literals.true in
    rw below

pub returns : goal.returns
unfolding result_error
returns c =
    let inside : lt_z c.args.res literals.lowest ≡ false = simp (to_z-of_z {w = w64} c.ranges.res, c.literals.ensures) at c.if-res-literals.false in
    rw inside
