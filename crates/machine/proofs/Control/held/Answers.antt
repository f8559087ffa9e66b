-- `Control::held` meets its contract: a hold that is not above 0 is 0.
-- Assumes nothing.
use mathlib.Core.Path.{◌≡◌}
use native.Mathlib.Omega.{arith}
use Rattle.numbers.proofs.Kit.{tests}
use Rattle.machine.specs.Turn.{held}
use Rattle.machine.proofs.Control.held.Goals as goal

pub returns-then-is_held : goal.returns-then-is_held
unfolding held
returns-then-is_held c = λ vars. search tests

pub returns : goal.returns
unfolding held
returns c = λ vars. let e : c.args.turns ≡ 0 = omega arith in rw e
