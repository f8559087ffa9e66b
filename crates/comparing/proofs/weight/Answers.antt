-- `weight` meets its contract: by the test.
-- Assumes nothing.
use mathlib.Core.Path.{refl}
use native.Mathlib.Omega.{arith}
use Rattle.comparing.specs.Differences.{weight}
use Rattle.comparing.proofs.weight.Goals as goal

pub returns-then-same : goal.returns-then-same
unfolding weight
returns-then-same c = rw c.if-same.true (refl, omega arith)

pub returns-else-same : goal.returns-else-same
unfolding weight
returns-else-same c = rw c.if-same.false (refl, omega arith)
