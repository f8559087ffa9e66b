-- `check` meets its contract: its number is the one that the image is checked as.
use mathlib.Core.Path.{ap}
use Prim.Native.Nat.{ℕ}
use Rattle.bench.specs.Running.{checked_as}
use Rattle.bench.proofs.check.Goals as goal

pub returns : goal.returns
unfolding checked_as
returns c = record { answers = ap (λ (n : ℕ). record { number = n }) c.checked.ensures }
