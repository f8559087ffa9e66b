-- `first_bad_event` meets its contract: the invariant: no event passed is bad.
-- Assumes nothing.
use mathlib.Core.Path.{◌≡◌}
use mathlib.Core.Bool.{false}
use Prim.Native.Nat.{ℕ, ◌<◌}
use Rattle.events.specs.Events.{bad_event}
use Rattle.events.proofs.script.first_bad_event.Given as goal

abbrev pub invariant-loop-k : goal.invariant-loop-k
invariant-loop-k l = (j : ℕ) → j < l.k → bad_event l.s j ≡ false
