-- `later` meets its contract. The invariant: the events passed are of the turn.
-- Assumes nothing.
use mathlib.Core.Path.{◌≡◌}
use Prim.Native.Nat.{ℕ, ◌≤◌, ◌<◌}
use Rattle.events.specs.Events.{event_at}
use Rattle.running.proofs.later.Given as goal

abbrev pub invariant-loop-k : goal.invariant-loop-k
invariant-loop-k l = (l.k ≤ l.count) × (l.first ≤ l.k) × ((j : ℕ) → j < l.k → l.first ≤ j → (event_at l.events j).turn ≡ l.turn)
