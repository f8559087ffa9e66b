-- `Refusal::index` meets its contract: only an event has one.
-- Assumes nothing.
use mathlib.Core.Path.{◌≡◌, refl}
use Prim.Native.Nat.{ℕ}
use Rattle.bench.specs.declared.Refusal.{Refusal}
use Rattle.bench.specs.declared.Refusal.TheVariants.{Image, BadScript, BadEvent, BigBudget, SmallRoom}
use Rattle.bench.specs.Running.{index_of}
use Rattle.bench.proofs.Refusal.index.Goals as goal

no_event : (e : Refusal) → ((i : ℕ) → e ≡ BadEvent i → ⊥) → 0 ≡ index_of e
unfolding index_of
no_event (Image n) h = refl
no_event BadScript h = refl
no_event (BadEvent i) h = absurd (h i refl)
no_event BigBudget h = refl
no_event SmallRoom h = refl

pub returns-in-BadEvent : goal.returns-in-BadEvent
unfolding index_of
returns-in-BadEvent c = rw c.in-BadEvent.is

pub returns-in_default : goal.returns-in_default
returns-in_default c = no_event _ c.in_default.not-BadEvent
