-- Document 02, "A handler that arms itself again": what a turn does to the handler, and to the return places that calls of a handler kept.
-- Assumes nothing.
use Rattle.std.specs.Prelude.{◌≡◌, List, [], ◌∷◌, ◌↔◌, ◌⊎◌, ℕ, suc, ◌+◌, ◌<◌}
use Rattle.effects.specs.declared.Effect.{Effect}
use Rattle.effects.specs.declared.Effect.TheVariants.{Returns, Arms, Disarms}
use Rattle.effects.specs.Deeds.{Deed}
use Rattle.machine.specs.declared.Machine.{Machine}
use Rattle.machine.specs.declared.Place.{Place}
use Rattle.machine.specs.declared.Places.{Places}
use Rattle.machine.specs.declared.Turned.{Turned}
use Rattle.machine.specs.Turn.{no_handler, by_handler, as_call, unused, turn}
use Rattle.machine.specs.Run.{Step}
use Rattle.rules.specs.Rules.{place_at}
use Rattle.rules.specs.Flags.{Erring}

-- Q-7 2: place k is one that the call of a handler kept.
abbrev pub Marked : Places → ℕ → Type 0
Marked places k = (place_at places k).handler ≡ no_handler → ⊥

-- Turn 18: an effect that is an OE, `OE 0` among them.
abbrev pub Chooses : Effect → Type 0
Chooses e = ((cell : ℕ) × (e ≡ Arms cell)) ⊎ (e ≡ Disarms)

-- Turn 14: a return that takes place k, which is the last one kept.
abbrev pub Takes : Effect → Places → ℕ → Type 0
Takes e places k = (e ≡ Returns) × (suc k ≡ places.kept)

-- Turn 25: an error that finds a handler armed and a place free, so that the handler is called.
abbrev pub CallsHandler : Effect → Places → ℕ → Type 0
CallsHandler e places handler = Erring e × (handler ≡ no_handler → ⊥) × (places.kept < 8)

-- Q-7 2, Q-7 3: a turn with this effect: the next cell, the places and the handler before it, and the places and the handler after it.
pub record Handlers (e : Effect) (next : ℕ) (places : Places) (handler : ℕ) (places' : Places) (handler' : ℕ) : Type 0 where
  -- A place is a handler's after the turn exactly if it was kept in it for the call of the handler; or it was one before, the effect is no OE, and no return takes it.
  pub marked : (k : ℕ) → Marked places' k
      ↔ ((CallsHandler e places handler × (k ≡ places.kept)) ⊎ (Marked places k × (Chooses e → ⊥) × (Takes e places k → ⊥)))
  -- The former has the following cell, and the handler as it was at the error; the latter is what it was.
  pub new : CallsHandler e places handler → place_at places' places.kept ≡ by_handler (next + 1) handler
  pub same : (k : ℕ) → Marked places k → (Chooses e → ⊥) → (Takes e places k → ⊥) → place_at places' k ≡ place_at places k
  -- An OE leaves each place its cell; what a return took is unused.
  pub unmarked : Chooses e → (k : ℕ) → place_at places' k ≡ as_call (place_at places k)
  pub taken : (k : ℕ) → Takes e places k → place_at places' k ≡ unused
  -- The handler: a return that takes a handler's place arms its target again, the call of the handler leaves none, an OE arms its own or none; by nothing
  -- else does it change.
  pub again : (k : ℕ) → Takes e places k → Marked places k → handler' ≡ (place_at places k).handler
  pub called : CallsHandler e places handler → handler' ≡ no_handler
  pub arms : (cell : ℕ) → e ≡ Arms cell → handler' ≡ cell
  pub disarms : e ≡ Disarms → handler' ≡ no_handler
  pub stays : (CallsHandler e places handler → ⊥) → (Chooses e → ⊥) → ((k : ℕ) → Takes e places k → Marked places k → ⊥) → handler' ≡ handler

-- The same of a turn of a machine, by what its statement does in a program with so many cells.
abbrev pub TurnHandlers : ℕ → Deed → Machine → Type 0
TurnHandlers cells d m = Handlers d.effect m.next m.places m.handler (turn cells d m).machine.places (turn cells d m).machine.handler

-- At most one place is a handler's, and then no handler is armed.
pub record OneHandler (places : Places) (handler : ℕ) : Type 0 where
  pub one : (j k : ℕ) → Marked places j → Marked places k → j ≡ k
  pub unarmed : (k : ℕ) → Marked places k → handler ≡ no_handler

-- Turn 7: both of a turn of a run, from before its events to behind its statement.
pub record HandlersIn (s : Step Machine Deed Turned) : Type 0 where
  pub changes : Handlers s.does.effect s.before.next s.before.places s.before.handler s.came.machine.places s.came.machine.handler
  pub before : OneHandler s.before.places s.before.handler
  pub after : OneHandler s.came.machine.places s.came.machine.handler

-- Q-7 2: this turn kept place k for the call of the handler: with the following cell, and the handler as it was.
pub record KeptBy (k : ℕ) (place : Place) (s : Step Machine Deed Turned) : Type 0 where
  pub calls : CallsHandler s.does.effect s.before.places s.before.handler
  pub last : k ≡ s.before.places.kept
  pub as_was : place ≡ by_handler (s.before.next + 1) s.before.handler

-- It holds of one of these.
abbrev pub Some : {A : Type 0} → (A → Type 0) → List A → Type 0
Some P [] = ⊥
Some P (x ∷ xs) = P x ⊎ Some P xs

-- Each handler's place among these was kept by one of the turns.
abbrev pub Origins : Places → List (Step Machine Deed Turned) → Type 0
Origins places steps = (k : ℕ) → Marked places k → Some (KeptBy k (place_at places k)) steps
