-- A turn of a statement in error: what it changes, and the three ways on from it.
-- Assumes nothing.
use mathlib.Core.Path.{◌≡◌, refl, sym, ap, ◌∙◌, subst}
use mathlib.Core.Bool.{Bool, true, false}
use mathlib.Core.List.{List}
use Prim.Native.Nat.{ℕ, suc, ◌+◌, ◌≤◌, ◌<◌}
use native.Mathlib.Omega.{arith}
use borrow.Author.Tests.{lt-ltb, le-ltb, eq-eqb, ne_eqb}
use lib.Dec.{eqb, ltb}
use lib.IntN.{ℤ, pos}
use lib.ListN.{length, set, length-set}
use Rattle.numbers.proofs.Truth.{chosen}
use Rattle.effects.specs.declared.Effect.{Effect}
use Rattle.effects.specs.declared.Effect.TheVariants.{Fails}
use Rattle.effects.specs.Effects.{read}
use Rattle.effects.specs.Deeds.{Deed, clears}
use Rattle.effects.proofs.Reading.{error_clears_nothing}
use Rattle.machine.specs.declared.Machine.{Machine}
use Rattle.machine.specs.declared.Places.{Places}
use Rattle.machine.specs.declared.Turned.{Turned}
use Rattle.events.specs.declared.Event.{Event}
use Rattle.machine.specs.Turn.{no_handler, by_handler, turned, onward, recorded, keep, handled, flagged, failed, applied, clearing, turn}
use Rattle.events.specs.Events.{record_bytes}
use Rattle.machine.specs.Run.{reach, run_from}
use Rattle.machine.proofs.Traces.{ended, after}
use Rattle.machine.proofs.Courses.{one_statement}
use Rattle.rules.proofs.Values.{read_same, read_other}

-- A turn leaves this next cell, these places and this handler; it stops the run or not.
pub record Leaves (next : ℕ) (places : Places) (handler : ℕ) (stops : Bool) (t : Turned) : Type 0 where
  pub next_cell : t.machine.next ≡ next
  pub all_places : t.machine.places ≡ places
  pub handler_cell : t.machine.handler ≡ handler
  pub stopping : t.stops ≡ stops

-- Turn 23 to 25: the turn of a statement in error, and the three ways on from it.
pub record InError (error : ℕ) (m : Machine) (t : Turned) : Type 0 where
  -- Turn 23: ER and EF (10 and 15) change, and no other variable, no motion, no hold; the error is recorded.
  pub variables : t.machine.variables ≡ set (set m.variables 10 (pos error)) 15 (pos 1)
  pub motion : t.machine.motion ≡ m.motion
  pub hold : t.machine.hold ≡ m.hold
  pub wrote : t.wrote ≡ recorded 6 0 (pos error)
  -- Turn 24: no handler: the following cell is next, and places and handler stay.
  pub unarmed : m.handler ≡ no_handler → Leaves (m.next + 1) m.places m.handler false t
  -- Turn 25, Q-7 2: with a handler and a place free the handler is next; the following cell is kept with the handler's target, and no handler is armed.
  pub armed : (m.handler ≡ no_handler → ⊥) → m.places.kept < 8 → Leaves m.handler (keep m.places (by_handler (m.next + 1) m.handler)) no_handler false t
  -- Turn 25: a handler, and all eight places in use: the run stops, and nothing of these four changes.
  pub full : (m.handler ≡ no_handler → ⊥) → 8 ≤ m.places.kept → Leaves m.next m.places m.handler true t

-- A turn leaves its own parts.
pub as_is : (t : Turned) → Leaves t.machine.next t.machine.places t.machine.handler t.stops t
as_is t = record { next_cell = refl; all_places = refl; handler_cell = refl; stopping = refl }

-- A turn in error that stops the run; what holds of each of the three ways holds of a turn in error.
abbrev pub halted : ℕ → Machine → Turned
halted error m = record { machine = flagged error m; wrote = recorded 6 0 (pos error); stops = true }

each_way : (P : Turned → Type 0) (error : ℕ) (m : Machine)
    → P (turned (onward (flagged error m)) (recorded 6 0 (pos error)))
    → P (turned (handled (flagged error m)) (recorded 6 0 (pos error)))
    → P (halted error m) → P (failed error m)
unfolding failed
each_way P error m a b c = chosen P (eqb m.handler no_handler) (λ k. a) (λ k. chosen P (ltb m.places.kept 8) (λ l. b) (λ l. c))

pub applied_in_error : (cells error : ℕ) (m : Machine) → InError error m (applied cells (Fails error) m)
unfolding applied failed flagged handled keep
applied_in_error cells error m =
    record {
      variables = each_way (λ (t : Turned). t.machine.variables ≡ set (set m.variables 10 (pos error)) 15 (pos 1)) error m refl refl refl;
      motion = each_way (λ (t : Turned). t.machine.motion ≡ m.motion) error m refl refl refl;
      hold = each_way (λ (t : Turned). t.machine.hold ≡ m.hold) error m refl refl refl;
      wrote = each_way (λ (t : Turned). t.wrote ≡ recorded 6 0 (pos error)) error m refl refl refl;
      unarmed = λ e. rw (eq-eqb m.handler no_handler e) (as_is _);
      armed = λ n k. rw (ne_eqb m.handler no_handler n, lt-ltb m.places.kept 8 k) (as_is _);
      full = λ n k. rw (ne_eqb m.handler no_handler n, le-ltb m.places.kept 8 k) (as_is _);
    }

-- Q-2 4: so is the turn of any statement in error, whatever it reads: it clears nothing.
whole_turn : (cells : ℕ) (d : Deed) (m : Machine) → clears d ≡ false → turn cells d m ≡ applied cells d.effect m
unfolding turn clearing
whole_turn cells d m e = rw e

module _ (cells : ℕ) (d : Deed) {error : ℕ} (m : Machine) (fails : d.effect ≡ Fails error) where
  pub turn_in_error : turn cells d m ≡ applied cells (Fails error) m
  turn_in_error = whole_turn cells d m (error_clears_nothing d fails) ∙ ap (λ (e : Effect). applied cells e m) fails

  pub in_error_lem : InError error m (turn cells d m)
  in_error_lem = subst (InError error m) (sym turn_in_error) (applied_in_error cells error m)

  -- The same, variable by variable.
  pub others_in_error : (v : ℕ) → (v ≡ 10 → ⊥) → (v ≡ 15 → ⊥) → read (turn cells d m).machine.variables v ≡ read m.variables v
  others_in_error v n o =
      ap (λ (x : List ℤ). read x v) in_error_lem.variables
      ∙ read_other (set m.variables 10 (pos error)) 15 v (pos 1) o
      ∙ read_other m.variables 10 v (pos error) n

  pub er_in_error : length m.variables ≡ 64 → read (turn cells d m).machine.variables 10 ≡ pos error
  er_in_error l =
      ap (λ (x : List ℤ). read x 10) in_error_lem.variables
      ∙ read_other (set m.variables 10 (pos error)) 15 10 (pos 1) (λ e. omega arith)
      ∙ read_same m.variables 10 (pos error) (omega arith)

  pub ef_in_error : length m.variables ≡ 64 → read (turn cells d m).machine.variables 15 ≡ pos 1
  ef_in_error l =
      ap (λ (x : List ℤ). read x 15) in_error_lem.variables
      ∙ read_same (set m.variables 10 (pos error)) 15 (pos 1) (omega (arith, length-set m.variables 10 (pos error)))

-- Turn 25: a handler, and all eight places in use: an error stops the run, and the next cell, the places and the handler stay.
pub stopped : (cells : ℕ) (d : Deed) {error : ℕ} (m : Machine) → d.effect ≡ Fails error → (m.handler ≡ no_handler → ⊥) → 8 ≤ m.places.kept
    → turn cells d m ≡ halted error m
unfolding applied failed
stopped cells d m e n k = turn_in_error cells d m e ∙ rw (ne_eqb m.handler no_handler n, le-ltb m.places.kept 8 k)

pub unmoved : (error : ℕ) (m : Machine) → Leaves m.next m.places m.handler true (halted error m)
unfolding flagged
unmoved error m = as_is (halted error m)

-- Turn 25: the reason is then 2, whatever is left of the budget.
pub stopped_run : (act : Machine → Deed) (cells left t : ℕ) (es : List Event) (m : Machine) (error : ℕ)
    → m.next < cells → (act (reach t es m).machine).effect ≡ Fails error → ((reach t es m).machine.handler ≡ no_handler → ⊥) → 8 ≤ (reach t es m).machine.places.kept
    → run_from act cells (suc left) t es m ≡ after (record_bytes t (recorded 6 0 (pos error))) (ended 2 (suc t) (flagged error (reach t es m).machine))
stopped_run act cells left t es m error here a n k =
    let e = stopped cells (act (reach t es m).machine) (reach t es m).machine a n k in
    one_statement act cells left t es m here ∙ rw e
