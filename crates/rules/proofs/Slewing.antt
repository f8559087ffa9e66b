-- The axis never slews at velocity 0: no turn, no event and no run makes it.
-- Assumes nothing.
use mathlib.Core.Path.{◌≡◌, refl, ap, ◌∙◌, subst}
use mathlib.Core.Bool.{true, false, not}
use mathlib.Core.List.{List}
use Prim.Native.Nat.{ℕ}
use native.Mathlib.Omega.{arith}
use lib.Dec.{T, eqb, ltb}
use lib.IntN.{ℤ, pos}
use Rattle.numbers.specs.Tests.{eq_z}
use Rattle.numbers.proofs.Truth.{chosen}
use Rattle.effects.specs.declared.Effect.{Effect}
use Rattle.effects.specs.declared.Effect.TheVariants.{Fails, Stores, Passes, Goes, Calls, Returns, Ends, Stays, Holds, Arms, Disarms, Moves, Slews, Prints}
use Rattle.effects.specs.Effects.{read}
use Rattle.effects.specs.Deeds.{Deed, clears}
use Rattle.machine.specs.declared.Machine.{Machine}
use Rattle.machine.specs.declared.Motion.{Motion}
use Rattle.machine.specs.declared.Motion.TheVariants.{Still, To, Slewing}
use Rattle.events.specs.declared.Event.{Event}
use Rattle.machine.specs.Turn.{start_machine, moving_bit, in_motion, slew, called, returned, armed, held, applied, turn}
use Rattle.machine.specs.Happens.{arrived_by, happens}
use Rattle.machine.specs.Run.{plain, course_of, run_from}
use Rattle.machine.proofs.Quiet.{happens_next}
use Rattle.machine.proofs.Traces.{all_events, run_keeps}
use Rattle.rules.proofs.Values.{read_other, cleared_other}
use Rattle.rules.proofs.Errors.{applied_in_error}

-- A motion that is no slew at velocity 0.
abbrev pub NoZeroSlew : Motion → Type 0
NoZeroSlew x = x ≡ Slewing (pos 0) → ⊥

still : NoZeroSlew Still
still e = let z : ◌≡◌ {A = ℕ} 0 1 = cc in omega arith

to : (z : ℤ) → NoZeroSlew (To z)
to z e = let z : ◌≡◌ {A = ℕ} 0 1 = cc in omega arith

-- Turn 20: no SL makes it a slew at velocity 0.
pub slew_nonzero : (z : ℤ) → NoZeroSlew (slew z)
unfolding slew eq_z
slew_nonzero z =
    chosen NoZeroSlew (eq_z z (pos 0)) (λ k. still)
    (λ k e. let h : z ≡ pos 0 = cc in subst (λ (x : ℤ). T (not (eq_z x (pos 0)))) h k)

-- Turn 20, Q-2 3: the turn of an SL 0 leaves the axis still, and every variable but MV (14) as it was, so P too; EF (15) where it clears that.
stopped_still : (cells : ℕ) (m : Machine)
    → ((applied cells (Slews (pos 0)) m).machine.motion ≡ Still) × ((v : ℕ) → (v ≡ 14 → ⊥) → read (applied cells (Slews (pos 0)) m).machine.variables v ≡ read m.variables v)
unfolding applied in_motion slew eq_z
stopped_still cells m = (refl, λ v n. read_other m.variables 14 v (moving_bit Still) n)

pub stops_still : (cells : ℕ) (d : Deed) (m : Machine) → d.effect ≡ Slews (pos 0)
    → ((turn cells d m).machine.motion ≡ Still) × ((v : ℕ) → (v ≡ 14 → ⊥) → (v ≡ 15 → clears d ≡ false) → read (turn cells d m).machine.variables v ≡ read m.variables v)
unfolding turn
stops_still cells d m e =
    let h = stopped_still cells m in
    let p = ap (λ (x : Effect). (applied cells x m).machine) e in
    (ap (λ (x : Machine). x.motion) p ∙ h.0, λ v n o. cleared_other (clears d) _ v o ∙ ap (λ (x : Machine). read x.variables v) p ∙ h.1 v n)

-- Turn 5, Turn 20: a turn makes none, whatever the statement does.
applied_nonzero : (cells : ℕ) (e : Effect) (m : Machine) → NoZeroSlew m.motion → NoZeroSlew (applied cells e m).machine.motion
unfolding applied in_motion called returned armed held
applied_nonzero cells (Fails error) m h = rw (applied_in_error cells error m).motion h
applied_nonzero cells (Stores v z) m h = h
applied_nonzero cells Passes m h = h
applied_nonzero cells (Goes cell) m h = h
applied_nonzero cells (Calls cell) m h = h
applied_nonzero cells Returns m h = h
applied_nonzero cells Ends m h = h
applied_nonzero cells Stays m h = h
applied_nonzero cells (Holds turns) m h = chosen (λ (x : Machine). NoZeroSlew x.motion) (ltb 0 turns) (λ k. h) (λ k. h)
applied_nonzero cells (Arms cell) m h = h
applied_nonzero cells Disarms m h = h
applied_nonzero cells (Moves target kind z) m h = to target
applied_nonzero cells (Slews z) m h = slew_nonzero z
applied_nonzero cells (Prints v z) m h = h

pub turn_nonzero : (cells : ℕ) (d : Deed) (m : Machine) → NoZeroSlew m.motion → NoZeroSlew (turn cells d m).machine.motion
unfolding turn
turn_nonzero cells d m h = applied_nonzero cells d.effect m h

-- Events 2: nor does an event, good or not.
arrived_nonzero : (motion : Motion) (m : Machine) → NoZeroSlew m.motion → NoZeroSlew (arrived_by motion m).motion
unfolding arrived_by in_motion
arrived_nonzero Still m h = h
arrived_nonzero (To z) m h = still
arrived_nonzero (Slewing z) m h = h

pub event_nonzero : (e : Event) (m : Machine) → NoZeroSlew m.motion → NoZeroSlew (happens e m).motion
unfolding happens
event_nonzero e m h =
    chosen (λ (x : Machine). NoZeroSlew x.motion) (eqb e.kind 1)
    (λ k. h)
    (λ k. chosen (λ (x : Machine). NoZeroSlew x.motion) (eqb e.kind 2) (λ l. arrived_nonzero m.motion m h) (λ l. h))

-- Turn 5, Turn 20: nor does a run, whatever its statements, its events and its budget.
pub run_nonzero : (act : Machine → Deed) (cells left t : ℕ) (es : List Event) (m : Machine) → NoZeroSlew m.motion
    → NoZeroSlew (run_from act cells left t es m).machine.motion
unfolding course_of
run_nonzero act cells left t es m h =
    run_keeps plain happens_next act cells (λ x. NoZeroSlew x.motion) (λ e. true) (λ e x f k. event_nonzero e x k) (λ x k l. turn_nonzero cells (act x) x k) left t es m (all_events es) h

-- Turn 5, Turn 20: a run from the start never ends in a slew at velocity 0.
pub started_nonzero : (act : Machine → Deed) (cells left t : ℕ) (es : List Event) (values : List ℤ)
    → NoZeroSlew (run_from act cells left t es (start_machine values)).machine.motion
unfolding start_machine
started_nonzero act cells left t es values = run_nonzero act cells left t es (start_machine values) still
