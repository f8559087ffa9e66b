-- Good events keep the rules, and leave the next cell.
-- Assumes nothing.
use mathlib.Core.Path.{◌≡◌, refl, subst}
use mathlib.Core.Bool.{Bool, false, ◌&&◌, ◌||◌}
use mathlib.Core.List.{List}
use mathlib.Core.Logic.{inl, ⊎_elim}
use Prim.Native.Nat.{ℕ, ◌≤◌}
use native.Mathlib.Omega.{arith}
use lib.Dec.{T, eqb, leb, eqb→eq, leb→le}
use lib.IntN.{ℤ, pos}
use lib.ListN.{set}
use Rattle.numbers.specs.Tests.{all_of, between, eq_z}
use Rattle.program.specs.Variables.{in_range, literals, range_of}
use Rattle.machine.specs.declared.Machine.{Machine}
use Rattle.events.specs.declared.Event.{Event}
use Rattle.machine.specs.declared.Motion.{Motion}
use Rattle.machine.specs.declared.Motion.TheVariants.{Still, To, Slewing}
use Rattle.machine.specs.Turn.{with_variables, in_motion}
use Rattle.events.specs.Events.{good_event, bad_events, event_at, event_count, events}
use Rattle.machine.specs.Happens.{arrived_by, happens}
use Rattle.events.proofs.Scripts.{good_events}
use Rattle.numbers.proofs.Truth.{true_is, both, either}
use Rattle.numbers.proofs.Tests.{all_listed}
use Rattle.rules.specs.Rules.{Ruled, good_motion}
use Rattle.rules.proofs.Parts.{registers_of, way_of, together, registers_set, registers_move, registers_input}

-- Events 2: what a good event of each kind has.
abbrev input_event : Event → Bool
input_event e = eqb e.kind 1 && ((leb 1 e.number && leb e.number 4) && between (pos 0) (pos 1) e.value)

abbrev arrived_event : Event → Bool
arrived_event e = eqb e.kind 2 && (eqb e.number 0 && eq_z e.value (pos 0))

abbrev position_event : Event → Bool
position_event e = eqb e.kind 3 && (eqb e.number 0 && in_range literals e.value)

pub data Kinds (e : Event) : Type 0 where
  an_input : e.kind ≡ 1 → 1 ≤ e.number → e.number ≤ 4 → T (between (pos 0) (pos 1) e.value) → Kinds e
  arrived : e.kind ≡ 2 → Kinds e
  a_position : e.kind ≡ 3 → T (in_range literals e.value) → Kinds e

pub kinds_of : (e : Event) → T (good_event e) → Kinds e
unfolding good_event
kinds_of e good =
    ⊎_elim
    (λ t.
    let p = both (eqb e.kind 1) ((leb 1 e.number && leb e.number 4) && between (pos 0) (pos 1) e.value) t in
    let q = both (leb 1 e.number && leb e.number 4) (between (pos 0) (pos 1) e.value) p.1 in
    let r = both (leb 1 e.number) (leb e.number 4) q.0 in
    an_input (eqb→eq e.kind 1 p.0) (leb→le 1 e.number r.0) (leb→le e.number 4 r.1) q.1)
    (λ t. ⊎_elim
    (λ t. arrived (eqb→eq e.kind 2 (both (eqb e.kind 2) (eqb e.number 0 && eq_z e.value (pos 0)) t).0))
    (λ t.
    let p = both (eqb e.kind 3) (eqb e.number 0 && in_range literals e.value) t in
    a_position (eqb→eq e.kind 3 p.0) (both (eqb e.number 0) (in_range literals e.value) p.1).1)
    (either (arrived_event e) (position_event e) t))
    (either (input_event e) (arrived_event e || position_event e) (both (eqb e.zeros 0) (input_event e || (arrived_event e || position_event e)) good).1)

module _ {cells variables : ℕ} {holds : ℕ → Bool} where
  -- P (5) takes a value, by a position or where a move arrives.
  position : {m : Machine} (z : ℤ) → T (in_range literals z) → Ruled cells variables holds m → Ruled cells variables holds (with_variables (set m.variables 5 z) m)
  unfolding range_of
  position z t r =
      together (registers_set (registers_of r) 5 z tt (λ e. omega arith) (inl (omega arith)) (λ n. t) (λ e. absurd (omega arith))) (way_of r)

  ruled_arrived : (motion : Motion) (m : Machine) → m.motion ≡ motion → Ruled cells variables holds m → Ruled cells variables holds (arrived_by motion m)
  unfolding arrived_by in_motion good_motion
  ruled_arrived Still m e r = r
  ruled_arrived (To z) m e r =
      let t : T (in_range literals z) = subst (λ (x : Motion). T (good_motion x)) e r.motion in
      let p = position z t r in
      together (registers_move (registers_of p) Still tt) (way_of p)
  ruled_arrived (Slewing z) m e r = r

  by_kind : (e : Event) (m : Machine) → Kinds e → Ruled cells variables holds m → Ruled cells variables holds (happens e m)
  unfolding happens
  by_kind e m (an_input k lo hi t) r = rw k (together (registers_input (registers_of r) e.number e.value lo hi t) (way_of r))
  by_kind e m (arrived k) r = rw k (ruled_arrived m.motion m refl r)
  by_kind e m (a_position k t) r = rw k (position e.value t r)

  -- Turn 5, Events 2: a good event keeps the rules.
  pub ruled_event : (e : Event) (m : Machine) → T (good_event e) → Ruled cells variables holds m → Ruled cells variables holds (happens e m)
  ruled_event e m good r = by_kind e m (kinds_of e good) r

-- Refusals 17: the events of a script that is not refused are good.
pub all_good : (s : List ℕ) → bad_events s ≡ false → T (all_of good_event (events s))
unfolding events
all_good s e = all_listed (event_at s) good_event 0 (event_count s) (λ k h. true_is (good_event (event_at s k)) (good_events s k e (omega arith)))
