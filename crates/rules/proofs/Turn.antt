-- One turn of a good statement keeps the rules.
-- Assumes nothing.
use mathlib.Core.Path.{◌≡◌, refl, sym, ap, subst}
use mathlib.Core.Bool.{Bool, true, false, ◌&&◌, not}
use mathlib.Core.List.{List}
use mathlib.Core.Logic.{◌⊎◌, inl, inr, ⊎_elim}
use Prim.Native.Nat.{ℕ, ◌+◌, ◌-◌, ◌≤◌, ◌<◌}
use native.Mathlib.Omega.{arith}
use lib.Dec.{T, eqb, leb, ltb, leb→le, ltb→lt, nltb→le, le→leb, T_not}
use lib.IntN.{ℤ, pos, negsuc, nat_abs}
use lib.ListN.{set}
use Rattle.numbers.specs.Tests.{all_of, any_of, between, eq_z}
use Rattle.numbers.proofs.Truth.{both, both_of, chosen, right_of, not_same, if_same, if_below}
use Rattle.program.specs.Variables.{in_range, literals, hold_range, slew_range, range_of, present, read_only}
use Rattle.program.specs.Statements.{Operator, Value, Statement, Set, SetWith, IC, DC, BR, CL, RT, E, H, Hold, OE, Disarm, MA, MR, SL, PR, writes, targets, is_hold}
use Rattle.program.specs.Statements as S
use Rattle.effects.specs.declared.Effect.{Effect}
use Rattle.effects.specs.declared.Effect.TheVariants.{Fails, Stores, Passes, Goes, Calls, Returns, Ends, Stays, Holds, Arms, Disarms, Moves, Slews, Prints}
use Rattle.effects.specs.Errors.{is_error}
use Rattle.effects.specs.Effects.{read, storing, storing_result, operate, zero_divisor, storing_with, calling, returning, waiting, holding, moving, slewing, printing, branching, calling_if, effect}
use Rattle.effects.specs.Deeds.{clears, deed}
use Rattle.effects.proofs.Results.{result_error_lem}
use Rattle.machine.specs.declared.Machine.{Machine}
use Rattle.machine.specs.declared.Place.{Place}
use Rattle.machine.specs.declared.Motion.{Motion}
use Rattle.machine.specs.declared.Motion.TheVariants.{To}
use Rattle.machine.specs.declared.Turned.{Turned}
use Rattle.machine.specs.Turn.{no_handler, by_call, by_handler, with_variables, stored, keep, last_place, calls_only, in_motion, slew, called, handled, rearmed, returned, armed, held, flagged, failed, applied, clearing, turn}
use Rattle.rules.specs.Rules.{place_at, RuledPlace, Ruled, good_motion}
use Rattle.rules.specs.Good.{Good, writable}
use Rattle.rules.proofs.Values.{error_number, may_hold}
use Rattle.rules.proofs.Parts.{Registers, Way, registers_of, way_of, together, registers_set, registers_move, call_ruled, handler_ruled, keep_one, free_one, calls_kept, way_at, way_arm, way_hold, way_places}

-- What a statement may store to ER (10) is 0; a variable that it may write is not among the read-only ones.
pub zero_only : (z : ℤ) → T (between (pos 0) (pos 0) z) → z ≡ pos 0
zero_only (pos n) t = ap pos (let h = leb→le n 0 (both (leb 0 n) (leb n 0) t).1 in omega arith)
zero_only (negsuc n) t = absurd t

no_error : (z : ℤ) → T (between (pos 0) (pos 0) z) → T (error_number z)
unfolding eq_z
no_error z t = subst (λ (x : ℤ). T (error_number x)) (sym (zero_only z t)) tt

apart : (v : ℕ) → T (not (read_only v)) → (v < 14) ⊎ (20 < v)
apart v t =
    if_below v 14 inl
    (λ l. if_below 20 v inr (λ h. absurd (T_not (read_only v) t (both_of (leb 14 v) (leb v 20) (le→leb 14 v l) (le→leb v 20 h)))))

module _ (cells variables : ℕ) (holds : ℕ → Bool) (m : Machine) where
  -- What an effect has to be for the rules to stay: no hold runs but at an `H x`.
  abbrev pub Sound : Effect → Type 0
  Sound (Fails error) = T (is_error (pos error)) × (m.hold ≡ 0)
  Sound (Stores v z) = T (present variables v) × T (not (read_only v)) × T (may_hold m.variables v z) × (m.hold ≡ 0)
  Sound Passes = m.hold ≡ 0
  Sound (Goes cell) = (cell ≤ cells) × (m.hold ≡ 0)
  Sound (Calls cell) = (cell ≤ cells) × (m.places.kept < 8) × (m.hold ≡ 0)
  Sound Returns = (0 < m.places.kept) × (m.hold ≡ 0)
  Sound Ends = m.hold ≡ 0
  Sound Stays = m.hold ≡ 0
  Sound (Holds turns) = (turns ≤ 64999) × T (holds m.next)
  Sound (Arms cell) = (cell ≤ cells) × (m.hold ≡ 0)
  Sound Disarms = m.hold ≡ 0
  Sound (Moves target kind z) = T (in_range literals target) × (m.hold ≡ 0)
  Sound (Slews z) = T (in_range slew_range z) × (m.hold ≡ 0)
  Sound (Prints v z) = m.hold ≡ 0

  -- What the parts of an effect are where no hold runs.
  module _ (quiet : m.hold ≡ 0) where
    fine_storing : (v : ℕ) (z : ℤ) → T (writable variables v) → Sound (storing m.variables v z)
    unfolding storing writable is_error any_of eq_z
    fine_storing v z w =
        let p = both (present variables v) (not (read_only v)) w in
        chosen Sound (may_hold m.variables v z) (λ t. (p.0, p.1, t, quiet)) (λ t. (tt, quiet))

    fine_result : (v : ℕ) (z : ℤ) → T (writable variables v) → Sound (storing_result m.variables v z)
    unfolding storing_result
    fine_result v z w = chosen Sound (in_range literals z) (λ t. fine_storing v z w) (λ t. (result_error_lem z, quiet))

    fine_with : (v : ℕ) (o : Operator) (x y : ℤ) → T (writable variables v) → Sound (storing_with m.variables v o x y)
    unfolding storing_with is_error any_of eq_z
    fine_with v o x y w =
        chosen Sound (zero_divisor o y) (λ t. (tt, quiet)) (λ t. fine_result v (operate o x y) w)

    fine_calling : (cell : ℕ) → cell ≤ cells → Sound (calling m.places.kept cell)
    unfolding calling is_error any_of eq_z
    fine_calling cell c = chosen Sound (ltb m.places.kept 8) (λ t. (c, ltb→lt m.places.kept 8 t, quiet)) (λ t. (tt, quiet))

    fine_returning : Sound (returning m.places.kept)
    unfolding returning is_error any_of eq_z
    fine_returning = chosen Sound (ltb 0 m.places.kept) (λ t. (ltb→lt 0 m.places.kept t, quiet)) (λ t. (tt, quiet))

    fine_waiting : Sound (waiting m.variables)
    unfolding waiting
    fine_waiting = chosen Sound (eq_z (read m.variables 14) (pos 1)) (λ t. quiet) (λ t. quiet)

    fine_moving : (target : ℤ) (kind : ℕ) (z : ℤ) → Sound (moving m.variables target kind z)
    unfolding moving is_error any_of eq_z
    fine_moving target kind z =
        chosen Sound (eq_z (read m.variables 14) (pos 1)) (λ t. (tt, quiet))
        (λ t. chosen Sound (in_range literals target) (λ u. (u, quiet)) (λ u. (result_error_lem target, quiet)))

    fine_slewing : (z : ℤ) → Sound (slewing z)
    unfolding slewing is_error any_of eq_z
    fine_slewing z = chosen Sound (in_range slew_range z) (λ t. (t, quiet)) (λ t. (tt, quiet))

    module _ {R : Type 0} (place number : R → ℕ) where
      fine_branching : (n : R) (t : Bool) → place n ≤ cells → Sound (branching place number m.variables m.places.kept m.hold n t)
      unfolding branching
      fine_branching n true c = (c, quiet)
      fine_branching n false c = quiet

      fine_calling_if : (n : R) (t : Bool) → place n ≤ cells → Sound (calling_if place number m.variables m.places.kept m.hold n t)
      unfolding calling_if
      fine_calling_if n true c = fine_calling (place n) c
      fine_calling_if n false c = quiet

      fine_printing : (x : Value R) → Sound (printing place number m.variables m.places.kept m.hold x)
      unfolding printing
      fine_printing (S.Literal z) = quiet
      fine_printing (S.Variable v) = quiet

  -- Turn 17: a hold leaves one turn less.
  hold_most : (z : ℤ) → T (in_range hold_range z) → nat_abs z - 1 ≤ 64999
  hold_most (pos n) t = let h = leb→le n 65000 (both (leb 1 n) (leb n 65000) t).1 in omega arith
  hold_most (negsuc n) t = absurd t

  sound_holding : (z : ℤ) → m.hold ≤ 64999 → T (holds m.next) → Sound (holding m.hold z)
  unfolding holding is_error any_of eq_z
  sound_holding z l t =
      chosen Sound (ltb 0 m.hold)
      (λ k. (omega arith, t))
      (λ k. chosen Sound (in_range hold_range z) (λ i. (hold_most z i, t)) (λ i. let h = nltb→le 0 m.hold k in (tt, omega arith)))

  -- Turn 3: no hold runs but at an `H x`.
  no_hold : Ruled cells variables holds m → holds m.next ≡ false → m.hold ≡ 0
  no_hold r e = if_same m.hold 0 (λ z. z) (λ n. absurd (subst T e (r.hold_at n)))

  -- What a good statement does is sound.
  module _ {R : Type 0} (place number : R → ℕ) where
    first_named : (n : R) → T (leb (place n) cells && true) → place n ≤ cells
    first_named n t = leb→le (place n) cells (both (leb (place n) cells) true t).0

    first_written : (v : R) → T (writable variables (number v) && true) → T (writable variables (number v))
    first_written v t = (both (writable variables (number v)) true t).0

    pub sound_effect : (s : Statement R) → Good cells variables place number s → Ruled cells variables holds m → holds m.next ≡ is_hold s
        → Sound (effect place number m.variables m.places.kept m.hold s)
    unfolding effect is_hold all_of writes targets
    sound_effect (Set v x) g r e = fine_storing (no_hold r e) (number v) _ (first_written v g.written)
    sound_effect (SetWith v x o y) g r e = fine_with (no_hold r e) (number v) o _ _ (first_written v g.written)
    sound_effect (IC v) g r e = fine_result (no_hold r e) (number v) _ (first_written v g.written)
    sound_effect (DC v) g r e = fine_result (no_hold r e) (number v) _ (first_written v g.written)
    sound_effect (BR n c) g r e = fine_branching (no_hold r e) place number n _ (first_named n g.named)
    sound_effect (CL n c) g r e = fine_calling_if (no_hold r e) place number n _ (first_named n g.named)
    sound_effect RT g r e = fine_returning (no_hold r e)
    sound_effect E g r e = no_hold r e
    sound_effect H g r e = fine_waiting (no_hold r e)
    sound_effect (Hold x) g r e = sound_holding _ r.hold (subst T (sym e) tt)
    sound_effect (OE n) g r e = (first_named n g.named, no_hold r e)
    sound_effect Disarm g r e = no_hold r e
    sound_effect (MA x) g r e = fine_moving (no_hold r e) _ 2 _
    sound_effect (MR x) g r e = fine_moving (no_hold r e) _ 3 _
    sound_effect (SL x) g r e = fine_slewing (no_hold r e) _
    sound_effect (PR x) g r e = fine_printing (no_hold r e) place number x

module _ {cells variables : ℕ} {holds : ℕ → Bool} {m : Machine} (r : Ruled cells variables holds m) (here : m.next < cells) where
  onward_way : m.hold ≡ 0 → Way cells holds (m.next + 1) m.places m.handler m.hold
  onward_way h = way_at (way_of r) (m.next + 1) (omega arith) (way_of r).back h

  stored_registers : (v : ℕ) (z : ℤ) → T (present variables v) → T (not (read_only v)) → T (may_hold m.variables v z)
      → Registers variables (stored m.variables v z) m.motion
  unfolding stored range_of
  stored_registers v z p w t =
      let o = apart v w in
      let er : v ≡ 10 → T (error_number z) = λ e. no_error z (subst (λ (k : ℕ). T (may_hold m.variables k z)) e t) in
      let g = registers_set (registers_of r) v z p (λ e. ⊎_elim (λ a. omega arith) (λ a. omega arith) o) (⊎_elim (λ a. inl (omega arith)) inr o) (λ n. t) er in
      chosen (λ (x : List ℤ). Registers variables x m.motion) (eqb v 10)
      (λ k. registers_set g 15 (pos 0) tt (λ e. omega arith) (inl (omega arith)) (λ n. tt) (λ e. absurd (omega arith)))
      (λ k. g)

  flagged_registers : (error : ℕ) → T (is_error (pos error)) → Registers variables (set (set m.variables 10 (pos error)) 15 (pos 1)) m.motion
  unfolding range_of
  flagged_registers error t =
      registers_set
      (registers_set (registers_of r) 10 (pos error) tt (λ e. omega arith) (inl (omega arith)) (λ n. absurd (n refl))
      (λ e. right_of (eq_z (pos error) (pos 0)) (is_error (pos error)) t))
      15 (pos 1) tt (λ e. omega arith) (inl (omega arith)) (λ n. tt) (λ e. absurd (omega arith))

  called_way : (cell : ℕ) (place : Place) → cell ≤ cells → RuledPlace cells place → m.places.kept < 8 → m.hold ≡ 0
      → Way cells holds cell (keep m.places place) m.handler m.hold
  called_way cell place t p k h = way_at (way_of r) cell t (keep_one (way_of r).back place p k) h

  -- Q-7 3: what a return arms.
  rearmed_cell : (place : Place) → RuledPlace cells place → (rearmed place m.handler ≡ no_handler → ⊥) → rearmed place m.handler ≤ cells
  unfolding rearmed
  rearmed_cell place p =
      chosen (λ (h : ℕ). (h ≡ no_handler → ⊥) → h ≤ cells) (eqb place.handler no_handler)
      (λ t. r.handler)
      (λ t. p.handler)

  -- Q-7 3: OE.
  armed_way : (cell : ℕ) → ((cell ≡ no_handler → ⊥) → cell ≤ cells) → m.hold ≡ 0 → Way cells holds (m.next + 1) (calls_only m.places) cell m.hold
  armed_way cell t h = way_arm (way_places (onward_way h) (calls_kept (way_of r).back)) cell t

  good_slew : (z : ℤ) → T (in_range slew_range z) → T (good_motion (slew z))
  unfolding good_motion slew
  good_slew z t = chosen (λ (x : Motion). T (good_motion x)) (eq_z z (pos 0)) (λ k. tt) (λ k. t)

  ruled_failed : (error : ℕ) → T (is_error (pos error)) → m.hold ≡ 0 → Ruled cells variables holds (failed error m).machine
  unfolding failed flagged handled
  ruled_failed error t h =
      let g = flagged_registers error t in
      chosen (λ (x : Turned). Ruled cells variables holds x.machine) (eqb m.handler no_handler)
      (λ k. together g (onward_way h))
      (λ n. chosen (λ (x : Turned). Ruled cells variables holds x.machine) (ltb m.places.kept 8)
      (λ k.
      let c = r.handler (not_same m.handler no_handler n) in
      together g (way_arm (called_way m.handler (by_handler (m.next + 1) m.handler) c (handler_ruled (omega arith) c) (ltb→lt m.places.kept 8 k) h) no_handler (λ o. absurd (o refl))))
      (λ k. together g (way_of r)))

  ruled_held : (turns : ℕ) → turns ≤ 64999 → T (holds m.next) → Ruled cells variables holds (held turns m)
  unfolding held
  ruled_held turns t h =
      chosen (Ruled cells variables holds) (ltb 0 turns)
      (λ k. together (registers_of r) (way_hold (way_of r) turns t h))
      (λ k. together (registers_of r) (way_at (way_hold (way_of r) 0 (omega arith) h) (m.next + 1) (omega arith) (way_of r).back refl))

  -- An effect of that kind keeps the rules.
  pub ruled_effect : (e : Effect) → Sound cells variables holds m e → Ruled cells variables holds (applied cells e m).machine
  unfolding applied in_motion called returned armed last_place good_motion
  ruled_effect (Fails error) s = ruled_failed error s.0 s.1
  ruled_effect (Stores v z) s = together (stored_registers v z s.0 s.1 s.2) (onward_way s.3)
  ruled_effect Passes s = together (registers_of r) (onward_way s)
  ruled_effect (Goes cell) s = together (registers_of r) (way_at (way_of r) cell s.0 (way_of r).back s.1)
  ruled_effect (Calls cell) s = together (registers_of r) (called_way cell (by_call (m.next + 1)) s.0 (call_ruled (omega arith)) s.1 s.2)
  ruled_effect Returns s =
      let place = place_at m.places (m.places.kept - 1) in
      let p = r.places (m.places.kept - 1) in
      together (registers_of r) (way_arm (way_at (way_of r) place.cell p.cell (free_one (way_of r).back s.0) s.1) (rearmed place m.handler) (rearmed_cell place p))
  ruled_effect Ends s = together (registers_of r) (way_at (way_of r) cells (omega arith) (way_of r).back s)
  ruled_effect Stays s = r
  ruled_effect (Holds turns) s = ruled_held turns s.0 s.1
  ruled_effect (Arms cell) s = together (registers_of r) (armed_way cell (λ o. s.0) s.1)
  ruled_effect Disarms s = together (registers_of r) (armed_way no_handler (λ o. absurd (o refl)) s)
  ruled_effect (Moves target kind z) s = together (registers_move (registers_of r) (To target) s.0) (onward_way s.1)
  ruled_effect (Slews z) s = together (registers_move (registers_of r) (slew z) (good_slew z s.0)) (onward_way s.1)
  ruled_effect (Prints v z) s = together (registers_of r) (onward_way s)

-- So does clearing EF (15) behind it.
ruled_cleared : {cells variables : ℕ} {holds : ℕ → Bool} {m : Machine} (t : Bool) → Ruled cells variables holds m
    → Ruled cells variables holds (with_variables (clearing t m.variables) m)
unfolding clearing range_of
ruled_cleared true r =
    together (registers_set (registers_of r) 15 (pos 0) tt (λ e. omega arith) (inl (omega arith)) (λ n. tt) (λ e. absurd (omega arith))) (way_of r)
ruled_cleared false r = r

-- Turn 3 to 5: one turn of a good statement keeps the rules; `holds` says of the next cell whether it is an `H x`.
pub ruled_turn : {R : Type 0} (cells variables : ℕ) (holds : ℕ → Bool) (place number : R → ℕ) (s : Statement R) (m : Machine)
    → Good cells variables place number s → Ruled cells variables holds m → m.next < cells → holds m.next ≡ is_hold s
    → Ruled cells variables holds (turn cells (deed place number m.variables m.places.kept m.hold s) m).machine
unfolding turn
ruled_turn cells variables holds place number s m good r here e =
    ruled_cleared (clears (deed place number m.variables m.places.kept m.hold s))
    (ruled_effect r here (effect place number m.variables m.places.kept m.hold s) (sound_effect cells variables holds m place number s good r e))
