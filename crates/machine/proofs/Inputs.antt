-- The four inputs are 0 or 1 at the start, after every turn and after every good event.
-- Assumes nothing.
use mathlib.Core.Path.{◌≡◌, refl, sym, ap, subst, ◌∙◌}
use mathlib.Core.Bool.{Bool, true, false, cond, ◌&&◌, ◌||◌, and-eq-true_iff, or-false}
use mathlib.Core.List.{List, [], ◌∷◌}
use Prim.Native.Nat.{ℕ, zero, suc, ◌+◌, ◌*◌, ◌≤◌, ◌<◌}
use native.Mathlib.Omega.{arith}
use borrow.Author.Tests.{ltb-true, ltb-false, eqb-true, eqb-false, leb-true, eq-eqb, ne_eqb}
use lib.Dec.{eqb, leb, ltb}
use lib.IntN.{ℤ, pos}
use lib.ListN.{length, set, length-set}
use lib.Seq.{sets, set_out, get_or-set_same, get_or-set_other}
use Rattle.numbers.specs.Tests.{between, eq_z}
use Rattle.program.specs.Variables.{in_range, range_of, literals, start_variables, all_inputs}
use Rattle.program.specs.Statements.{Statement}
use Rattle.program.proofs.Ranges.{input_range}
use Rattle.effects.specs.declared.Effect.{Effect}
use Rattle.effects.specs.declared.Effect.TheVariants.{Fails, Stores, Passes, Goes, Calls, Returns, Ends, Stays, Holds, Arms, Disarms, Moves, Slews, Prints}
use Rattle.effects.specs.Effects.{read, effect}
use Rattle.effects.specs.Deeds.{deed, clears}
use Rattle.effects.proofs.Sound.{Sound, sound}
use Rattle.machine.specs.declared.Machine.{Machine}
use Rattle.machine.specs.declared.Motion.{Motion}
use Rattle.machine.specs.declared.Motion.TheVariants.{Still, To, Slewing}
use Rattle.events.specs.declared.Event.{Event}
use Rattle.machine.specs.Turn.{with_variables, start_machine, stored, moving_bit, in_motion, slew, called, returned, armed, held, applied, clearing, turn}
use Rattle.events.specs.Events.{good_event}
use Rattle.machine.specs.Happens.{input, arrived_by, happens}
use Rattle.machine.specs.Code.{Bit, Inputs, moving, Arrived, Happened}
use Rattle.machine.proofs.Turns.{failed_variables}
use Rattle.machine.proofs.Quiet.{of_three}

-- What a variable is after a store: the value stored, or what it was.
module _ (P : ℤ → Type 0) (vars : List ℤ) (v k : ℕ) (z : ℤ) where
  same_place : (t : Bool) → ltb v (length vars) ≡ t → P (read vars v) → P z → P (read (set vars v z) v)
  unfolding read
  same_place true e old new = rw (get_or-set_same vars v z (pos 0) (ltb-true v (length vars) e)) new
  same_place false e old new = rw (set_out vars v z (ltb-false v (length vars) e)) old

  at_place : (t : Bool) → eqb k v ≡ t → P (read vars k) → (v ≡ k → P z) → P (read (set vars v z) k)
  unfolding read
  at_place true e old new =
      let s = eqb-true k v e in
      rw s (same_place (ltb v (length vars)) refl (rw s at old) (new (sym s)))
  at_place false e old new = rw (get_or-set_other vars v k z (pos 0) (eqb-false k v e)) old

  pub after_set : P (read vars k) → (v ≡ k → P z) → P (read (set vars v z) k)
  after_set old new = at_place (eqb k v) refl old new

module _ {vars : List ℤ} (h : Inputs vars) where
  -- A store that puts 0 or 1 into an input.
  pub inputs_set : (v : ℕ) (z : ℤ) → ((k : ℕ) → k < 4 → v ≡ 16 + k → Bit z) → Inputs (set vars v z)
  inputs_set v z b = record { each = λ k l. after_set Bit vars v (16 + k) z (h.each k l) (b k l) }

-- A store to another variable.
pub inputs_below : {vars : List ℤ} (v : ℕ) (z : ℤ) → v < 16 → Inputs vars → Inputs (set vars v z)
inputs_below v z b h = inputs_set h v z (λ k l e. absurd (omega arith))

pub inputs_above : {vars : List ℤ} (v : ℕ) (z : ℤ) → 20 ≤ v → Inputs vars → Inputs (set vars v z)
inputs_above v z b h = inputs_set h v z (λ k l e. absurd (omega arith))

module _ (vars : List ℤ) (h : Inputs vars) (v : ℕ) (z : ℤ) (r : in_range (range_of v (read vars 8) (read vars 9)) z ≡ true) where
  in_bit : (k : ℕ) → k < 4 → v ≡ 16 + k → Bit z
  in_bit k l e = rw (input_range v (read vars 8) (read vars 9) (omega arith) (omega arith)) at r

  stored_by : (t : Bool) → Inputs (cond t (set (set vars v z) 15 (pos 0)) (set vars v z))
  stored_by true = inputs_below 15 (pos 0) (omega arith) (inputs_set h v z in_bit)
  stored_by false = inputs_set h v z in_bit

  inputs_stored : Inputs (stored vars v z)
  unfolding stored
  inputs_stored = stored_by (eqb v 10)

module _ (m : Machine) (h : Inputs m.variables) where
  held_variables : (turns : ℕ) (t : Bool) → ltb 0 turns ≡ t → (held turns m).variables ≡ m.variables
  unfolding held
  held_variables turns true e = rw e
  held_variables turns false e = rw e

  pub inputs_moving : (motion : Motion) → Inputs (in_motion motion m).variables
  unfolding in_motion
  inputs_moving motion = inputs_below 14 (moving_bit motion) (omega arith) h

  inputs_effect : (cells : ℕ) (e : Effect) → Sound m.variables m.places.kept e → Inputs (applied cells e m).machine.variables
  unfolding applied called returned armed
  inputs_effect cells (Fails error) s = rw (failed_variables m error) (inputs_below 15 (pos 1) (omega arith) (inputs_below 10 (pos error) (omega arith) h))
  inputs_effect cells (Stores v z) s = inputs_stored m.variables h v z s
  inputs_effect cells Passes s = h
  inputs_effect cells (Goes cell) s = h
  inputs_effect cells (Calls cell) s = h
  inputs_effect cells Returns s = h
  inputs_effect cells Ends s = h
  inputs_effect cells Stays s = h
  inputs_effect cells (Holds turns) s = rw (held_variables turns (ltb 0 turns) refl) h
  inputs_effect cells (Arms cell) s = h
  inputs_effect cells Disarms s = h
  inputs_effect cells (Moves target kind z) s = inputs_moving (To target)
  inputs_effect cells (Slews z) s = inputs_moving (slew z)
  inputs_effect cells (Prints v z) s = h

  inputs_cleared : (t : Bool) {vars : List ℤ} → Inputs vars → Inputs (clearing t vars)
  unfolding clearing
  inputs_cleared true i = inputs_below 15 (pos 0) (omega arith) i
  inputs_cleared false i = i

  -- After a turn, whatever the statement.
  pub inputs_turn : {R : Type 0} (place number : R → ℕ) (cells : ℕ) (s : Statement R)
      → Inputs (turn cells (deed place number m.variables m.places.kept m.hold s) m).machine.variables
  unfolding turn
  inputs_turn place number cells s =
      inputs_cleared (clears (deed place number m.variables m.places.kept m.hold s))
      (inputs_effect cells (effect place number m.variables m.places.kept m.hold s) (sound m.variables m.places.kept place number m.hold s))

-- A good event of kind 1 is for an input, with 0 or 1.
by_kind : (zeros k : ℕ) (a b c : Bool) → k ≡ 1 → (eqb zeros 0 && ((eqb k 1 && a) || ((eqb k 2 && b) || (eqb k 3 && c)))) ≡ true → a ≡ true
by_kind zeros k a b c e h = sym (or-false a) ∙ ((and-eq-true_iff (eqb zeros 0) (a || false)).0 (rw e at h)).1

pub input_event_lem : (e : Event) → good_event e ≡ true → e.kind ≡ 1 → (1 ≤ e.number) × (e.number ≤ 4) × Bit e.value
unfolding good_event
input_event_lem e h k =
    let a = by_kind e.zeros e.kind ((leb 1 e.number && leb e.number 4) && between (pos 0) (pos 1) e.value)
    (eqb e.number 0 && eq_z e.value (pos 0)) (eqb e.number 0 && in_range literals e.value) k h in
    let b = (and-eq-true_iff (leb 1 e.number && leb e.number 4) (between (pos 0) (pos 1) e.value)).0 a in
    let n = (and-eq-true_iff (leb 1 e.number) (leb e.number 4)).0 b.0 in
    (leb-true 1 e.number n.0, leb-true e.number 4 n.1, b.1)

module _ (m : Machine) (h : Inputs m.variables) where
  inputs_arrived : (motion : Motion) → Inputs (arrived_by motion m).variables
  unfolding arrived_by
  inputs_arrived Still = h
  inputs_arrived (To z) = inputs_moving (with_variables (set m.variables 5 z) m) (inputs_below 5 z (omega arith) h) Still
  inputs_arrived (Slewing z) = h

  inputs_input : (n : ℕ) (z : ℤ) → Bit z → Inputs (input n z m.variables)
  unfolding input
  inputs_input n z b = inputs_above 20 (all_inputs (set m.variables (15 + n) z)) (omega arith) (inputs_set h (15 + n) z (λ k l e. b))

  inputs_kind : (e : Event) → good_event e ≡ true → (t u : Bool) → eqb e.kind 1 ≡ t → eqb e.kind 2 ≡ u → Inputs (happens e m).variables
  unfolding happens
  inputs_kind e g true u p q = rw p (inputs_input e.number e.value (input_event_lem e g (eqb-true e.kind 1 p)).2)
  inputs_kind e g false true p q = rw (p, q) (inputs_arrived m.motion)
  inputs_kind e g false false p q = rw (p, q) (inputs_below 5 e.value (omega arith) h)

  -- After a good event.
  pub inputs_happens : (e : Event) → good_event e ≡ true → Inputs (happens e m).variables
  inputs_happens e g = inputs_kind e g (eqb e.kind 1) (eqb e.kind 2) refl refl

-- Stores from a place on leave what is before it.
sets_before : (vs l : List ℤ) (i j : ℕ) → j < i → read (sets l i vs) j ≡ read l j
unfolding read
sets_before [] l i j h = refl
sets_before (z ∷ vs) l i j h = sets_before vs (set l i z) (suc i) j (omega arith) ∙ get_or-set_other l i j z (pos 0) (λ e. omega arith)

-- At the start.
start_bit : (values : List ℤ) (k : ℕ) → k < 4 → Bit (read (start_machine values).variables (16 + k))
unfolding start_machine start_variables read
start_bit values zero l = rw (sets_before values _ 32 16 (omega arith))
start_bit values (suc zero) l = rw (sets_before values _ 32 17 (omega arith))
start_bit values (suc (suc zero)) l = rw (sets_before values _ 32 18 (omega arith))
start_bit values (suc (suc (suc zero))) l = rw (sets_before values _ 32 19 (omega arith))
start_bit values (suc (suc (suc (suc k)))) l = absurd (omega arith)

pub inputs_start : (values : List ℤ) → Inputs (start_machine values).variables
inputs_start values = record { each = λ k l. start_bit values k l }

-- What the code of IN computes: four numbers of at most 1.
small : (n : ℕ) → Bit (pos n) → n ≤ 1
small n b = leb-true n 1 ((and-eq-true_iff (leb 0 n) (leb n 1)).0 b).1

pub input_small : {vars : List ℤ} (h : Inputs vars) (k n : ℕ) → k < 4 → pos n ≡ read vars (16 + k) → n ≤ 1
input_small h k n l e = small n (subst Bit (sym e) (h.each k l))

pub inputs_sum : (vars : List ℤ) (a b c d : ℕ) → pos a ≡ read vars 16 → pos b ≡ read vars 17 → pos c ≡ read vars 18 → pos d ≡ read vars 19
    → pos (a + 2 * b + 4 * c + 8 * d) ≡ all_inputs vars
unfolding all_inputs read
inputs_sum vars a b c d p q r s = rw (← p, ← q, ← r, ← s)

-- What follows an arrival, by the motion.
module _ {vars : List ℤ} {motion : Motion} where
  pub arrived_still : motion ≡ Still → Arrived vars motion vars motion
  unfolding arrived_by
  arrived_still e = record { each = λ m. rw e }

  pub arrived_to : {z : ℤ} → motion ≡ To z → Arrived vars motion (set (set vars 5 z) 14 (pos 0)) Still
  unfolding arrived_by in_motion moving_bit
  arrived_to e = record { each = λ m. rw e }

  pub arrived_slewing : {z : ℤ} → motion ≡ Slewing z → Arrived vars motion vars motion
  unfolding arrived_by
  arrived_slewing e = record { each = λ m. rw e }

-- What follows an event, by its kind.
module _ {e : Event} {vars : List ℤ} {motion : Motion} where
  pub happened_input : {vars' : List ℤ} → e.kind ≡ 1 → vars' ≡ input e.number e.value vars → Happened e vars motion vars' motion
  unfolding happens
  happened_input k h = record { each = λ m. rw (eq-eqb e.kind 1 k, h) }

  pub happened_arrival : {vars' : List ℤ} {motion' : Motion} → (e.kind ≡ 1 → ⊥) → e.kind ≡ 2 → Arrived vars motion vars' motion' → Happened e vars motion vars' motion'
  unfolding happens
  happened_arrival j k a = record { each = λ m. rw (ne_eqb e.kind 1 j, eq-eqb e.kind 2 k) (a.each m) }

  pub happened_place : (e.kind ≡ 1 → ⊥) → (e.kind ≡ 2 → ⊥) → Happened e vars motion (set vars 5 e.value) motion
  unfolding happens
  happened_place j k = record { each = λ m. rw (ne_eqb e.kind 1 j, ne_eqb e.kind 2 k) }

-- After a good event, the inputs are still 0 or 1.
pub inputs_happened : (m : Machine) {e : Event} {vars vars' : List ℤ} {motion motion' : Motion} → Inputs vars → good_event e ≡ true → Happened e vars motion vars' motion' → Inputs vars'
inputs_happened m {e} {vars} {motion = motion} h g p = rw (← p.each m) at (inputs_happens (moving vars motion m) h e g)

-- An event leaves as many variables as there were.
arrived_size : (k : Motion) (m : Machine) → length (arrived_by k m).variables ≡ length m.variables
unfolding arrived_by in_motion
arrived_size Still m = refl
arrived_size (To z) m = simp length-set
arrived_size (Slewing z) m = refl

happens_size : (e : Event) (m : Machine) → length (happens e m).variables ≡ length m.variables
unfolding happens input
happens_size e m = of_three (λ x. length x.variables ≡ length m.variables) (eqb e.kind 1) (eqb e.kind 2) (simp length-set) (arrived_size m.motion m) (simp length-set)

pub size_happened : (m : Machine) {e : Event} {vars vars' : List ℤ} {motion motion' : Motion} → Happened e vars motion vars' motion' → length vars' ≡ length vars
size_happened m {e} {vars} {motion = motion} p = ap (λ (x : Machine). length x.variables) (p.each m) ∙ happens_size e (moving vars motion m)
