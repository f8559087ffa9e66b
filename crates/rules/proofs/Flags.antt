-- Turn 11, Q-2 3, Q-2 4: what clears EF and what sets it, and what changes ER: a turn, by its statement; no event.
-- Assumes nothing.
use mathlib.Core.Path.{◌≡◌, refl, sym, ap, ◌∙◌, subst}
use mathlib.Core.Bool.{Bool, true, false, cond, not, true≢false}
use mathlib.Core.List.{List}
use mathlib.Core.Logic.{◌⊎◌, inl, inr, ⊎_elim}
use Prim.Native.Nat.{ℕ, suc, zero, ◌+◌, ◌<◌}
use native.Mathlib.Omega.{arith}
use borrow.Author.Tests.{ne_eqb, eqb-false}
use lib.Dec.{T, eqb, leb, ltb, leb→le}
use denote.Enum.Declared.{tag_of}
use lib.IntN.{ℤ, pos, negsuc, nat_abs}
use lib.ListN.{length, set, length-set}
use Rattle.numbers.specs.Tests.{between, Each, all_of}
use Rattle.numbers.proofs.Truth.{both, chosen, if_same}
use Rattle.program.specs.Variables.{range_of, read_only, all_inputs}
use Rattle.program.specs.Statements.{Statement, is_hold}
use Rattle.effects.specs.declared.Effect.{Effect}
use Rattle.effects.specs.declared.Effect.TheVariants.{Fails, Stores, Passes, Goes, Calls, Returns, Ends, Stays, Holds, Arms, Disarms, Moves, Slews, Prints}
use Rattle.effects.specs.contracts.Effect.{the_type}
use Rattle.effects.specs.Effects.{read}
use Rattle.effects.specs.Deeds.{Deed, in_error, clears, deed}
use Rattle.effects.proofs.Reading.{error_clears_nothing, in_error_lem}
use Rattle.machine.specs.declared.Machine.{Machine}
use Rattle.machine.specs.declared.Motion.{Motion}
use Rattle.machine.specs.declared.Motion.TheVariants.{Still, To, Slewing}
use Rattle.events.specs.declared.Event.{Event}
use Rattle.machine.specs.Turn.{stored, in_motion, moving_bit, slew, called, returned, armed, held, applied, clearing, turn}
use Rattle.events.specs.Events.{good_event}
use Rattle.machine.specs.Happens.{input, arrived_by, happens}
use Rattle.machine.specs.Run.{plain, reach, trace_from}
use Rattle.machine.proofs.Quiet.{happens_next}
use Rattle.machine.proofs.Traces.{step, reach_keeps, next_reached, each_step}
use Rattle.rules.specs.Rules.{Ruled}
use Rattle.rules.specs.Good.{Good, Acts}
use Rattle.rules.specs.Flags.{Erring, StoresER, Flags, FlagsIn}
use Rattle.rules.proofs.Values.{read_same, read_other, cleared_other, may_hold}
use Rattle.rules.proofs.Events.{Kinds, an_input, arrived, a_position, kinds_of, ruled_event}
use Rattle.rules.proofs.Errors.{applied_in_error}
use Rattle.rules.proofs.Turn.{Sound, sound_effect, ruled_effect, ruled_turn, zero_only}
use Rattle.rules.proofs.Run.{ruled_act}

-- Two effects with different tags differ; so only one with the tag of a store is a store to ER.
pub tags_apart : {e f : Effect} → eqb (tag_of the_type e) (tag_of the_type f) ≡ false → e ≡ f → ⊥
tags_apart {e} {f} n p = eqb-false (tag_of the_type e) (tag_of the_type f) n (ap (tag_of the_type) p)

no_store : {e : Effect} → eqb (tag_of the_type e) 1 ≡ false → StoresER e → ⊥
no_store p h = tags_apart p h.1

-- What an effect leaves of ER and EF, before anything is cleared: the error and 1, 0 and 0, or what they were.
data Leaves (e : Effect) (before after : List ℤ) : Type 0 where
  erring : (error : ℕ) → e ≡ Fails error → (StoresER e → ⊥) → read after 10 ≡ pos error → read after 15 ≡ pos 1 → Leaves e before after
  storing : e ≡ Stores 10 (pos 0) → in_error e ≡ false → read after 10 ≡ pos 0 → read after 15 ≡ pos 0 → Leaves e before after
  neither : in_error e ≡ false → (StoresER e → ⊥) → read after 10 ≡ read before 10 → read after 15 ≡ read before 15 → Leaves e before after

held_variables : (turns : ℕ) (m : Machine) → (held turns m).variables ≡ m.variables
unfolding held
held_variables turns m = chosen (λ (x : Machine). x.variables ≡ m.variables) (ltb 0 turns) (λ k. refl) (λ k. refl)

module _ (cells variables : ℕ) (holds : ℕ → Bool) (m : Machine) (l : length m.variables ≡ 64) where
  abbrev Left : Effect → Type 0
  Left e = Leaves e m.variables (applied cells e m).machine.variables

  left_erring : (error : ℕ) → Left (Fails error)
  left_erring error =
      let f = (applied_in_error cells error m).variables in
      erring error refl (no_store refl)
      (ap (λ (x : List ℤ). read x 10) f ∙ read_other (set m.variables 10 (pos error)) 15 10 (pos 1) (λ e. omega arith) ∙ read_same m.variables 10 (pos error) (omega arith))
      (ap (λ (x : List ℤ). read x 15) f ∙ read_same (set m.variables 10 (pos error)) 15 (pos 1) (omega (arith, length-set m.variables 10 (pos error))))

  -- A store goes to ER, and is of 0, or it goes to a variable that is neither ER nor EF.
  left_storing : (v : ℕ) (z : ℤ) → T (not (read_only v)) → T (may_hold m.variables v z) → Left (Stores v z)
  unfolding applied stored range_of in_error
  left_storing v z w t =
      if_same v 10
      (λ e.
      let z0 = zero_only z (subst (λ (k : ℕ). T (may_hold m.variables k z)) e t) in
      rw (e, z0)
      (storing refl refl
      (read_other (set m.variables 10 (pos 0)) 15 10 (pos 0) (λ q. omega arith) ∙ read_same m.variables 10 (pos 0) (omega arith))
      (read_same (set m.variables 10 (pos 0)) 15 (pos 0) (omega (arith, length-set m.variables 10 (pos 0))))))
      (λ n.
      rw (ne_eqb v 10 n)
      (neither refl (λ h. let q : v ≡ 10 = cc in n q)
      (read_other m.variables v 10 z (λ q. n (sym q)))
      (read_other m.variables v 15 z (λ q. subst (λ (k : ℕ). T (not (read_only k))) (sym q) w))))

  left_moving : {e : Effect} (motion : Motion) → in_error e ≡ false → (StoresER e → ⊥) → Leaves e m.variables (set m.variables 14 (moving_bit motion))
  left_moving motion p q =
      neither p q (read_other m.variables 14 10 (moving_bit motion) (λ e. omega arith)) (read_other m.variables 14 15 (moving_bit motion) (λ e. omega arith))

  left : (e : Effect) → Sound cells variables holds m e → Left e
  unfolding applied in_motion called returned armed in_error
  left (Fails error) s = left_erring error
  left (Stores v z) s = left_storing v z s.1 s.2
  left Passes s = neither refl (no_store refl) refl refl
  left (Goes cell) s = neither refl (no_store refl) refl refl
  left (Calls cell) s = neither refl (no_store refl) refl refl
  left Returns s = neither refl (no_store refl) refl refl
  left Ends s = neither refl (no_store refl) refl refl
  left Stays s = neither refl (no_store refl) refl refl
  left (Holds turns) s = let p = held_variables turns m in neither refl (no_store refl) (ap (λ (x : List ℤ). read x 10) p) (ap (λ (x : List ℤ). read x 15) p)
  left (Arms cell) s = neither refl (no_store refl) refl refl
  left Disarms s = neither refl (no_store refl) refl refl
  left (Moves target kind z) s = left_moving (To target) refl (no_store refl)
  left (Slews z) s = left_moving (slew z) refl (no_store refl)
  left (Prints v z) s = neither refl (no_store refl) refl refl

-- Clearing leaves ER, and makes EF 0.
er_cleared : (t : Bool) (vars : List ℤ) → read (clearing t vars) 10 ≡ read vars 10
er_cleared t vars = cleared_other t vars 10 (λ e. absurd (omega arith))

ef_cleared : (t : Bool) (vars : List ℤ) → length vars ≡ 64 → read (clearing t vars) 15 ≡ cond t (pos 0) (read vars 15)
unfolding clearing
ef_cleared true vars l = read_same vars 15 (pos 0) (omega arith)
ef_cleared false vars l = refl

-- 0 is not 1.
apart : {z : ℤ} → z ≡ pos 0 → z ≡ pos 1 → ⊥
apart p q = let n : ◌≡◌ {A = ℕ} 0 1 = ap nat_abs (sym p ∙ q) in omega arith

-- A number of one binary digit.
one_digit : (z : ℤ) → T (between (pos 0) (pos 1) z) → (z ≡ pos 0) ⊎ (z ≡ pos 1)
one_digit (pos zero) t = inl refl
one_digit (pos (suc zero)) t = inr refl
one_digit (pos (suc (suc n))) t = absurd (let h = leb→le (suc (suc n)) 1 (both (leb 0 (suc (suc n))) (leb (suc (suc n)) 1) t).1 in omega arith)
one_digit (negsuc n) t = absurd t

module _ (d : Deed) (before after : List ℤ) (size : length after ≡ 64) where
  abbrev E : Effect
  E = d.effect

  abbrev Then : List ℤ → Type 0
  Then x = Flags d before x

  abbrev ef : ℤ
  ef = read (clearing (clears d) after) 15

  ef_is : ef ≡ cond (clears d) (pos 0) (read after 15)
  ef_is = ef_cleared (clears d) after size

  no_error : in_error E ≡ false → Erring E → ⊥
  no_error p h = true≢false (sym ((in_error_lem E).1 h) ∙ p)

  clears_so : d.reads ≡ true → in_error E ≡ false → clears d ≡ true
  unfolding clears
  clears_so p q = rw (p, q)

  unread_so : d.reads ≡ false → clears d ≡ false
  unfolding clears
  unread_so p = rw p

  -- EF where nothing is cleared, and where it is.
  ef_stays : clears d ≡ false → ef ≡ read after 15
  ef_stays p = ef_is ∙ rw p

  ef_goes : clears d ≡ true → ef ≡ pos 0
  ef_goes p = ef_is ∙ rw p

  ef_zero : read after 15 ≡ pos 0 → ef ≡ pos 0
  ef_zero p = ef_is ∙ chosen (λ (z : ℤ). z ≡ pos 0) (clears d) (λ t. refl) (λ t. p)

  module _ (flag : (ef ≡ pos 0) ⊎ (ef ≡ pos 1)) where
    flags_by : Leaves E before after → Then (clearing (clears d) after)
    flags_by (erring error e y er f) =
        let one : ef ≡ pos 1 = ef_stays (error_clears_nothing d e) ∙ f in
        record {
          cleared = λ b. (λ a. absurd (apart a one), λ h. absurd (⊎_elim y (λ r. r.1 (error, e)) h));
          raised = λ b. (λ a. (error, e), λ h. one);
          flag = flag;
          told = λ k q. let n : error ≡ k = cc in er_cleared (clears d) after ∙ er ∙ ap pos n;
          emptied = λ h. absurd (y h);
          kept = λ n o. absurd (n (error, e));
        }
    flags_by (storing e x er f) =
        record {
          cleared = λ b. (λ a. inl (pos 0, e), λ h. ef_zero f);
          raised = λ b. (λ a. absurd (apart (ef_zero f) a), λ h. absurd (no_error x h));
          flag = flag;
          told = λ k q. absurd (no_error x (k, q));
          emptied = λ h. er_cleared (clears d) after ∙ er;
          kept = λ n o. absurd (o (pos 0, e));
        }
    flags_by (neither x y er f) =
        record {
          cleared = λ b. (by_reading d.reads refl b, ⊎_elim (λ h. absurd (y h)) (λ r. ef_goes (clears_so r.0 x)));
          raised = λ b. (λ a. absurd (apart (ef_zero (f ∙ b)) a), λ h. absurd (no_error x h));
          flag = flag;
          told = λ k q. absurd (no_error x (k, q));
          emptied = λ h. absurd (y h);
          kept = λ n o. er_cleared (clears d) after ∙ er;
        }
      where
        by_reading : (t : Bool) → d.reads ≡ t → read before 15 ≡ pos 1 → ef ≡ pos 0 → StoresER E ⊎ ((d.reads ≡ true) × (Erring E → ⊥))
        by_reading true p b a = inr (p, no_error x)
        by_reading false p b a = absurd (apart a (ef_stays (unread_so p) ∙ f ∙ b))

-- Turn 11, Turn 23, Q-2 3, Q-2 4: a turn of a good statement in a state that keeps the rules.
pub flags : {R : Type 0} (cells variables : ℕ) (holds : ℕ → Bool) (place number : R → ℕ) (s : Statement R) (m : Machine)
    → Good cells variables place number s → Ruled cells variables holds m → m.next < cells → holds m.next ≡ is_hold s
    → let d = deed place number m.variables m.places.kept m.hold s in Flags d m.variables (turn cells d m).machine.variables
unfolding turn range_of
flags cells variables holds place number s m good r here e =
    let d = deed place number m.variables m.places.kept m.hold s in
    let sound = sound_effect cells variables holds m place number s good r e in
    let later = ruled_turn cells variables holds place number s m good r here e in
    flags_by d m.variables (applied cells d.effect m).machine.variables (ruled_effect r here d.effect sound).all_there.0
    (one_digit _ (later.in_range 15 tt (λ q. omega arith)))
    (left cells variables holds m r.all_there.0 d.effect sound)

-- Turn 11, Events 2: an event changes neither; of the variables below 16 only P and MV (5 and 14).
module _ (v : ℕ) (low : v < 16) (not_p : v ≡ 5 → ⊥) (not_mv : v ≡ 14 → ⊥) where
  arrived_leaves : (motion : Motion) (m : Machine) → read (arrived_by motion m).variables v ≡ read m.variables v
  unfolding arrived_by in_motion
  arrived_leaves Still m = refl
  arrived_leaves (To z) m = read_other (set m.variables 5 z) 14 v (moving_bit Still) not_mv ∙ read_other m.variables 5 v z not_p
  arrived_leaves (Slewing z) m = refl

  kind_leaves : (e : Event) (m : Machine) → Kinds e → read (happens e m).variables v ≡ read m.variables v
  unfolding happens input
  kind_leaves e m (an_input k lo hi t) =
      rw k
      (read_other (set m.variables (15 + e.number) e.value) 20 v (all_inputs (set m.variables (15 + e.number) e.value)) (λ q. omega arith)
      ∙ read_other m.variables (15 + e.number) v e.value (λ q. omega arith))
  kind_leaves e m (arrived k) = rw k (arrived_leaves m.motion m)
  kind_leaves e m (a_position k t) = rw k (read_other m.variables 5 v e.value not_p)

pub flags_event : (e : Event) (m : Machine) → T (good_event e)
    → (read (happens e m).variables 10 ≡ read m.variables 10) × (read (happens e m).variables 15 ≡ read m.variables 15)
flags_event e m good =
    let k = kinds_of e good in
    (kind_leaves 10 (omega arith) (λ q. omega arith) (λ q. omega arith) e m k, kind_leaves 15 (omega arith) (λ q. omega arith) (λ q. omega arith) e m k)

-- What is told of two states of the variables is told of any with the same ER and EF before.
abbrev SameFlags : List ℤ → List ℤ → Type 0
SameFlags before here = (read here 10 ≡ read before 10) × (read here 15 ≡ read before 15)

flags_since : {d : Deed} {before here after : List ℤ} → SameFlags before here → Flags d here after → Flags d before after
flags_since k f =
    record {
      cleared = λ b. f.cleared (k.1 ∙ b);
      raised = λ b. f.raised (k.1 ∙ b);
      flag = f.flag;
      told = f.told;
      emptied = f.emptied;
      kept = λ n o. f.kept n o ∙ k.0;
    }

-- Turn 11, Q-2 3, Q-2 4: so ER and EF change in each turn of a run, its events and its statement together.
module _ {R : Type 0} (cells variables : ℕ) (holds : ℕ → Bool) (place number : R → ℕ) (act : Machine → Deed)
    (acts : (m : Machine) → Ruled cells variables holds m → m.next < cells → Acts cells variables holds place number act m) where
  pub flags_act : (m : Machine) → Ruled cells variables holds m → m.next < cells → Flags (act m) m.variables (turn cells (act m) m).machine.variables
  flags_act m r here =
      let a = acts m r here in
      subst (λ (d : Deed). Flags d m.variables (turn cells d m).machine.variables) (sym a.does)
      (flags cells variables holds place number a.statement m a.good r here a.hold)

  flags_step : (t : ℕ) (es : List Event) (m : Machine) → m.next < cells → T (all_of good_event es) → Ruled cells variables holds m
      → FlagsIn (step plain act cells t es m)
  flags_step t es m here f r =
      let there = (reach t es m).machine in
      let k = reach_keeps happens (λ x. SameFlags m.variables x.variables) good_event (λ e x g h. let i = flags_event e x g in (i.0 ∙ h.0, i.1 ∙ h.1)) t es m f (refl, refl) in
      flags_since k
      (flags_act there (reach_keeps happens (Ruled cells variables holds) good_event ruled_event t es m f r) (rw (next_reached plain happens_next t es m) here))

  pub flags_run : (left t : ℕ) (es : List Event) (m : Machine) → T (all_of good_event es) → Ruled cells variables holds m
      → Each FlagsIn (trace_from act cells left t es m).steps
  flags_run =
      each_step plain happens_next act cells (Ruled cells variables holds) good_event ruled_event
      (ruled_act cells variables holds place number act acts) FlagsIn flags_step
