-- What never happens: the sentences of document 01 that say nothing else, no, only or at most.
-- Assumes nothing.
use mathlib.Core.Path.{◌≡◌, refl, ◌∙◌}
use mathlib.Core.Bool.{true, false}
use mathlib.Core.List.{List, [], ◌∷◌, flat_map}
use mathlib.Core.Logic.{◌⊎◌, inl, inr, ⊎_elim}
use Prim.Native.Nat.{ℕ, suc, ◌+◌, ◌*◌, ◌≤◌}
use native.Mathlib.Omega.{arith}
use lib.Dec.{eqb}
use lib.IntN.{ℤ, pos, ◌+ℤ◌, ◌-ℤ◌}
use lib.ListN.{length, length-append}
use Rattle.numbers.specs.Bytes.{bytes}
use Rattle.numbers.specs.Tests.{eq_z}
use Rattle.numbers.proofs.Truth.{chosen}
use Rattle.program.specs.Variables.{in_range, literals}
use Rattle.program.specs.Statements.{Operator, Divided, Value, Statement, SetWith, IC, DC, MA, MR}
use Rattle.effects.specs.declared.Effect.{Effect}
use Rattle.effects.specs.declared.Effect.TheVariants.{Fails}
use Rattle.effects.specs.Errors.{result_error, divisor_zero, value_outside, still_moving}
use Rattle.effects.specs.Deeds.{Deed}
use Rattle.effects.specs.Effects.{read, storing, storing_result, operate, zero_divisor, storing_with, moving, value, effect}
use Rattle.machine.specs.declared.Machine.{Machine}
use Rattle.events.specs.declared.Record.{Record}
use Rattle.machine.specs.declared.Turned.{Turned}
use Rattle.events.specs.declared.Event.{Event}
use Rattle.events.specs.Events.{record_bytes}
use Rattle.machine.specs.Run.{Step, Course, plain, course_of, trace_from, run_from}
use Rattle.machine.proofs.Traces.{few_turns}
use Rattle.rules.proofs.Values.{may_hold}

-- Events 6: a turn records 12 bytes or none.
pub record_length : (t : ℕ) (r : Record) → (length (record_bytes t r) ≡ 0) ⊎ (length (record_bytes t r) ≡ 12)
unfolding record_bytes bytes
record_length t r = chosen (λ (x : List ℕ). (length x ≡ 0) ⊎ (length x ≡ 12)) (eqb r.kind 0) (λ k. inl refl) (λ k. inr refl)

-- Turn 6, Events 6: a run has at most as many turns as the budget, and at most one record of 12 bytes for each.
pub record Bounded (t left : ℕ) (c : Course) : Type 0 where
  pub started : t ≤ c.turns
  pub budget : c.turns ≤ t + left
  pub count : ℕ
  pub whole : length c.records ≡ 12 * count
  pub one_each : t + count ≤ c.turns

-- The records of turns one after the other: 12 bytes for each of so many of them.
pub record Twelves (n : ℕ) (records : List ℕ) : Type 0 where
  pub count : ℕ
  pub whole : length records ≡ 12 * count
  pub one_each : count ≤ n

twelves : (ss : List (Step Machine Deed Turned)) → Twelves (length ss) (flat_map (λ s. record_bytes s.turn s.came.wrote) ss)
unfolding flat_map
twelves [] = record { count = 0; whole = refl; one_each = omega arith }
twelves (s ∷ ss) =
    let n = twelves ss in
    let w = n.whole in
    let o = n.one_each in
    let e = length-append (record_bytes s.turn s.came.wrote) (flat_map (λ s. record_bytes s.turn s.came.wrote) ss) in
    ⊎_elim
    (λ h. record { count = n.count; whole = e ∙ omega arith; one_each = omega arith })
    (λ h. record { count = suc n.count; whole = e ∙ omega arith; one_each = omega arith })
    (record_length s.turn s.came.wrote)

pub run_bounded : (act : Machine → Deed) (cells left t : ℕ) (es : List Event) (m : Machine) → Bounded t left (run_from act cells left t es m)
unfolding course_of
run_bounded act cells left t es m =
    let n = twelves (trace_from act cells left t es m).steps in
    record {
      started = omega arith;
      budget = omega (arith, few_turns plain act cells left t es m);
      count = n.count;
      whole = n.whole;
      one_each = omega (arith, n.one_each);
    }

-- Turn 22, Q-6 3: the order of errors, 106, 102, 101 or 109, 103.
module _ {R : Type 0} (place number : R → ℕ) (vars : List ℤ) (kept hold : ℕ) where
  abbrev does : Statement R → Effect
  does s = effect place number vars kept hold s

  abbrev worth : Value R → ℤ
  worth x = value place number vars kept hold x

  -- A move while MV is 1 is 106, whatever the target.
  pub moving_first : (x : Value R) → read vars 14 ≡ pos 1 → (does (MA x) ≡ Fails still_moving) × (does (MR x) ≡ Fails still_moving)
  unfolding effect moving eq_z
  moving_first x e = (rw e, rw e)

  -- A target outside the literal range is 101 or 109 only then.
  pub target_next : (x : Value R) → eq_z (read vars 14) (pos 1) ≡ false
      → (in_range literals (worth x) ≡ false → does (MA x) ≡ Fails (result_error (worth x))) × (in_range literals (read vars 5 +ℤ worth x) ≡ false → does (MR x) ≡ Fails (result_error (read vars 5 +ℤ worth x)))
  unfolding effect moving
  target_next x e = (λ f. rw (e, f), λ f. rw (e, f))

  -- A zero divisor is 102, whatever the ranges.
  pub divisor_first : (v : R) (x y : Value R) → worth y ≡ pos 0 → does (SetWith v x Divided y) ≡ Fails divisor_zero
  unfolding effect storing_with zero_divisor eq_z
  divisor_first v x y e = rw e

  -- IC and DC past the literal range are 101 or 109, whatever the variable's range.
  pub count_first : (v : R)
      → (in_range literals (read vars (number v) +ℤ pos 1) ≡ false → does (IC v) ≡ Fails (result_error (read vars (number v) +ℤ pos 1)))
      × (in_range literals (read vars (number v) -ℤ pos 1) ≡ false → does (DC v) ≡ Fails (result_error (read vars (number v) -ℤ pos 1)))
  unfolding effect storing_result
  count_first v = (λ f. rw f, λ f. rw f)

  -- A result outside the literal range is 101 or 109, whatever the variable's range; only one inside it can be 103.
  module _ (v : R) (x y : Value R) (o : Operator) (divides : zero_divisor o (worth y) ≡ false) where
    pub literals_next : in_range literals (operate o (worth x) (worth y)) ≡ false → does (SetWith v x o y) ≡ Fails (result_error (operate o (worth x) (worth y)))
    unfolding effect storing_with storing_result
    literals_next f = rw (divides, f)

    pub variable_last : in_range literals (operate o (worth x) (worth y)) ≡ true → may_hold vars (number v) (operate o (worth x) (worth y)) ≡ false
        → does (SetWith v x o y) ≡ Fails value_outside
    unfolding effect storing_with storing_result storing
    variable_last t f = rw (divides, t, f)
