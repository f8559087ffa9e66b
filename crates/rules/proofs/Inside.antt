-- In a state that keeps the rules every operand of an accepted program is in the literal range; so neither a division nor an MA is 101 or 109.
-- Assumes nothing.
use mathlib.Core.Path.{◌≡◌, refl, sym, subst}
use mathlib.Core.Bool.{Bool, true, false}
use mathlib.Core.Logic.{⊎_elim}
use Prim.Native.Nat.{ℕ, ◌+◌, ◌≤◌}
use native.Mathlib.Omega.{arith}
use lib.Dec.{T, eqb, leb, ltb, leb→le, le→leb, eqb→eq}
use lib.IntN.{ℤ, pos, negsuc, nat_abs}
use lib.Signed.{quot_z}
use Rattle.numbers.specs.Tests.{any_of, between, eq_z}
use Rattle.numbers.proofs.Kit.{abs_quot}
use Rattle.numbers.proofs.Truth.{true_is, both, both_of, either, chosen, if_same}
use Rattle.program.specs.declared.Range.{Range}
use Rattle.program.specs.Variables.{in_range, literals, range_of, present}
use Rattle.program.specs.Statements.{Value, Literal, Variable, Divided, SetWith, MA}
use Rattle.program.proofs.Ranges.{range_tested}
use Rattle.effects.specs.Errors.{is_error}
use Rattle.effects.specs.Effects.{read, operate, zero_divisor, value, effect}
use Rattle.effects.specs.Results.{Neither, results}
use Rattle.effects.proofs.Results.{error_numbers, never_out, over_or_under}
use Rattle.machine.specs.declared.Machine.{Machine}
use Rattle.rules.specs.Rules.{Ruled}
use Rattle.rules.specs.Good.{readable}
use Rattle.rules.proofs.Values.{Speeds, error_number, speeds}
use Rattle.rules.proofs.Parts.{registers_of}

-- The literal range, by the distance from 0.
near : (z : ℤ) → nat_abs z ≤ 2147483647 → T (in_range literals z)
near (pos n) h = le→leb n 2147483647 h
near (negsuc n) h = both_of (leb n 2147483646) true (le→leb n 2147483646 (omega arith)) tt

distance : (z : ℤ) → T (in_range literals z) → nat_abs z ≤ 2147483647
distance (pos n) t = leb→le n 2147483647 t
distance (negsuc n) t = let h = leb→le n 2147483646 (both (leb n 2147483646) true t).0 in omega arith

-- Each kind of range that a variable has: from a number on up to a higher one; VI and VM, which go by each other; the number of an error.
natural : (lo hi : ℕ) (z : ℤ) → hi ≤ 2147483647 → T (between (pos lo) (pos hi) z) → T (in_range literals z)
natural lo hi (pos n) h t = let k = leb→le n hi (both (leb lo n) (leb n hi) t).1 in le→leb n 2147483647 (omega arith)
natural lo hi (negsuc n) h t = absurd t

-- What is in this range is in that of literals.
abbrev Within : ℤ → Range → Type 0
Within z r = T (in_range r z) → T (in_range literals z)

range_inside : (v : ℕ) (vi vm z : ℤ) → (v ≡ 8 → ⊥) → (v ≡ 9 → ⊥) → Within z (range_of v vi vm)
range_inside v vi vm z i m =
    subst (Within z) (sym (range_tested v vi vm))
    (chosen (Within z) (ltb v 6) (λ k t. t)
    (λ k. chosen (Within z) (ltb v 8) (λ k. natural 1 2147483647 z (omega arith))
    (λ k. chosen (Within z) (eqb v 8) (λ k. absurd (i (eqb→eq v 8 k)))
    (λ k. chosen (Within z) (eqb v 9) (λ k. absurd (m (eqb→eq v 9 k)))
    (λ k. chosen (Within z) (eqb v 10) (λ k. natural 0 0 z (omega arith))
    (λ k. chosen (Within z) (ltb v 20) (λ k. natural 0 1 z (omega arith))
    (λ k. chosen (Within z) (eqb v 20) (λ k. natural 0 15 z (omega arith)) (λ k t. t))))))))

speeds_inside : (a b : ℤ) → Speeds a b → T (in_range literals a) × T (in_range literals b)
speeds_inside (pos a) (pos b) s =
    let x = leb→le (a + 1) b s.apart in
    let y = leb→le b 2560000 s.fastest in
    (le→leb a 2147483647 (omega arith), le→leb b 2147483647 (omega arith))
speeds_inside (pos a) (negsuc b) s = absurd s.apart
speeds_inside (negsuc a) b s = absurd s.slowest

error_inside : (z : ℤ) → T (error_number z) → T (in_range literals z)
unfolding eq_z is_error any_of
error_inside (pos n) t =
    ⊎_elim
    (λ e. le→leb n 2147483647 (let k = eqb→eq n 0 e in omega arith))
    (λ e. ⊎_elim (λ b. natural 101 106 (pos n) (omega arith) b) (λ b. le→leb n 2147483647 (let k = eqb→eq n 109 b in omega arith))
    (either (between (pos 101) (pos 106) (pos n)) (eqb n 109) (subst T (error_numbers (pos n)) e)))
    (either (eqb n 0) (is_error (pos n)) t)
error_inside (negsuc n) t = absurd t

module _ {cells variables : ℕ} {holds : ℕ → Bool} {m : Machine} (r : Ruled cells variables holds m) where
  -- Every variable of a ruled state is in the literal range.
  pub variable_inside : (v : ℕ) → T (in_range literals (read m.variables v))
  variable_inside v = by_present (present variables v) refl
    where
      by_present : (t : Bool) → present variables v ≡ t → T (in_range literals (read m.variables v))
      by_present true e =
          let s = speeds_inside (read m.variables 8) (read m.variables 9) (speeds variables m.variables (registers_of r).values) in
          if_same v 10 (λ k. rw k (error_inside (read m.variables 10) r.error))
          (λ n. if_same v 8 (λ k. rw k s.0)
          (λ i. if_same v 9 (λ k. rw k s.1)
          (λ j. range_inside v (read m.variables 8) (read m.variables 9) (read m.variables v) i j (r.in_range v (true_is (present variables v) e) n))))
      by_present false e = rw (r.unused_variables v (λ t. subst T e t)) tt

  module _ {R : Type 0} (place number : R → ℕ) where
    abbrev worth : Value R → ℤ
    worth x = value place number m.variables m.places.kept m.hold x

    pub worth_inside : (x : Value R) → T (readable variables number x) → T (in_range literals (worth x))
    unfolding value readable
    worth_inside (Literal z) t = t
    worth_inside (Variable v) t = variable_inside (number v)

    -- Q-6 2: a quotient is no farther from 0 than what is divided, and MA goes to a place in the range.
    pub division_inside : (v : R) (x y : Value R) → T (readable variables number x)
        → Neither (effect place number m.variables m.places.kept m.hold (SetWith v x Divided y))
    unfolding results operate
    division_inside v x y t =
        let k = distance (worth x) (worth_inside x t) in
        never_out (quot_z (worth x) (worth y)) (zero_divisor Divided (worth y)) (near (quot_z (worth x) (worth y)) (omega (arith, abs_quot (worth x) (worth y))))
        (over_or_under m.variables place number m.places.kept m.hold (SetWith v x Divided y))

    pub target_inside : (x : Value R) → T (readable variables number x) → Neither (effect place number m.variables m.places.kept m.hold (MA x))
    unfolding results
    target_inside x t =
        never_out (worth x) (eq_z (read m.variables 14) (pos 1)) (worth_inside x t) (over_or_under m.variables place number m.places.kept m.hold (MA x))
