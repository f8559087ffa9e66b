-- The variables of a ruled state: what one store leaves of them.
-- Assumes nothing.
use mathlib.Core.Path.{◌≡◌, refl, sym, ap, ◌∙◌, subst}
use mathlib.Core.Bool.{Bool, true, false, ◌||◌, true≢false}
use mathlib.Core.List.{List}
use mathlib.Core.Logic.{◌⊎◌, ⊎_elim}
use Prim.Native.Nat.{ℕ, zero, suc, ◌≤◌, ◌<◌}
use native.Mathlib.Omega.{arith}
use lib.Dec.{T, eqb→eq, leb-zero, leb-suc-zero, leb-suc-suc}
use lib.IntN.{ℤ, pos, negsuc, suc_ℤ, pred_ℤ, +ℤ_one, -ℤ_one, ◌+ℤ◌, ◌-ℤ◌}
use lib.ListN.{length, set, length-set}
use lib.Seq.{set_out, get_or-set_same, get_or-set_other}
use lib.Signed.{le_z}
use Rattle.numbers.specs.Tests.{eq_z}
use Rattle.program.specs.Variables.{in_range, range_of, present, all_inputs}
use Rattle.numbers.proofs.Truth.{both, both_of, if_same, if_below}
use Rattle.program.proofs.Ranges.{range_other}
use Rattle.effects.specs.Errors.{is_error}
use Rattle.effects.specs.Effects.{read}
use Rattle.machine.specs.Turn.{clearing}

-- Two whole numbers are the same where the test says so.
pub eq_z_eq : (a b : ℤ) → T (eq_z a b) → a ≡ b
unfolding eq_z
eq_z_eq (pos a) (pos b) t = ap pos (eqb→eq a b t)
eq_z_eq (pos a) (negsuc b) t = absurd t
eq_z_eq (negsuc a) (pos b) t = absurd t
eq_z_eq (negsuc a) (negsuc b) t = ap negsuc (eqb→eq a b t)

-- A variable after a store to one: that one is the value, each other is as before.
pub read_same : (vars : List ℤ) (v : ℕ) (z : ℤ) → v < length vars → read (set vars v z) v ≡ z
unfolding read
read_same vars v z h = get_or-set_same vars v z (pos 0) h

pub read_other : (vars : List ℤ) (v w : ℕ) (z : ℤ) → (w ≡ v → ⊥) → read (set vars v z) w ≡ read vars w
unfolding read
read_other vars v w z h = get_or-set_other vars v w z (pos 0) h

-- Q-2 3: behind a turn EF (15) may be cleared; each other variable is as before.
pub cleared_other : (t : Bool) (vars : List ℤ) (v : ℕ) → (v ≡ 15 → t ≡ false) → read (clearing t vars) v ≡ read vars v
unfolding clearing
cleared_other true vars v n = read_other vars 15 v (pos 0) (λ e. true≢false (n e))
cleared_other false vars v n = refl

-- IN by the inputs: a store elsewhere leaves it.
pub inputs_other : (vars : List ℤ) (v : ℕ) (z : ℤ) → (v < 16) ⊎ (20 ≤ v) → all_inputs (set vars v z) ≡ all_inputs vars
unfolding all_inputs
inputs_other vars v z h =
    rw (
      get_or-set_other vars v 16 z (pos 0) (λ e. ⊎_elim (λ a. omega arith) (λ a. omega arith) h),
      get_or-set_other vars v 17 z (pos 0) (λ e. ⊎_elim (λ a. omega arith) (λ a. omega arith) h),
      get_or-set_other vars v 18 z (pos 0) (λ e. ⊎_elim (λ a. omega arith) (λ a. omega arith) h),
      get_or-set_other vars v 19 z (pos 0) (λ e. ⊎_elim (λ a. omega arith) (λ a. omega arith) h),
    )

-- VI is at most VM - 1 exactly if VI + 1 is at most VM.
next_before : (a b : ℤ) → le_z a (pred_ℤ b) ≡ le_z (suc_ℤ a) b
next_before (pos a) (pos zero) = sym (leb-suc-zero a)
next_before (pos a) (pos (suc b)) = sym (leb-suc-suc a b)
next_before (pos a) (negsuc b) = refl
next_before (negsuc zero) (pos zero) = refl
next_before (negsuc zero) (pos (suc b)) = sym (leb-zero (suc b))
next_before (negsuc zero) (negsuc b) = leb-suc-zero b
next_before (negsuc (suc a)) (pos zero) = leb-zero (suc a)
next_before (negsuc (suc a)) (pos (suc b)) = refl
next_before (negsuc (suc a)) (negsuc b) = leb-suc-suc b a

one_less : (a b : ℤ) → le_z a (b -ℤ pos 1) ≡ le_z (a +ℤ pos 1) b
one_less a b = rw (+ℤ_one a, -ℤ_one b) (next_before a b)

-- VI and VM by each other, said once for both.
pub record Speeds (vi vm : ℤ) : Type 0 where
  pub slowest : T (le_z (pos 1) vi)
  pub apart : T (le_z (vi +ℤ pos 1) vm)
  pub fastest : T (le_z vm (pos 2560000))

pub vi_range : {a b : ℤ} → Speeds a b → T (in_range (range_of 8 a b) a)
unfolding range_of
vi_range {a} {b} s = both_of (le_z (pos 1) a) (le_z a (b -ℤ pos 1)) s.slowest (subst T (sym (one_less a b)) s.apart)

pub vm_range : {a b : ℤ} → Speeds a b → T (in_range (range_of 9 a b) b)
unfolding range_of
vm_range {a} {b} s = both_of (le_z (a +ℤ pos 1) b) (le_z b (pos 2560000)) s.apart s.fastest

-- ER may be this; a variable may hold this value.
abbrev pub error_number : ℤ → Bool
error_number z = eq_z z (pos 0) || is_error z

abbrev pub may_hold : List ℤ → ℕ → ℤ → Bool
may_hold vars v z = in_range (range_of v (read vars 8) (read vars 9)) z

-- The rules for the variables alone; IN and MV go by more.
module _ (variables : ℕ) where
  pub record Values (vars : List ℤ) : Type 0 where
    pub there : length vars ≡ 64
    pub error : T (error_number (read vars 10))
    pub in_range : (v : ℕ) → T (present variables v) → (v ≡ 10 → ⊥) → T (may_hold vars v (read vars v))
    pub unused : (v : ℕ) → (T (present variables v) → ⊥) → read vars v ≡ pos 0

  module _ (vars : List ℤ) (ok : Values vars) where
    -- The two speeds as they are; after a store to VI; after one to VM.
    pub speeds : Speeds (read vars 8) (read vars 9)
    unfolding range_of
    speeds =
        let i = both (le_z (pos 1) (read vars 8)) (le_z (read vars 8) (read vars 9 -ℤ pos 1)) (ok.in_range 8 tt (λ e. omega arith)) in
        let m = both (le_z (read vars 8 +ℤ pos 1) (read vars 9)) (le_z (read vars 9) (pos 2560000)) (ok.in_range 9 tt (λ e. omega arith)) in
        record { slowest = i.0; apart = m.0; fastest = m.1 }

    slower : (z : ℤ) → T (may_hold vars 8 z) → Speeds z (read vars 9)
    unfolding range_of
    slower z t =
        let i = both (le_z (pos 1) z) (le_z z (read vars 9 -ℤ pos 1)) t in
        record { slowest = i.0; apart = subst T (one_less z (read vars 9)) i.1; fastest = speeds.fastest }

    faster : (z : ℤ) → T (may_hold vars 9 z) → Speeds (read vars 8) z
    unfolding range_of
    faster z t =
        let m = both (le_z (read vars 8 +ℤ pos 1) z) (le_z z (pos 2560000)) t in
        record { slowest = speeds.slowest; apart = m.0; fastest = m.1 }

    -- One store of what its variable may hold; a run error sets ER (10) itself.
    module _ (v : ℕ) (z : ℤ) (p : T (present variables v)) (h : (v ≡ 10 → ⊥) → T (may_hold vars v z)) (er : v ≡ 10 → T (error_number z)) (inside : v < 64) where
      at_same : (w : ℕ) → w ≡ v → read (set vars v z) w ≡ z
      at_same w e = let l = ok.there in rw e (read_same vars v z (omega arith))

      hold_at : (w : ℕ) → v ≡ w → (w ≡ 10 → ⊥) → T (may_hold vars w z)
      hold_at w e n = subst (λ (k : ℕ). T (may_hold vars k z)) e (h (λ f. n (sym e ∙ f)))

      speeds_after : Speeds (read (set vars v z) 8) (read (set vars v z) 9)
      speeds_after =
          if_same v 8
          (λ e. rw (at_same 8 (sym e), read_other vars v 9 z (λ f. omega arith)) (slower z (hold_at 8 e (λ f. omega arith))))
          (λ i. if_same v 9
          (λ e. rw (at_same 9 (sym e), read_other vars v 8 z (λ f. omega arith)) (faster z (hold_at 9 e (λ f. omega arith))))
          (λ m. rw (read_other vars v 8 z (λ f. i (sym f)), read_other vars v 9 z (λ f. m (sym f))) speeds))

      in_range_after : (w : ℕ) → T (present variables w) → (w ≡ 10 → ⊥) → T (may_hold (set vars v z) w (read (set vars v z) w))
      in_range_after w q n =
          if_same w 8
          (λ e. rw e (vi_range speeds_after))
          (λ i. if_same w 9
          (λ e. rw e (vm_range speeds_after))
          (λ m. rw (range_other w (read (set vars v z) 8) (read (set vars v z) 9) (read vars 8) (read vars 9) i m)
          (if_same w v (λ e. rw (at_same w e) (hold_at w (sym e) n)) (λ f. rw (read_other vars v w z f) (ok.in_range w q n)))))

      values_inside : Values (set vars v z)
      values_inside =
          record {
            there = length-set vars v z ∙ ok.there;
            error = if_same 10 v (λ e. rw (at_same 10 e) (er (sym e))) (λ f. rw (read_other vars v 10 z f) ok.error);
            in_range = in_range_after;
            unused = λ w q. read_other vars v w z (λ e. q (subst (λ (k : ℕ). T (present variables k)) (sym e) p)) ∙ ok.unused w q;
          }

    pub values_set : (v : ℕ) (z : ℤ) → T (present variables v) → ((v ≡ 10 → ⊥) → T (may_hold vars v z)) → (v ≡ 10 → T (error_number z)) → Values (set vars v z)
    values_set v z p h er =
        if_below v 64 (values_inside v z p h er) (λ o. let l = ok.there in rw (set_out vars v z (omega arith)) ok)
