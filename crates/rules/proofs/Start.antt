-- The state before the first turn has the rules.
-- Assumes nothing.
use mathlib.Core.Path.{◌≡◌, refl, sym, ap, ◌∙◌, subst}
use mathlib.Core.Bool.{Bool, true, false, ◌&&◌, ◌||◌, not}
use mathlib.Core.List.{List, ◌++◌}
use mathlib.Core.Logic.{⊎_elim}
use Prim.Native.Nat.{ℕ, zero, suc, ◌+◌, ◌-◌, ◌≤◌, ◌<◌}
use native.Mathlib.Omega.{arith}
use lib.Dec.{T, eqb, leb, eqb→eq, ltb, leb→le, ltb→lt, le→leb, lt→ltb}
use lib.IntN.{ℤ, pos}
use lib.ListN.{length, get_or, set, take, drop, replicate, get_or-append}
use lib.Seq.{sets-eq, length-sets, get_or-append-add, get_or-drop, get_or-take}
use Rattle.numbers.specs.Tests.{all_below, eq_z}
use Rattle.program.specs.Variables.{in_range, literals, range_of, present, start_variables, all_inputs}
use Rattle.program.proofs.Ranges.{user_range}
use Rattle.effects.specs.Effects.{read}
use Rattle.machine.specs.Turn.{unused, start_machine, moving_bit}
use Rattle.rules.specs.Rules.{Ruled, good_motion}
use Rattle.numbers.proofs.Tests.{all_below_lem}
use Rattle.numbers.proofs.Truth.{both, both_of, either, left_of_lem, right_of, if_below}
use Rattle.rules.proofs.Values.{may_hold, eq_z_eq}
use Rattle.rules.proofs.Parts.{together, call_ruled}

-- The same everywhere, and past the end.
pub everywhere : {A : Type 0} (n k : ℕ) (a : A) → get_or (replicate n a) k a ≡ a
everywhere zero k a = refl
everywhere (suc n) zero a = refl
everywhere (suc n) (suc k) a = everywhere n k a

-- The paper's variables at the start, with all others 0.
abbrev first : List ℤ
first = set (set (set (set (replicate 64 (pos 0)) 6 (pos 1000000)) 7 (pos 1000000)) 8 (pos 1000)) 9 (pos 768000)

first_rest : (k : ℕ) → get_or (drop 32 first) k (pos 0) ≡ pos 0
first_rest k = everywhere 32 k (pos 0)

-- Each of the paper's variables in its range but ER (10), and 0 where there is none: by a table.
abbrev paper : ℕ → Bool
paper v = leb 1 v && leb v 20

abbrev starts_in : ℕ → Bool
starts_in v = not (paper v) || (eqb v 10 || in_range (range_of v (pos 1000) (pos 768000)) (get_or first v (pos 0)))

abbrev starts_none : ℕ → Bool
starts_none v = paper v || eq_z (get_or first v (pos 0)) (pos 0)

in_table : (x y z : Bool) → T (not x || (y || z)) → T x → (T y → ⊥) → T z
in_table true true z t p n = absurd (n tt)
in_table true false z t p n = t
in_table false y z t p n = absurd p

first_in : (v : ℕ) → T (paper v) → (v ≡ 10 → ⊥) → T (in_range (range_of v (pos 1000) (pos 768000)) (get_or first v (pos 0)))
unfolding all_below range_of
first_in v p n =
    let h : v ≤ 20 = leb→le v 20 (both (leb 1 v) (leb v 20) p).1 in
    in_table (paper v) (eqb v 10) (in_range (range_of v (pos 1000) (pos 768000)) (get_or first v (pos 0)))
    (all_below_lem starts_in 32 tt v (omega arith)) p (λ t. n (eqb→eq v 10 t))

first_none : (v : ℕ) → v < 32 → (T (paper v) → ⊥) → get_or first v (pos 0) ≡ pos 0
unfolding all_below eq_z
first_none v h n =
    ⊎_elim (λ t. absurd (n t)) (λ t. eq_z_eq (get_or first v (pos 0)) (pos 0) t)
    (either (paper v) (eq_z (get_or first v (pos 0)) (pos 0)) (all_below_lem starts_none 32 tt v h))

-- The variables at the start: those of the paper, those of the user's, and past both.
module _ (values : List ℤ) (room : length values ≤ 32) where
  laid : start_variables values ≡ take 32 first ++ (values ++ drop (32 + length values) first)
  unfolding start_variables
  laid = sets-eq values first 32 (omega arith)

  read_paper : (v : ℕ) → v < 32 → read (start_variables values) v ≡ get_or first v (pos 0)
  unfolding read
  read_paper v h = rw laid (get_or-append (take 32 first) (values ++ drop (32 + length values) first) (pos 0) v h ∙ get_or-take 32 first v (pos 0) h)

  read_user : (k : ℕ) → k < length values → read (start_variables values) (32 + k) ≡ get_or values k (pos 0)
  unfolding read
  read_user k h = rw laid (get_or-append-add (take 32 first) (values ++ drop (32 + length values) first) k (pos 0) ∙ get_or-append values (drop (32 + length values) first) (pos 0) k h)

  read_past : (k : ℕ) → read (start_variables values) (32 + (length values + k)) ≡ pos 0
  unfolding read
  read_past k =
      let e : (32 + length values) + k ≡ 32 + (length values + k) = omega arith in
      rw laid
      (get_or-append-add (take 32 first) (values ++ drop (32 + length values) first) (length values + k) (pos 0)
      ∙ get_or-append-add values (drop (32 + length values) first) k (pos 0)
      ∙ get_or-drop (32 + length values) first k (pos 0)
      ∙ ap (λ (i : ℕ). get_or first i (pos 0)) e
      ∙ sym (get_or-drop 32 first (length values + k) (pos 0))
      ∙ first_rest (length values + k))

  -- In its range each, and 0 where there is none.
  starts_in_lem : ((k : ℕ) → k < length values → T (in_range literals (get_or values k (pos 0))))
      → (v : ℕ) → T (present (length values) v) → (v ≡ 10 → ⊥) → T (may_hold (start_variables values) v (read (start_variables values) v))
  starts_in_lem h v p n =
      rw (read_paper 8 (omega arith), read_paper 9 (omega arith))
      (⊎_elim
      (λ t. let l = leb→le v 20 (both (leb 1 v) (leb v 20) t).1 in rw (read_paper v (omega arith)) (first_in v t n))
      (λ t.
      let b = both (leb 32 v) (ltb v (32 + length values)) t in
      let l = leb→le 32 v b.0 in
      let u = ltb→lt v (32 + length values) b.1 in
      let e : 32 + (v - 32) ≡ v = omega arith in
      rw (user_range v (pos 1000) (pos 768000) (omega arith), ← e, read_user (v - 32) (omega arith)) (h (v - 32) (omega arith)))
      (either (paper v) (leb 32 v && ltb v (32 + length values)) p))

  starts_none_lem : (v : ℕ) → (T (present (length values) v) → ⊥) → read (start_variables values) v ≡ pos 0
  starts_none_lem v n =
      if_below v 32
      (λ h. read_paper v h ∙ first_none v h (λ t. n (left_of_lem (paper v) (leb 32 v && ltb v (32 + length values)) t)))
      (λ l. if_below v (32 + length values)
      (λ u. absurd (n (right_of (paper v) (leb 32 v && ltb v (32 + length values)) (both_of (leb 32 v) (ltb v (32 + length values)) (le→leb 32 v l) (lt→ltb v (32 + length values) u)))))
      (λ u. let e : 32 + (length values + (v - (32 + length values))) ≡ v = omega arith in rw (← e) (read_past (v - (32 + length values)))))

  starts_inputs : read (start_variables values) 20 ≡ all_inputs (start_variables values)
  unfolding all_inputs read
  starts_inputs =
      read_paper 20 (omega arith)
      ∙ sym (rw (read_paper 16 (omega arith), read_paper 17 (omega arith), read_paper 18 (omega arith), read_paper 19 (omega arith)) refl)

  starts : (cells : ℕ) (holds : ℕ → Bool) → ((k : ℕ) → k < length values → T (in_range literals (get_or values k (pos 0))))
      → Ruled cells (length values) holds (start_machine values)
  unfolding start_machine start_variables moving_bit good_motion eq_z
  starts cells holds h =
      together
      (record {
        values =
            record {
              there = length-sets first 32 values;
              error = rw (read_paper 10 (omega arith)) tt;
              in_range = starts_in_lem h;
              unused = starts_none_lem;
            };
        inputs = starts_inputs;
        moving = read_paper 14 (omega arith);
        good_motion = tt;
      })
      (record {
        back =
            record {
              there = refl;
              most = omega arith;
              each = λ k. rw (everywhere 8 k unused) (call_ruled (omega arith));
              none = λ k l. everywhere 8 k unused;
            };
        next_cell = omega arith;
        handler_cell = λ n. absurd (n refl);
        hold_most = omega arith;
        hold_at = λ n. absurd (n refl);
      })

-- Turn 3, Turn 5, Variables 3: the state before the first turn, for start values in the literal range.
pub ruled_start : (cells variables : ℕ) (holds : ℕ → Bool) (values : List ℤ)
    → variables ≤ 32 → length values ≡ variables → ((k : ℕ) → k < variables → T (in_range literals (get_or values k (pos 0))))
    → Ruled cells variables holds (start_machine values)
ruled_start cells variables holds values most e h =
    subst (λ (n : ℕ). Ruled cells n holds (start_machine values)) e (starts values (omega arith) cells holds (λ k l. h k (omega arith)))
