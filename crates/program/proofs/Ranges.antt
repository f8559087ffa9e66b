-- The ranges by tests of the number: what the code asks, and what the layers above ask of a variable whose number is not known.
-- Assumes nothing.
use mathlib.Core.Path.{◌≡◌, refl, sym, ◌∙◌}
use mathlib.Core.Bool.{Bool, true, false, cond, ◌&&◌}
use mathlib.Core.Logic.{⊎_elim}
use Prim.Native.Nat.{ℕ, ◌+◌, ◌≤◌, ◌<◌}
use native.Mathlib.Omega.{arith}
use borrow.Author.Tests.{lt-ltb, le-ltb, ltb-true, ltb-false, ne_eqb}
use lib.Dec.{T, eqb, leb, ltb, leb→le, ltb→lt}
use lib.IntN.{ℤ, pos, ◌+ℤ◌, ◌-ℤ◌}
use lib.ListN.{get_or-eq_default}
use Rattle.numbers.proofs.Lists.{EachFrom, each_from}
use Rattle.numbers.proofs.Truth.{both, either}
use Rattle.program.specs.declared.Range.{Range}
use Rattle.program.specs.Variables.{from_to, literals, by_number, user_variable, range_of, present}

-- A number over 20 is the user's.
pub user_range : (v : ℕ) (vi vm : ℤ) → 20 < v → range_of v vi vm ≡ literals
unfolding range_of
user_range v vi vm h = rw (get_or-eq_default by_number user_variable {n = v} (omega arith))

abbrev pub tested : ℕ → ℤ → ℤ → Range
tested v vi vm =
    cond (ltb v 6) literals
    (cond (ltb v 8) (from_to (pos 1) (pos 2147483647))
    (cond (eqb v 8) (from_to (pos 1) (vm -ℤ pos 1))
    (cond (eqb v 9) (from_to (vi +ℤ pos 1) (pos 2560000))
    (cond (eqb v 10) (from_to (pos 0) (pos 0))
    (cond (ltb v 20) (from_to (pos 0) (pos 1))
    (cond (eqb v 20) (from_to (pos 0) (pos 15)) literals))))))

tested_user : (v : ℕ) (vi vm : ℤ) → 20 < v → tested v vi vm ≡ literals
tested_user v vi vm h =
    rw (
      le-ltb v 6 (omega arith),
      le-ltb v 8 (omega arith),
      ne_eqb v 8 (λ e. omega arith),
      ne_eqb v 9 (λ e. omega arith),
      ne_eqb v 10 (λ e. omega arith),
      le-ltb v 20 (omega arith),
      ne_eqb v 20 (λ e. omega arith),
    )

-- Of the numbers below 21 the table says just what the tests say.
paper_tested : (vi vm : ℤ) → EachFrom (λ (v : ℕ). range_of v vi vm ≡ tested v vi vm) 0 21
unfolding range_of
paper_tested vi vm = (refl, (refl, (refl, (refl, (refl, (refl, (refl, (refl, (refl, (refl, (refl, (refl, (refl, (refl, (refl, (refl, (refl, (refl, (refl, (refl, (refl, tt)))))))))))))))))))))

pub range_tested : (v : ℕ) (vi vm : ℤ) → range_of v vi vm ≡ tested v vi vm
range_tested v vi vm = pick (ltb v 21) refl
  where
    pick : (t : Bool) → ltb v 21 ≡ t → range_of v vi vm ≡ tested v vi vm
    pick true e = each_from (λ (k : ℕ). range_of k vi vm ≡ tested k vi vm) 0 21 (paper_tested vi vm) v (omega arith) (ltb-true v 21 e)
    pick false e = let h = ltb-false v 21 e in user_range v vi vm h ∙ sym (tested_user v vi vm h)

-- Only the ranges of VI (8) and VM (9) go by other variables.
pub range_other : (v : ℕ) (a b c d : ℤ) → (v ≡ 8 → ⊥) → (v ≡ 9 → ⊥) → range_of v a b ≡ range_of v c d
range_other v a b c d h k = rw (range_tested v a b, range_tested v c d, ne_eqb v 8 h, ne_eqb v 9 k)

-- The inputs, 16 to 19, are 0 or 1.
pub input_range : (v : ℕ) (vi vm : ℤ) → 16 ≤ v → v < 20 → range_of v vi vm ≡ from_to (pos 0) (pos 1)
input_range v vi vm low high =
    rw (
      range_tested v vi vm,
      le-ltb v 6 (omega arith),
      le-ltb v 8 (omega arith),
      ne_eqb v 8 (λ e. omega arith),
      ne_eqb v 9 (λ e. omega arith),
      ne_eqb v 10 (λ e. omega arith),
      lt-ltb v 20 high,
    )

-- A variable that is there is one of the paper's or one of the user's.
pub by_present : {Q : Type 0} (users v : ℕ) → T (present users v) → (1 ≤ v → v ≤ 20 → Q) → (32 ≤ v → v < 32 + users → Q) → Q
by_present users v t f g =
    ⊎_elim
    (λ p. let q = both (leb 1 v) (leb v 20) p in f (leb→le 1 v q.0) (leb→le v 20 q.1))
    (λ p. let q = both (leb 32 v) (ltb v (32 + users)) p in g (leb→le 32 v q.0) (ltb→lt v (32 + users) q.1))
    (either (leb 1 v && leb v 20) (leb 32 v && ltb v (32 + users)) t)
