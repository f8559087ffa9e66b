-- Tests as facts: what one test tells, and two of them joined. That true is not false, that both of two are true, and what joining with true
-- or false leaves, the kit has (mathlib.Core.Bool: true≢false, and-eq-true-iff, and-true, and-false, or-true, or-false, or-assoc).
-- Assumes nothing.
use mathlib.Core.Path.{◌≡◌, refl, sym, subst, ◌∙◌}
use mathlib.Core.Bool.{Bool, true, false, cond, ◌&&◌, ◌||◌, not, true≢false}
use mathlib.Core.Logic.{◌⊎◌, inl, inr}
use Prim.Native.Nat.{ℕ, ◌≤◌, ◌<◌}
use borrow.Author.Tests.{ltb-true, ltb-false, eq-eqb, ne_eqb, eqb-true, eqb-false}
use lib.Dec.{T, T_not, eqb, ltb, eqb→eq, eqb_refl}

-- A test that holds is true, one that does not is false, and back.
pub is_true : (t : Bool) → T t → t ≡ true
is_true true h = refl
is_true false h = absurd h

pub true_is : (t : Bool) → t ≡ true → T t
true_is t e = subst T (sym e) tt

pub is_false : (t : Bool) → T (not t) → t ≡ false
is_false true h = absurd h
is_false false h = refl

-- One that cannot hold.
pub is_no : (t : Bool) → (T t → ⊥) → t ≡ false
is_no true h = absurd (h tt)
is_no false h = refl

-- Tests that hold together, one of two that holds, neither of two, and two that hold for each other.
pub both : (x y : Bool) → T (x && y) → T x × T y
both true y t = (tt, t)
both false y t = absurd t

pub both_of : (x y : Bool) → T x → T y → T (x && y)
both_of true y s t = t
both_of false y s t = absurd s

pub either : (x y : Bool) → T (x || y) → T x ⊎ T y
either true y t = inl tt
either false y t = inr t

pub left_of_lem : (x y : Bool) → T x → T (x || y)
left_of_lem true y t = tt
left_of_lem false y t = absurd t

pub right_of : (x y : Bool) → T y → T (x || y)
right_of true y t = tt
right_of false y t = t

pub neither : (x y : Bool) → (x || y) ≡ false → (x ≡ false) × (y ≡ false)
neither true y e = absurd (true≢false e)
neither false y e = (refl, e)

pub same_test : (x y : Bool) → (T x → T y) → (T y → T x) → x ≡ y
same_test true true f g = refl
same_test true false f g = absurd (f tt)
same_test false true f g = absurd (g tt)
same_test false false f g = refl

-- Two numbers that a test tells apart; the test the other way round.
pub not_same : (a b : ℕ) → T (not (eqb a b)) → a ≡ b → ⊥
not_same a b t e = T_not (eqb a b) t (subst (λ (k : ℕ). T (eqb a k)) e (eqb_refl a))

pub eqb_turn : (a b : ℕ) → eqb a b ≡ eqb b a
eqb_turn a b =
    same_test (eqb a b) (eqb b a)
    (λ t. subst (λ (k : ℕ). T (eqb k a)) (eqb→eq a b t) (eqb_refl a))
    (λ t. subst (λ (k : ℕ). T (eqb k b)) (eqb→eq b a t) (eqb_refl b))

-- By whether two numbers are the same; by whether one is below the other.
module _ {C : Type 0} (a b : ℕ) where
  pub if_same : (a ≡ b → C) → ((a ≡ b → ⊥) → C) → C
  if_same f g = tested (eqb a b) refl where
    tested : (t : Bool) → eqb a b ≡ t → C
    tested true e = f (eqb-true a b e)
    tested false e = g (eqb-false a b e)

  pub if_below : (a < b → C) → (b ≤ a → C) → C
  if_below f g = tested (ltb a b) refl where
    tested : (t : Bool) → ltb a b ≡ t → C
    tested true e = f (ltb-true a b e)
    tested false e = g (ltb-false a b e)

-- What holds of either side of a choice, each by its test; of both sides, whatever the test.
module _ {A : Type 0} (P : A → Type 0) where
  pub chosen : (t : Bool) {x y : A} → (T t → P x) → (T (not t) → P y) → P (cond t x y)
  chosen true f g = f tt
  chosen false f g = g tt

  pub of_both : (t : Bool) {x y : A} → P x → P y → P (cond t x y)
  of_both t p q = chosen t (λ h. p) (λ h. q)

-- A choice whose test is known.
module _ {A : Type 0} where
  pub cond_yes : (t : Bool) (x y : A) → t ≡ true → cond t x y ≡ x
  cond_yes t x y e = rw e

  pub cond_no : (t : Bool) (x y : A) → t ≡ false → cond t x y ≡ y
  cond_no t x y e = rw e

-- An answer that is chosen by whether a number is 0 tells that number.
pub zero_number : {A : Type 0} (f : A → ℕ) (n : ℕ) (x y : A) → f x ≡ 0 → f y ≡ n → f (cond (eqb n 0) x y) ≡ n
zero_number f n x y p q = if_same n 0 (λ z. rw (eq-eqb n 0 z) (p ∙ sym z)) (λ o. rw (ne_eqb n 0 o) q)
