-- Laws of lists made for the numbers from one on: what is made of each, one behind the other, and which of them a test finds.
-- Assumes nothing.
use mathlib.Core.Path.{◌≡◌, refl, sym, ap, ap₂, ◌∙◌}
use mathlib.Core.Bool.{Bool, false, ◌||◌}
use mathlib.Core.List.{List, [], ◌∷◌, ◌++◌, flat_map, append-nil}
use mathlib.Core.Logic.{◌⊎◌, inl, inr}
use Prim.Native.Nat.{ℕ, zero, suc, ◌+◌, ◌*◌, ◌-◌, ◌≤◌, ◌<◌}
use native.Mathlib.Nat.{eq-or-lt_of_le, suc-add, zero-add, add-zero, mul-zero, mul-suc}
use native.Mathlib.Omega.{arith}
use lib.Dec.{T}
use lib.ListN.{length, length-append}
use Rattle.numbers.specs.Tests.{any_of, listed}
use Rattle.numbers.proofs.Lists.{flat_append}
use Rattle.numbers.proofs.Tests.{any_append}
use Rattle.numbers.proofs.Truth.{left_of_lem, right_of}

-- The numbers from one on.
abbrev pub numbers : ℕ → ℕ → List ℕ
numbers from n = listed from n (λ k. k)

module _ {A B C : Type 0} (f : B → List C) (g : A → List B) where
  pub flat_flat : (xs : List A) → flat_map f (flat_map g xs) ≡ flat_map (λ x. flat_map f (g x)) xs
  unfolding flat_map
  flat_flat [] = refl
  flat_flat (x ∷ xs) = flat_append f (g x) (flat_map g xs) ∙ ap (λ (l : List C). flat_map f (g x) ++ l) (flat_flat xs)

module _ {A : Type 0} where
  pub listed_append : (f : ℕ → A) (from a b : ℕ) → listed from (a + b) f ≡ listed from a f ++ listed (from + a) b f
  unfolding listed
  listed_append f from zero b = rw (zero-add b, add-zero from)
  listed_append f from (suc a) b =
      let e : from + suc a ≡ suc from + a = omega arith in
      rw (suc-add a b, e) (ap (λ (l : List A). f from ∷ l) (listed_append f (suc from) a b))

-- Of each number one; none; what another gives.
module _ {A : Type 0} where
  pub flat_same : (g h : ℕ → List A) (from n : ℕ) → ((k : ℕ) → from ≤ k → k < from + n → g k ≡ h k) → flat_map g (numbers from n) ≡ flat_map h (numbers from n)
  unfolding flat_map listed
  flat_same g h from zero e = refl
  flat_same g h from (suc n) e =
      ap₂ (λ (x y : List A). x ++ y) (e from (omega arith) (omega arith)) (flat_same g h (suc from) n (λ k l m. e k (omega arith) (omega arith)))

  pub flat_one : (g : ℕ → List A) (f : ℕ → A) (from n : ℕ) → ((k : ℕ) → from ≤ k → k < from + n → g k ≡ f k ∷ []) → flat_map g (numbers from n) ≡ listed from n f
  unfolding flat_map listed
  flat_one g f from zero e = refl
  flat_one g f from (suc n) e =
      ap₂ (λ (x y : List A). x ++ y) (e from (omega arith) (omega arith)) (flat_one g f (suc from) n (λ k l m. e k (omega arith) (omega arith)))

  pub flat_none : (g : ℕ → List A) (from n : ℕ) → ((k : ℕ) → from ≤ k → k < from + n → g k ≡ []) → flat_map g (numbers from n) ≡ []
  unfolding flat_map listed
  flat_none g from zero e = refl
  flat_none g from (suc n) e =
      ap₂ (λ (x y : List A). x ++ y) (e from (omega arith) (omega arith)) (flat_none g (suc from) n (λ k l m. e k (omega arith) (omega arith)))

  -- What is made of one of them, with what stands before and behind it.
  pub flat_at : (g : ℕ → List A) (n k : ℕ) → k < n → flat_map g (numbers 0 n) ≡ flat_map g (numbers 0 k) ++ (g k ++ flat_map g (numbers (suc k) (n - suc k)))
  unfolding flat_map listed
  flat_at g n k h =
      let m : ℕ = n - suc k in
      let e : n ≡ k + suc m = omega arith in
      ap (λ (i : ℕ). flat_map g (numbers 0 i)) e
      ∙ ap (flat_map g) (listed_append (λ i. i) 0 k (suc m))
      ∙ flat_append g (numbers 0 k) (numbers (0 + k) (suc m))
      ∙ ap (λ (i : ℕ). flat_map g (numbers 0 k) ++ flat_map g (numbers i (suc m))) (zero-add k)

  -- Of those in the middle one, of the others none.
  pub flat_middle : (g : ℕ → List A) (f : ℕ → A) (a m b n : ℕ) → n ≡ a + (m + b)
      → ((k : ℕ) → k < a → g k ≡ []) → ((k : ℕ) → a ≤ k → k < a + m → g k ≡ f k ∷ []) → ((k : ℕ) → a + m ≤ k → k < n → g k ≡ [])
      → flat_map g (numbers 0 n) ≡ listed a m f
  flat_middle g f a m b n e first middle last =
      let cut : numbers 0 n ≡ numbers 0 a ++ (numbers a m ++ numbers (a + m) b) =
      ap (numbers 0) e ∙ listed_append (λ k. k) 0 a (m + b)
      ∙ ap (λ (l : List ℕ). numbers 0 a ++ l) (ap (λ (i : ℕ). numbers i (m + b)) (zero-add a) ∙ listed_append (λ k. k) a m b) in
      ap (flat_map g) cut
      ∙ flat_append g (numbers 0 a) (numbers a m ++ numbers (a + m) b)
      ∙ ap₂ (λ (x y : List A). x ++ y) (flat_none g 0 a (λ k l h. first k (omega arith)))
      (flat_append g (numbers a m) (numbers (a + m) b)
      ∙ ap₂ (λ (x y : List A). x ++ y) (flat_one g f a m middle) (flat_none g (a + m) b (λ k l h. last k l (omega arith))))
      ∙ append-nil (listed a m f)

module _ {A B : Type 0} where
  pub flat_listed : (f : A → List B) (g : ℕ → A) (from n : ℕ) → flat_map f (listed from n g) ≡ flat_map (λ k. f (g k)) (numbers from n)
  unfolding flat_map listed
  flat_listed f g from zero = refl
  flat_listed f g from (suc n) = ap (λ (l : List B). f (g from) ++ l) (flat_listed f g (suc from) n)

-- As many things for each number.
pub length_flat : {A : Type 0} (g : ℕ → List A) (w from n : ℕ) → ((k : ℕ) → length (g k) ≡ w) → length (flat_map g (numbers from n)) ≡ w * n
unfolding flat_map listed
length_flat g w from zero e = sym (mul-zero w)
length_flat g w from (suc n) e =
    let h = length_flat g w (suc from) n e in
    let i = e from in
    let j = mul-suc w n in
    length-append (g from) (flat_map g (numbers (suc from) n)) ∙ omega arith

-- A test on the elements of a list.
module _ {A : Type 0} (p : A → Bool) where
  pub any_listed : (f : ℕ → A) (from n k : ℕ) → from ≤ k → k < from + n → T (p (f k)) → T (any_of p (listed from n f))
  unfolding any_of listed
  any_listed f from zero k l h t = absurd (omega arith)
  any_listed f from (suc n) k l h t = here (eq-or-lt_of_le l) (λ e. any_listed f (suc from) n k e (omega arith) t) where
    here : (from ≡ k) ⊎ (from < k) → (from < k → T (any_of p (listed (suc from) n f))) → T (p (f from) || any_of p (listed (suc from) n f))
    here (inl e) more = left_of_lem (p (f from)) (any_of p (listed (suc from) n f)) (rw e t)
    here (inr e) more = right_of (p (f from)) (any_of p (listed (suc from) n f)) (more e)

  pub none_listed : (f : ℕ → A) (from n : ℕ) → ((k : ℕ) → from ≤ k → k < from + n → p (f k) ≡ false) → any_of p (listed from n f) ≡ false
  unfolding any_of listed
  none_listed f from zero h = refl
  none_listed f from (suc n) h = rw (h from (omega arith) (omega arith), none_listed f (suc from) n (λ k l m. h k (omega arith) (omega arith)))

pub any_flat : {A B : Type 0} (p : B → Bool) (g : A → List B) (xs : List A) → any_of p (flat_map g xs) ≡ any_of (λ x. any_of p (g x)) xs
unfolding any_of flat_map
any_flat p g [] = refl
any_flat p g (x ∷ xs) = any_append p (g x) (flat_map g xs) ∙ ap (λ (t : Bool). any_of p (g x) || t) (any_flat p g xs)
