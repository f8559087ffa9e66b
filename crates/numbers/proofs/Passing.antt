-- Laws of the numbers of which a test holds: the next one, what stands at a place, that they rise, and which they are.
-- Assumes nothing.
use mathlib.Core.Path.{◌≡◌, refl, sym, ap, ◌∙◌}
use mathlib.Core.Bool.{Bool, true, false, true≢false}
use mathlib.Core.List.{List, [], ◌∷◌}
use Prim.Native.Nat.{ℕ, zero, suc, ◌+◌, ◌≤◌, ◌<◌}
use native.Mathlib.Omega.{arith}
use lib.ListN.{length, get_or}
use Rattle.numbers.specs.Tests.{passing}
use Rattle.numbers.proofs.Truth.{is_true, is_false, chosen, if_same}

-- Something holds of each by its place; the numbers rise; a number has a place.
abbrev AtEach : (ℕ → Type 0) → List ℕ → Type 0
AtEach P l = (i : ℕ) → i < length l → P (get_or l i 0)

abbrev Rises : List ℕ → Type 0
Rises l = (i j : ℕ) → i < j → j < length l → get_or l i 0 < get_or l j 0

abbrev HasPlace : List ℕ → ℕ → Type 0
HasPlace l k = (i : ℕ) × (i < length l) × (get_or l i 0 ≡ k)

-- Of one number more, in front.
module _ (x : ℕ) (l : List ℕ) where
  each_more : (P : ℕ → Type 0) → P x → AtEach P l → AtEach P (x ∷ l)
  each_more P h f zero b = h
  each_more P h f (suc i) b = f i (omega arith)

  rises_more : AtEach (λ k. x < k) l → Rises l → Rises (x ∷ l)
  rises_more f r i zero h b = absurd (omega arith)
  rises_more f r zero (suc j) h b = f j (omega arith)
  rises_more f r (suc i) (suc j) h b = r i j (omega arith) (omega arith)

  place_more : (k : ℕ) → HasPlace l k → HasPlace (x ∷ l) k
  place_more k c = (suc c.0, omega (arith, c.1), c.2)

module _ (p : ℕ → Bool) where
  pub passing_yes : (from n : ℕ) → p from ≡ true → passing p from (suc n) ≡ from ∷ passing p (suc from) n
  unfolding passing
  passing_yes from n e = rw e

  pub passing_no : (from n : ℕ) → p from ≡ false → passing p from (suc n) ≡ passing p (suc from) n
  unfolding passing
  passing_no from n e = rw e

  -- Each is one of the n numbers, and passes.
  abbrev Passes : ℕ → ℕ → ℕ → Type 0
  Passes from n k = (from ≤ k) × (k < from + n) × (p k ≡ true)

  passes_more : (from n k : ℕ) → Passes (suc from) n k → Passes from (suc n) k
  passes_more from n k c = (omega (arith, c.0), omega (arith, c.1), c.2)

  pub passing_at : (from n : ℕ) → AtEach (Passes from n) (passing p from n)
  unfolding passing
  passing_at from zero = λ i h. absurd (omega arith)
  passing_at from (suc n) =
      let more : AtEach (Passes from (suc n)) (passing p (suc from) n) = λ i h. passes_more from n (get_or (passing p (suc from) n) i 0) (passing_at (suc from) n i h) in
      chosen (AtEach (Passes from (suc n))) (p from)
      (λ t. each_more from (passing p (suc from) n) (Passes from (suc n)) (omega arith, omega arith, is_true (p from) t) more)
      (λ t. more)

  pub passing_rises : (from n : ℕ) → Rises (passing p from n)
  unfolding passing
  passing_rises from zero = λ i j h b. absurd (omega arith)
  passing_rises from (suc n) =
      chosen Rises (p from)
      (λ t. rises_more from (passing p (suc from) n) (λ i h. omega (arith, (passing_at (suc from) n i h).0)) (passing_rises (suc from) n))
      (λ t. passing_rises (suc from) n)

  -- Each number that passes is there.
  pub passing_found : (from n k : ℕ) → Passes from n k → HasPlace (passing p from n) k
  unfolding passing
  passing_found from zero k c = absurd (omega (arith, c.0, c.1))
  passing_found from (suc n) k c =
      let later : (from ≡ k → ⊥) → HasPlace (passing p (suc from) n) k = λ o. passing_found (suc from) n k (omega (arith, c.0), omega (arith, c.1), c.2) in
      chosen (λ (l : List ℕ). HasPlace l k) (p from)
      (λ t. if_same from k (λ z. (0, omega arith, z)) (λ o. place_more from (passing p (suc from) n) k (later o)))
      (λ t. later (λ z. true≢false (sym c.2 ∙ ap p (sym z) ∙ is_false (p from) t)))

  pub passing_none : (from n : ℕ) → ((k : ℕ) → from ≤ k → k < from + n → p k ≡ false) → passing p from n ≡ []
  unfolding passing
  passing_none from zero f = refl
  passing_none from (suc n) f = rw (f from (omega arith) (omega arith)) (passing_none (suc from) n (λ k h l. f k (omega arith) (omega arith)))

  -- Two tests that say the same.
  pub passing_same : (q : ℕ → Bool) (from n : ℕ) → ((k : ℕ) → from ≤ k → k < from + n → p k ≡ q k) → passing p from n ≡ passing q from n
  unfolding passing
  passing_same q from zero f = refl
  passing_same q from (suc n) f =
      rw (f from (omega arith) (omega arith), passing_same q (suc from) n (λ k h l. f k (omega arith) (omega arith)))
