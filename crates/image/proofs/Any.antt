-- Laws of a search: over the numbers below a bound, and over a list.
-- Assumes nothing.
use mathlib.Core.Path.{◌≡◌, refl, sym, ap, ◌∙◌}
use mathlib.Core.Bool.{Bool, true, false}
use Prim.Native.Nat.{ℕ, zero, suc, ◌+◌, ◌≤◌, ◌<◌}
use native.Mathlib.Numerals.{add-one}
use native.Mathlib.Omega.{arith}
use Rattle.numbers.specs.Tests.{any_below}
use Rattle.numbers.proofs.Tests.{any_below_lem}

-- A search over the numbers k below n: none yet; one more without; one that is; all without. What a turn looked at is r.
pub none_yet : (p : ℕ → Bool) → any_below 0 p ≡ false
unfolding any_below
none_yet p = refl

module _ (p : ℕ → Bool) (k : ℕ) where
  pub one_more : {r : Bool} → any_below k p ≡ false → r ≡ p k → r ≡ false → any_below (k + 1) p ≡ false
  unfolding any_below
  one_more h e f = rw (add-one k, h, ← e) f

  pub that_is : {r : Bool} {n m : ℕ} → n ≡ m → k < n → r ≡ p k → r ≡ true → true ≡ any_below m p
  that_is {n = n} q l e f = rw (← q) (sym (any_below_lem p n k l (sym e ∙ f)))

  pub all_without : {n m : ℕ} → n ≡ m → k ≤ n → n ≤ k → any_below k p ≡ false → false ≡ any_below m p
  all_without {m = m} q l l' h = let e : k ≡ m = omega arith in sym h ∙ ap (λ (j : ℕ). any_below j p) e

-- Two searches that look at the same.
pub same_search : (n : ℕ) {p q : ℕ → Bool} → ((k : ℕ) → k < n → p k ≡ q k) → any_below n p ≡ any_below n q
unfolding any_below
same_search zero f = refl
same_search (suc n) f = rw (same_search n (λ k h. f k (omega arith)), f n (omega arith))
