-- Document 01, Refusals 20 and 23: the lowest number whose test holds, and the first index that passes a test, are each given exactly where they stand.
-- Assumes nothing.
use mathlib.Core.Path.{◌≡◌, refl, sym, ◌∙◌}
use mathlib.Core.Bool.{Bool, true, false, true≢false, false≢true}
use mathlib.Core.List.{List, [], ◌∷◌}
use mathlib.Core.Logic.{◌↔◌, ◌⊎◌, inl, inr, ⊎_elim}
use Prim.Native.Nat.{ℕ, zero, suc, ◌+◌, ◌-◌, ◌≤◌, ◌<◌}
use native.Mathlib.Omega.{arith}
use lib.ListN.{length, get_or}
use Rattle.numbers.proofs.Tests.{first_passes, first_before, first_here}
use Rattle.numbers.specs.Tests.{lowest, first_below, Lowest, NoRow}

-- What is given is 0, or the number of one of the tests.
pub lowest_range : (n : ℕ) (bs : List Bool) → (lowest (suc n) bs ≡ 0) ⊎ ((suc n ≤ lowest (suc n) bs) × (lowest (suc n) bs ≤ n + length bs))
unfolding lowest
lowest_range n [] = inl refl
lowest_range n (true ∷ bs) = inr (omega arith)
lowest_range n (false ∷ bs) = ⊎_elim (λ z. inl z) (λ r. inr (omega arith)) (lowest_range (suc n) bs)

lowest_later : (n : ℕ) (bs : List Bool) → lowest (suc (suc n)) bs ≡ suc n → ⊥
lowest_later n bs e = ⊎_elim (λ z. omega arith) (λ r. omega arith) (lowest_range (suc n) bs)

-- The lowest number holds, and none below it does.
lowest_holds : (n : ℕ) (bs : List Bool) (k : ℕ) → lowest (suc n) bs ≡ suc n + k → get_or bs k false ≡ true
unfolding lowest
lowest_holds n [] k e = absurd (omega arith)
lowest_holds n (true ∷ bs) zero e = refl
lowest_holds n (true ∷ bs) (suc k) e = absurd (omega arith)
lowest_holds n (false ∷ bs) zero e = absurd (lowest_later n bs (omega arith))
lowest_holds n (false ∷ bs) (suc k) e = lowest_holds (suc n) bs k (omega arith)

lowest_below : (n : ℕ) (bs : List Bool) (k j : ℕ) → lowest (suc n) bs ≡ suc n + k → j < k → get_or bs j false ≡ false
unfolding lowest
lowest_below n [] k j e h = refl
lowest_below n (true ∷ bs) k j e h = absurd (omega arith)
lowest_below n (false ∷ bs) k zero e h = refl
lowest_below n (false ∷ bs) zero (suc j) e h = absurd (omega arith)
lowest_below n (false ∷ bs) (suc k) (suc j) e h = lowest_below (suc n) bs k j (omega arith) (omega arith)

lowest_found : (n : ℕ) (bs : List Bool) (k : ℕ) → get_or bs k false ≡ true → ((j : ℕ) → j < k → get_or bs j false ≡ false) → lowest (suc n) bs ≡ suc n + k
unfolding lowest
lowest_found n [] k h f = absurd (false≢true h)
lowest_found n (true ∷ bs) zero h f = omega arith
lowest_found n (true ∷ bs) (suc k) h f = absurd (true≢false (f 0 (omega arith)))
lowest_found n (false ∷ bs) zero h f = absurd (false≢true h)
lowest_found n (false ∷ bs) (suc k) h f = let e = lowest_found (suc n) bs k h (λ j l. f (suc j) (omega arith)) in omega arith

-- A number is given exactly if its test holds and no test before it does.
pub lowest_exactly : (n : ℕ) (bs : List Bool) (k : ℕ)
    → (lowest (suc n) bs ≡ suc n + k) ↔ Lowest bs k
lowest_exactly n bs k = (λ e. (lowest_holds n bs k e, λ j h. lowest_below n bs k j e h), λ h. lowest_found n bs k h.0 h.1)

lowest_none : (n : ℕ) (bs : List Bool) (k : ℕ) → lowest (suc n) bs ≡ 0 → get_or bs k false ≡ false
unfolding lowest
lowest_none n [] k e = refl
lowest_none n (true ∷ bs) k e = absurd (omega arith)
lowest_none n (false ∷ bs) zero e = refl
lowest_none n (false ∷ bs) (suc k) e = lowest_none (suc n) bs k e

none_lowest : (n : ℕ) (bs : List Bool) → ((k : ℕ) → get_or bs k false ≡ false) → lowest (suc n) bs ≡ 0
unfolding lowest
none_lowest n [] f = refl
none_lowest n (true ∷ bs) f = absurd (true≢false (f 0))
none_lowest n (false ∷ bs) f = none_lowest (suc n) bs (λ k. f (suc k))

-- 0 is given exactly if no test holds.
pub lowest_zero : (n : ℕ) (bs : List Bool) → (lowest (suc n) bs ≡ 0) ↔ NoRow bs
lowest_zero n bs = (λ e k. lowest_none n bs k e, none_lowest n bs)

-- A number that is given just as the table says is the lowest.
pub lowest_decided : (n : ℕ) (bs : List Bool) (m : ℕ) → ((k : ℕ) → (m ≡ suc n + k) ↔ Lowest bs k) → (m ≡ 0) ↔ NoRow bs → m ≡ lowest (suc n) bs
lowest_decided n bs m each none =
    ⊎_elim
    (λ z. none.1 ((lowest_zero n bs).0 z) ∙ sym z)
    (λ b.
    let k = lowest (suc n) bs - suc n in
    let e : lowest (suc n) bs ≡ suc n + k = omega (arith, b.0) in
    (each k).1 ((lowest_exactly n bs k).0 e) ∙ sym e)
    (lowest_range n bs)

-- An index below n is given exactly if it passes and none before it does.
pub first_exactly : (n : ℕ) (p : ℕ → Bool) (k : ℕ) → k < n → (first_below n p ≡ k) ↔ ((p k ≡ true) × ((j : ℕ) → j < k → p j ≡ false))
first_exactly n p k h =
    (λ e. (rw e at (first_passes p n (omega arith)), λ j l. first_before p n j (omega arith)), λ c. first_here p n k h c.1 c.0)
