-- Sums over numbers in a row.
-- Assumes nothing.
use mathlib.Core.Path.{◌≡◌, refl, ap, ◌∙◌}
use mathlib.Core.Bool.{cond}
use mathlib.Core.List.{List, [], flat_map}
use Prim.Native.Nat.{ℕ, zero, suc, ◌+◌, ◌*◌, ◌≤◌, ◌<◌}
use native.Mathlib.Nat.{mul-zero, mul-suc, zero-mul}
use native.Mathlib.Omega.{arith}
use borrow.Author.Tests.{eq-eqb, ne_eqb}
use lib.Dec.{eqb}
use lib.ListN.{length, length-append}
use Rattle.numbers.specs.Tests.{listed}
use Rattle.numbers.proofs.Truth.{if_same}
use Rattle.listing.proofs.Lists.{numbers}

-- The sum of f over n numbers, from `from` on.
abbrev pub sum : ℕ → ℕ → (ℕ → ℕ) → ℕ
sum from zero f = 0
sum from (suc n) f = f from + sum (suc from) n f

-- One number more at the end.
pub sum_more : (from n : ℕ) (f : ℕ → ℕ) → sum from (suc n) f ≡ sum from n f + f (from + n)
sum_more from zero f = let e : from + 0 ≡ from = omega arith in rw e (omega arith)
sum_more from (suc n) f =
    let i = sum_more (suc from) n f in
    let e : suc from + n ≡ from + suc n = omega arith in
    let j = ap f e in
    omega arith

-- Two things counted for each number.
pub sum_both : (from n : ℕ) (f g h : ℕ → ℕ) → ((t : ℕ) → h t ≡ f t + g t) → sum from n h ≡ sum from n f + sum from n g
sum_both from zero f g h e = omega arith
sum_both from (suc n) f g h e = let i = sum_both (suc from) n f g h e in let j = e from in omega arith

-- At most m for each number; at least m.
pub sum_most : (m from n : ℕ) (f : ℕ → ℕ) → ((t : ℕ) → from ≤ t → f t ≤ m) → sum from n f ≤ m * n
sum_most m from zero f h = omega (arith, mul-zero m)
sum_most m from (suc n) f h = omega (arith, h from (omega arith), sum_most m (suc from) n f (λ t l. h t (omega arith)), mul-suc m n)

pub sum_least : (m from n : ℕ) (f : ℕ → ℕ) → ((t : ℕ) → t < from + n → m ≤ f t) → m * n ≤ sum from n f
sum_least m from zero f h = omega (arith, mul-zero m)
sum_least m from (suc n) f h = omega (arith, h from (omega arith), sum_least m (suc from) n f (λ t l. h t (omega arith)), mul-suc m n)

pub sum_none : (from n : ℕ) (f : ℕ → ℕ) → ((t : ℕ) → from ≤ t → f t ≤ 0) → sum from n f ≡ 0
sum_none from n f h = omega (arith, sum_most 0 from n f h, zero-mul n)

-- Sums of sums, either way round.
pub sum_turn : (a m b n : ℕ) (f : ℕ → ℕ → ℕ) → sum a m (λ t. sum b n (f t)) ≡ sum b n (λ k. sum a m (λ t. f t k))
sum_turn a m b zero f = sum_none a m (λ t. 0) (λ t l. omega arith)
sum_turn a m b (suc n) f =
    sum_both a m (λ t. f t b) (λ t. sum (suc b) n (f t)) (λ t. f t b + sum (suc b) n (f t)) (λ t. refl)
    ∙ ap (λ (r : ℕ). sum a m (λ t. f t b) + r) (sum_turn a m (suc b) n f)

-- The length of lists one behind the other; of a list that stands at one number only.
pub flat_sum : {A : Type 0} (g : ℕ → List A) (from n : ℕ) → length (flat_map g (numbers from n)) ≡ sum from n (λ k. length (g k))
unfolding flat_map listed
flat_sum g from zero = refl
flat_sum g from (suc n) =
    length-append (g from) (flat_map g (numbers (suc from) n)) ∙ ap (λ (r : ℕ). length (g from) + r) (flat_sum g (suc from) n)

pub sum_once : {A : Type 0} (l : List A) (a from n : ℕ) → sum from n (λ t. length (cond (eqb a t) l [])) ≤ length l
sum_once l a from zero = omega arith
sum_once l a from (suc n) =
    if_same a from
    (λ e. rw (eq-eqb a from e) (omega (arith, sum_none (suc from) n (λ t. length (cond (eqb a t) l [])) (λ t h. rw (ne_eqb a t (λ i. omega arith)) (omega arith)))))
    (λ o. rw (ne_eqb a from o) (omega (arith, sum_once l a (suc from) n)))
