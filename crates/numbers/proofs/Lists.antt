-- Laws of lists and of runs of numbers that several layers need.
-- Assumes nothing.
use mathlib.Core.Path.{◌≡◌, refl, sym, ap, subst, ◌∙◌}
use mathlib.Core.List.{List, [], ◌∷◌, ◌++◌, map, flat_map, append_assoc}
use mathlib.Core.Logic.{⊎_elim}
use Prim.Native.Nat.{ℕ, zero, suc, ◌+◌, ◌*◌, ◌≤◌, ◌<◌}
use native.Mathlib.Nat.{eq-or-lt_of_le, add_comm, mul-zero, mul-suc}
use native.Mathlib.Omega.{arith}
use lib.ListN.{length, get_or, set, take, drop, length-append}
use lib.Seq.{get_or-set_same, set-get_or, drop-append-add}

-- What is made of each of two lists, one behind the other.
pub flat_append : {A B : Type 0} (f : A → List B) (xs ys : List A) → flat_map f (xs ++ ys) ≡ flat_map f xs ++ flat_map f ys
unfolding flat_map
flat_append f [] ys = refl
flat_append {A} {B} f (x ∷ xs) ys = ap (λ (l : List B). f x ++ l) (flat_append f xs ys) ∙ sym (append_assoc (f x) (flat_map f xs) (flat_map f ys))

-- What is made of each is w long: how long all of it is, and what stands behind what is made of the first i.
module _ {A B : Type 0} (f : A → List B) (w : ℕ) (long : (x : A) → length (f x) ≡ w) where
  pub length_flat : (xs : List A) → length (flat_map f xs) ≡ w * length xs
  unfolding flat_map
  length_flat [] = sym (mul-zero w)
  length_flat (x ∷ xs) = length-append (f x) (flat_map f xs) ∙ rw (long x, length_flat xs, mul-suc) (add_comm w (w * length xs))

  pub flat_at : (xs : List A) (i : ℕ) (d : A) (rest : List B) → i < length xs
      → drop (w * i) (flat_map f xs ++ rest) ≡ f (get_or xs i d) ++ (flat_map f (drop (suc i) xs) ++ rest)
  unfolding flat_map
  flat_at [] i d rest h = absurd (omega arith)
  flat_at (x ∷ xs) zero d rest h = rw mul-zero (append_assoc (f x) (flat_map f xs) rest)
  flat_at (x ∷ xs) (suc i) d rest h =
      let e : w * suc i ≡ length (f x) + w * i = rw (long x, mul-suc) (add_comm (w * i) w) in
      rw (e, append_assoc, drop-append-add) (flat_at xs i d rest (omega arith))

-- A place that a list has holds the same whatever stands for those past the end.
pub within : {A : Type 0} (l : List A) (i : ℕ) (d e : A) → i < length l → get_or l i d ≡ get_or l i e
within {A} l i d e h = sym (ap (λ (z : List A). get_or z i d) (set-get_or l i e)) ∙ get_or-set_same l i (get_or l i e) d h

-- The first n elements of a list changed by a function: one more of them, and each of the list by its place.
module _ {A : Type 0} (f : A → A) where
  abbrev pub changed_first : ℕ → List A → List A
  changed_first n l = map f (take n l) ++ drop n l

  pub changed_more : (l : List A) (n : ℕ) (d : A) → n < length l → set (changed_first n l) n (f (get_or (changed_first n l) n d)) ≡ changed_first (suc n) l
  changed_more [] n d h = absurd (omega arith)
  changed_more (x ∷ l) zero d h = refl
  changed_more (x ∷ l) (suc n) d h = ap (λ (xs : List A). f x ∷ xs) (changed_more l n d (omega arith))

  pub changed_all : (l : List A) (n : ℕ) → length l ≤ n → changed_first n l ≡ map f l
  changed_all [] zero h = refl
  changed_all [] (suc n) h = refl
  changed_all (x ∷ l) zero h = absurd (omega arith)
  changed_all (x ∷ l) (suc n) h = ap (λ (xs : List A). f x ∷ xs) (changed_all l n (omega arith))

  pub changed_at : (l : List A) (n k : ℕ) (d : A) → k < n → k < length l → get_or (changed_first n l) k d ≡ f (get_or l k d)
  changed_at [] n k d h i = absurd (omega arith)
  changed_at (x ∷ l) zero k d h i = absurd (omega arith)
  changed_at (x ∷ l) (suc n) zero d h i = refl
  changed_at (x ∷ l) (suc n) (suc k) d h i = changed_at l n k d (omega arith) (omega arith)

  pub changed_past : (l : List A) (n k : ℕ) (d : A) → n ≤ k → get_or (changed_first n l) k d ≡ get_or l k d
  changed_past [] zero k d h = refl
  changed_past [] (suc n) k d h = refl
  changed_past (x ∷ l) zero k d h = refl
  changed_past (x ∷ l) (suc n) zero d h = absurd (omega arith)
  changed_past (x ∷ l) (suc n) (suc k) d h = changed_past l n k d (omega arith)

  pub length_changed : (l : List A) (n : ℕ) → length (changed_first n l) ≡ length l
  length_changed [] zero = refl
  length_changed [] (suc n) = refl
  length_changed (x ∷ l) zero = refl
  length_changed (x ∷ l) (suc n) = ap suc (length_changed l n)

-- What holds of n numbers from k on, one by one, holds of each.
abbrev pub EachFrom : (ℕ → Type 0) → ℕ → ℕ → Type 0
EachFrom P k zero = Unit {0}
EachFrom P k (suc n) = P k × EachFrom P (suc k) n

pub each_from : (P : ℕ → Type 0) (k n : ℕ) → EachFrom P k n → (v : ℕ) → k ≤ v → v < k + n → P v
each_from P k zero t v low high = absurd (omega arith)
each_from P k (suc n) t v low high =
    ⊎_elim (λ e. subst P e t.0) (λ l. each_from P (suc k) n t.1 v l (omega arith)) (eq-or-lt_of_le low)
