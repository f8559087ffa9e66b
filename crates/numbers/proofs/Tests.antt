-- Laws of the tests of specs/: over lists, over the numbers below another, over whole numbers, and over words.
-- Assumes nothing.
use mathlib.Core.Path.{◌≡◌, refl, sym, ap, ap₂, subst, ◌∙◌}
use mathlib.Core.Bool.{Bool, true, false, cond, ◌||◌, true≢false, or-true, or_assoc}
use mathlib.Core.List.{List, [], ◌∷◌, ◌++◌, map}
use mathlib.Core.Logic.{◌↔◌, ◌⊎◌, inl, inr, ⊎_elim}
use Prim.Native.Nat.{ℕ, zero, suc, ◌+◌, ◌≤◌, ◌<◌}
use native.Mathlib.Omega.{arith}
use borrow.Author.Tests.{lt-ltb, le-ltb, ltb-true, ltb-false, eq-eqb, eqb-true}
use lib.Dec.{T, eqb, ltb, eqb→eq, eqb_refl}
use lib.IntN.{ℤ, pos, negsuc}
use lib.ListN.{length, get_or}
use Rattle.numbers.specs.Tests.{eq_z, eq_list, Each, all_of, any_of, all_below, any_below, first_below, listed, numbered}
use Rattle.numbers.proofs.Truth.{is_true, true_is, both, both_of, either, left_of_lem, right_of, neither, eqb_turn, if_same}

-- ---- over lists

module _ {A : Type 0} where
  pub each_then : (P Q : A → Type 0) → ((x : A) → P x → Q x) → (xs : List A) → Each P xs → Each Q xs
  each_then P Q f [] h = tt
  each_then P Q f (x ∷ xs) h = (f x h.0, each_then P Q f xs h.1)

  pub each_both : (P Q : A → Type 0) (xs : List A) → Each P xs → Each Q xs → Each (λ x. P x × Q x) xs
  each_both P Q [] g h = tt
  each_both P Q (x ∷ xs) g h = ((g.0, h.0), each_both P Q xs g.1 h.1)

pub each_map : {A B : Type 0} (f : A → B) (P : B → Type 0) (xs : List A) → Each (λ x. P (f x)) xs → Each P (map f xs)
each_map f P [] h = tt
each_map f P (x ∷ xs) h = (h.0, each_map f P xs h.1)

module _ {A : Type 0} (p : A → Bool) where
  -- The test holds of each, or of none, one by one.
  pub all_each : (xs : List A) → Each (λ x. T (p x)) xs → T (all_of p xs)
  unfolding all_of
  all_each [] h = tt
  all_each (x ∷ xs) h = both_of (p x) (all_of p xs) h.0 (all_each xs h.1)

  pub none_each : (xs : List A) → any_of p xs ≡ false → Each (λ x. p x ≡ false) xs
  unfolding any_of
  none_each [] e = tt
  none_each (x ∷ xs) e = let c = neither (p x) (any_of p xs) e in (c.0, none_each xs c.1)

  pub each_none : (xs : List A) → Each (λ x. p x ≡ false) xs → any_of p xs ≡ false
  unfolding any_of
  each_none [] h = refl
  each_none (x ∷ xs) h = rw h.0 (each_none xs h.1)

  pub all_append : (a b : List A) → T (all_of p a) → T (all_of p b) → T (all_of p (a ++ b))
  unfolding all_of
  all_append [] b h g = g
  all_append (x ∷ a) b h g = let c = both (p x) (all_of p a) h in both_of (p x) (all_of p (a ++ b)) c.0 (all_append a b c.1 g)

  pub any_append : (xs ys : List A) → any_of p (xs ++ ys) ≡ (any_of p xs || any_of p ys)
  unfolding any_of
  any_append [] ys = refl
  any_append (x ∷ xs) ys = ap (λ (t : Bool). p x || t) (any_append xs ys) ∙ sym (or_assoc (p x) (any_of p xs) (any_of p ys))

  -- What holds of all holds of each by its place.
  pub all_at : (a : List A) (d : A) (i : ℕ) → T (all_of p a) → i < length a → T (p (get_or a i d))
  unfolding all_of
  all_at [] d i h l = absurd (omega arith)
  all_at (x ∷ a) d zero h l = (both (p x) (all_of p a) h).0
  all_at (x ∷ a) d (suc i) h l = all_at a d i (both (p x) (all_of p a) h).1 (omega arith)

  pub all_then : (q : A → Bool) → ((x : A) → T (p x) → T (q x)) → (a : List A) → T (all_of p a) → T (all_of q a)
  unfolding all_of
  all_then q f [] h = tt
  all_then q f (x ∷ a) h = let c = both (p x) (all_of p a) h in both_of (q x) (all_of q a) (f x c.0) (all_then q f a c.1)

  pub any_then : (q : A → Bool) → ((x : A) → T (p x) → T (q x)) → (a : List A) → T (any_of p a) → T (any_of q a)
  unfolding any_of
  any_then q f [] t = absurd t
  any_then q f (x ∷ a) t = ⊎_elim (λ h. left_of_lem (q x) (any_of q a) (f x h)) (λ h. right_of (q x) (any_of q a) (any_then q f a h)) (either (p x) (any_of p a) t)

  -- What follows from the test on each element follows where it holds of some.
  pub from_any : (Q : Type 0) (xs : List A) → Each (λ x. T (p x) → Q) xs → T (any_of p xs) → Q
  unfolding any_of
  from_any Q [] e t = absurd t
  from_any Q (x ∷ xs) e t = ⊎_elim e.0 (from_any Q xs e.1) (either (p x) (any_of p xs) t)

  pub from_some : (Q : Type 0) → ((x : A) → T (p x) → Q) → (xs : List A) → T (any_of p xs) → Q
  unfolding any_of
  from_some Q f [] t = absurd t
  from_some Q f (x ∷ xs) t = ⊎_elim (f x) (from_some Q f xs) (either (p x) (any_of p xs) t)

-- ---- lists by numbers

module _ {A : Type 0} (f : ℕ → A) where
  pub length_listed : (from n : ℕ) → length (listed from n f) ≡ n
  unfolding listed
  length_listed from zero = refl
  length_listed from (suc n) = ap suc (length_listed (suc from) n)

  pub listed_at : (d : A) (from n k : ℕ) → k < n → get_or (listed from n f) k d ≡ f (from + k)
  unfolding listed
  listed_at d from zero k h = absurd (omega arith)
  listed_at d from (suc n) zero h = ap f (omega arith)
  listed_at d from (suc n) (suc k) h = listed_at d (suc from) n k (omega arith) ∙ ap f (omega arith)

  pub all_listed : (p : A → Bool) (from n : ℕ) → ((k : ℕ) → k < from + n → T (p (f k))) → T (all_of p (listed from n f))
  unfolding listed all_of
  all_listed p from zero h = tt
  all_listed p from (suc n) h = both_of (p (f from)) (all_of p (listed (suc from) n f)) (h from (omega arith)) (all_listed p (suc from) n (λ k l. h k (omega arith)))

-- ---- the numbers below n

module _ (p : ℕ → Bool) where
  -- What holds of all holds of each.
  pub all_below_lem : (n : ℕ) → T (all_below n p) → (k : ℕ) → k < n → T (p k)
  unfolding all_below
  all_below_lem zero t k h = absurd (omega arith)
  all_below_lem (suc n) t k h =
      let c = both (all_below n p) (p n) t in
      if_same k n (λ e. rw e c.1) (λ o. all_below_lem n c.0 k (omega arith))

  -- The test holds of none, so not of one that is named; and back.
  pub none_below : (n : ℕ) → any_below n p ≡ false → (k : ℕ) → k < n → p k ≡ false
  unfolding any_below
  none_below zero e k h = absurd (omega arith)
  none_below (suc n) e k h =
      let c = neither (any_below n p) (p n) e in
      if_same k n (λ i. rw i c.1) (λ o. none_below n c.0 k (omega arith))

  pub no_any : (n : ℕ) → ((k : ℕ) → k < n → p k ≡ false) → any_below n p ≡ false
  unfolding any_below
  no_any zero h = refl
  no_any (suc n) h = rw (no_any n (λ k l. h k (omega arith)), h n (omega arith))

  -- It holds of some exactly if it holds of one that is named.
  pub any_below_lem : (n k : ℕ) → k < n → p k ≡ true → any_below n p ≡ true
  unfolding any_below
  any_below_lem zero k h t = absurd (omega arith)
  any_below_lem (suc n) k h t =
      if_same k n (λ e. rw (← e, t) (or-true (any_below k p))) (λ o. rw (any_below_lem n k (omega arith) t))

  some_below : (n : ℕ) → any_below n p ≡ true → (k : ℕ) × (k < n) × (p k ≡ true)
  unfolding any_below
  some_below zero e = absurd (true≢false (sym e))
  some_below (suc n) e =
      ⊎_elim
      (λ t. let r = some_below n (is_true (any_below n p) t) in (r.0, omega arith, r.2))
      (λ t. (n, omega arith, is_true (p n) t))
      (either (any_below n p) (p n) (true_is (any_below n p || p n) e))

  pub any_exactly : (n : ℕ) → (any_below n p ≡ true) ↔ ((k : ℕ) × (k < n) × (p k ≡ true))
  any_exactly n = (some_below n, λ c. any_below_lem n c.0 c.1 c.2)

  -- The first that passes: at most n; it is n where none passes; a number that passes with none before it is the first.
  pub first_most : (n : ℕ) → first_below n p ≤ n
  unfolding first_below
  first_most zero = omega arith
  first_most (suc n) = step (ltb (first_below n p) n || p n) (first_most n) where
    step : (t : Bool) → first_below n p ≤ n → cond t (first_below n p) (suc n) ≤ suc n
    step true h = omega arith
    step false h = omega arith

  pub first_none : (n : ℕ) → ((j : ℕ) → j < n → p j ≡ false) → first_below n p ≡ n
  unfolding first_below
  first_none zero h = refl
  first_none (suc n) h = rw (first_none n (λ j l. h j (omega arith)), le-ltb n n (omega arith), h n (omega arith))

  pub first_here : (n k : ℕ) → k < n → ((j : ℕ) → j < k → p j ≡ false) → p k ≡ true → first_below n p ≡ k
  unfolding first_below
  first_here zero k l h t = absurd (omega arith)
  first_here (suc n) k l h t =
      if_same k n
      (λ e. rw (← e, first_none k h, t, or-true))
      (λ o. let b : k < n = omega arith in rw (first_here n k b h t, lt-ltb k n b))

  -- None before it passes.
  pub first_before : (n k : ℕ) → k < first_below n p → p k ≡ false
  unfolding first_below
  first_before zero k h = absurd (omega arith)
  first_before (suc n) k h = step (ltb (first_below n p) n) (p n) refl refl (first_most n) (first_before n k) h where
    step : (t u : Bool) → ltb (first_below n p) n ≡ t → p n ≡ u → first_below n p ≤ n → (k < first_below n p → p k ≡ false)
        → k < cond (t || u) (first_below n p) (suc n) → p k ≡ false
    step true u e f m g l = g l
    step false true e f m g l = g l
    step false false e f m g l = if_same k n (λ i. rw i f) (λ o. g (omega (arith, ltb-false (first_below n p) n e)))

  -- Where some passes it is below n, and passes.
  pub first_found : (n : ℕ) → T (any_below n p) → first_below n p < n
  first_found n t =
      if_same (first_below n p) n
      (λ e. absurd (true≢false (sym (is_true (any_below n p) t) ∙ no_any n (λ k h. first_before n k (omega arith)))))
      (λ o. omega (arith, first_most n))

  pub first_passes : (n : ℕ) → first_below n p < n → p (first_below n p) ≡ true
  unfolding first_below
  first_passes zero h = absurd (omega arith)
  first_passes (suc n) h = step (ltb (first_below n p) n) (p n) refl refl (first_most n) (first_passes n) h where
    step : (t u : Bool) → ltb (first_below n p) n ≡ t → p n ≡ u → first_below n p ≤ n → (first_below n p < n → p (first_below n p) ≡ true)
        → cond (t || u) (first_below n p) (suc n) < suc n → p (cond (t || u) (first_below n p) (suc n)) ≡ true
    step true u e f m g l = g (ltb-true (first_below n p) n e)
    step false true e f m g l = let b = ltb-false (first_below n p) n e in let z : first_below n p ≡ n = omega arith in rw z f
    step false false e f m g l = absurd (omega arith)

-- ---- whole numbers

-- Two whole numbers are the same where the test says so; the test the other way round.
pub eq_z_refl : (a : ℤ) → eq_z a a ≡ true
unfolding eq_z
eq_z_refl (pos a) = eq-eqb a a refl
eq_z_refl (negsuc a) = eq-eqb a a refl

pub eq_z_same : (a b : ℤ) → eq_z a b ≡ true → a ≡ b
unfolding eq_z
eq_z_same (pos a) (pos b) e = ap pos (eqb-true a b e)
eq_z_same (pos a) (negsuc b) e = absurd (true≢false (sym e))
eq_z_same (negsuc a) (pos b) e = absurd (true≢false (sym e))
eq_z_same (negsuc a) (negsuc b) e = ap negsuc (eqb-true a b e)

pub eq_z_turn : (a b : ℤ) → eq_z a b ≡ eq_z b a
unfolding eq_z
eq_z_turn (pos a) (pos b) = eqb_turn a b
eq_z_turn (pos a) (negsuc b) = refl
eq_z_turn (negsuc a) (pos b) = refl
eq_z_turn (negsuc a) (negsuc b) = eqb_turn a b

-- ---- words

-- Two lists of numbers are the same where the test says so.
pub eq_list_refl : (a : List ℕ) → T (eq_list a a)
unfolding eq_list
eq_list_refl [] = tt
eq_list_refl (x ∷ a) = both_of (eqb x x) (eq_list a a) (eqb_refl x) (eq_list_refl a)

pub eq_list_eq : (a b : List ℕ) → T (eq_list a b) → a ≡ b
unfolding eq_list
eq_list_eq [] [] t = refl
eq_list_eq [] (y ∷ b) t = absurd t
eq_list_eq (x ∷ a) [] t = absurd t
eq_list_eq (x ∷ a) (y ∷ b) t = let p = both (eqb x y) (eq_list a b) t in ap₂ (λ (z : ℕ) (c : List ℕ). z ∷ c) (eqb→eq x y p.0) (eq_list_eq a b p.1)

-- What holds of all words of a table holds of a word that has a place there.
numbered_next : (t : Bool) (r : ℕ) → (cond t 1 (cond (eqb r 0) 0 (suc r)) ≡ 0 → ⊥) → T t ⊎ (r ≡ 0 → ⊥)
numbered_next true r h = inl tt
numbered_next false zero h = absurd (h refl)
numbered_next false (suc r) h = inr (λ e. omega arith)

pub numbered_all : (p : List ℕ → Bool) (words : List (List ℕ)) (w : List ℕ) → T (all_of p words) → (numbered words w ≡ 0 → ⊥) → T (p w)
unfolding all_of numbered
numbered_all p [] w a h = absurd (h refl)
numbered_all p (x ∷ words) w a h =
    let c = both (p x) (all_of p words) a in
    ⊎_elim
    (λ t. subst (λ (u : List ℕ). T (p u)) (eq_list_eq x w t) c.0)
    (λ g. numbered_all p words w c.1 g)
    (numbered_next (eq_list x w) (numbered words w) h)

-- And of a word that is the same as one of them.
pub member_all : (p : List ℕ → Bool) (words : List (List ℕ)) (w : List ℕ) → T (all_of p words) → T (any_of (eq_list w) words) → T (p w)
unfolding all_of any_of
member_all p [] w a t = absurd t
member_all p (x ∷ words) w a t =
    let c = both (p x) (all_of p words) a in
    ⊎_elim
    (λ e. subst (λ (u : List ℕ). T (p u)) (sym (eq_list_eq w x e)) c.0)
    (member_all p words w c.1)
    (either (eq_list w x) (any_of (eq_list w) words) t)
