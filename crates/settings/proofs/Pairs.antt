-- Laws of pairs in a list: good ones rise, so that a name has one pair at most, and its value is what the list gives under that name.
-- Assumes nothing.
use mathlib.Core.Path.{◌≡◌, refl, sym, ap, subst, ◌∙◌}
use mathlib.Core.Bool.{true, ◌&&◌, and-eq-true_iff}
use mathlib.Core.List.{List, [], ◌∷◌}
use mathlib.Core.Logic.{◌↔◌, ◌⊎◌, inl, inr, ⊎_elim}
use Prim.Native.Nat.{ℕ, zero, suc, ◌+◌, ◌*◌, ◌/◌, ◌-◌, ◌≤◌, ◌<◌}
use native.Mathlib.Omega.{arith}
use borrow.Author.Tests.{lt-ltb, le-leb, eq-eqb, ne_eqb, ltb-true, leb-true, eqb-true}
use lib.Dec.{eqb, leb, ltb}
use lib.IntN.{ℤ}
use lib.ListN.{length, get_or}
use Rattle.numbers.proofs.Tests.{length_listed, listed_at}
use Rattle.numbers.proofs.Truth.{if_same}
use Rattle.settings.specs.Layout.{pair_at, pairs_of, good_pair, good_pairs}
use Rattle.settings.specs.Sets.{under}
use Rattle.settings.specs.Requests.{IsName}
use Rattle.settings.specs.declared.Pair.{Pair}

-- A pair is good exactly if its number is that of a name and its zeros are 0.
pub good_exactly : (p : Pair) → (good_pair p ≡ true) ↔ (IsName p.number × (p.zeros ≡ 0))
unfolding good_pair
good_exactly p = (
  λ e.
      let t = (and-eq-true_iff (leb 6 p.number && leb p.number 9) (eqb p.zeros 0)).0 e in
      let n = (and-eq-true_iff (leb 6 p.number) (leb p.number 9)).0 t.0 in
      ((leb-true 6 p.number n.0, leb-true p.number 9 n.1), eqb-true p.zeros 0 t.1),
  λ h. rw (le-leb 6 p.number h.0.0, le-leb p.number 9 h.0.1, h.1) refl,
)

-- Good pairs: the first of them, and those behind it.
pub good_first : (last : ℕ) (p : Pair) (ps : List Pair) → good_pairs last (p ∷ ps) ≡ true → (good_pair p ≡ true) × (last < p.number) × (good_pairs p.number ps ≡ true)
unfolding good_pairs
good_first last p ps e =
    let t = (and-eq-true_iff (good_pair p && ltb last p.number) (good_pairs p.number ps)).0 e in
    let f = (and-eq-true_iff (good_pair p) (ltb last p.number)).0 t.0 in
    (f.0, ltb-true last p.number f.1, t.1)

-- Good pairs are good above any number that the first is above.
pub good_above : (last v : ℕ) (p : Pair) (ps : List Pair) → good_pairs last (p ∷ ps) ≡ true → v < p.number → good_pairs v (p ∷ ps) ≡ true
unfolding good_pairs
good_above last v p ps g h = let f = good_first last p ps g in rw (f.0, lt-ltb v p.number h, f.2)

-- Good pairs above a number are no more than there are numbers up to 9.
good_few : (last : ℕ) (ps : List Pair) → last ≤ 9 → good_pairs last ps ≡ true → last + length ps ≤ 9
good_few last [] l g = omega arith
good_few last (p ∷ ps) l g =
    let f = good_first last p ps g in
    omega (arith, f.1, good_few p.number ps ((good_exactly p).0 f.0).0.1 f.2)

-- Good pairs are good above 5, as no name's number is lower; so they are four at most.
pub good_names : (ps : List Pair) → good_pairs 0 ps ≡ true → good_pairs 5 ps ≡ true
unfolding good_pairs
good_names [] g = refl
good_names (p ∷ ps) g = good_above 0 5 p ps g ((good_exactly p).0 (good_first 0 p ps g).0).0.0

pub good_most : (ps : List Pair) → good_pairs 0 ps ≡ true → length ps ≤ 4
good_most ps g = omega (arith, good_few 5 ps (omega arith) (good_names ps g))

module _ (d : Pair) where
  -- Each is good, its number is above the one before, and so above all before it.
  pub good_at : (last : ℕ) (ps : List Pair) → good_pairs last ps ≡ true → (i : ℕ) → i < length ps → good_pair (get_or ps i d) ≡ true
  good_at last [] e i h = absurd (omega arith)
  good_at last (p ∷ ps) e zero h = (good_first last p ps e).0
  good_at last (p ∷ ps) e (suc i) h = good_at p.number ps (good_first last p ps e).2 i (omega arith)

  above : (last : ℕ) (ps : List Pair) → good_pairs last ps ≡ true → (i : ℕ) → i < length ps → last < (get_or ps i d).number
  above last [] e i h = absurd (omega arith)
  above last (p ∷ ps) e zero h = (good_first last p ps e).1
  above last (p ∷ ps) e (suc i) h = let g = good_first last p ps e in omega (arith, g.1, above p.number ps g.2 i (omega arith))

  pub rises : (last : ℕ) (ps : List Pair) → good_pairs last ps ≡ true → (i j : ℕ) → i < j → j < length ps → (get_or ps i d).number < (get_or ps j d).number
  rises last [] e i j h k = absurd (omega arith)
  rises last (p ∷ ps) e i zero h k = absurd (omega arith)
  rises last (p ∷ ps) e zero (suc j) h k = above p.number ps (good_first last p ps e).2 j (omega arith)
  rises last (p ∷ ps) e (suc i) (suc j) h k = rises p.number ps (good_first last p ps e).2 i j (omega arith) (omega arith)

  module _ (v : ℕ) (given : ℤ) where
    -- The value of a pair of good pairs is given under its number.
    under_at : (last : ℕ) (ps : List Pair) → good_pairs last ps ≡ true → (i : ℕ) → i < length ps → (get_or ps i d).number ≡ v → under v ps given ≡ (get_or ps i d).value
    unfolding under
    under_at last [] e i h n = absurd (omega arith)
    under_at last (p ∷ ps) e zero h n = rw (eq-eqb p.number v n)
    under_at last (p ∷ ps) e (suc i) h n =
        let g = good_first last p ps e in
        let later = above p.number ps g.2 i (omega arith) in
        rw (ne_eqb p.number v (λ z. omega (arith, later, n, z))) (under_at p.number ps g.2 i (omega arith) n)

    -- What is given under a number is the value of a pair that has it; or none has it, and it is what was given.
    abbrev Found : List Pair → Type 0
    Found ps = (i : ℕ) × (i < length ps) × ((get_or ps i d).number ≡ v) × (under v ps given ≡ (get_or ps i d).value)

    abbrev Absent : List Pair → Type 0
    Absent ps = ((i : ℕ) → i < length ps → (get_or ps i d).number ≡ v → ⊥) × (under v ps given ≡ given)

    absent_more : (p : Pair) (ps : List Pair) → (p.number ≡ v → ⊥) → Absent ps → Absent (p ∷ ps)
    unfolding under
    absent_more p ps o a = (each, rw (ne_eqb p.number v o) a.1) where
      each : (i : ℕ) → i < length (p ∷ ps) → (get_or (p ∷ ps) i d).number ≡ v → ⊥
      each zero h n = o n
      each (suc i) h n = a.0 i (omega arith) n

    under_or : (ps : List Pair) → Found ps ⊎ Absent ps
    unfolding under
    under_or [] = inr (λ i h. absurd (omega arith), refl)
    under_or (p ∷ ps) =
        let more = under_or ps in
        if_same p.number v
        (λ z. inl (0, omega arith, z, rw (eq-eqb p.number v z)))
        (λ o. ⊎_elim
        (λ f. inl (suc f.0, omega (arith, f.1), f.2, rw (ne_eqb p.number v o) f.3))
        (λ a. inr (absent_more p ps o a))
        more)

-- The same of the pairs of a file, by their places in front of its trailer.
module _ (s : List ℕ) where
  length_pairs : length (pairs_of s) ≡ length s / 8 - 1
  unfolding pairs_of
  length_pairs = length_listed (pair_at s) 0 (length s / 8 - 1)

  there : (i : ℕ) → 8 * i + 16 ≤ length s → i < length (pairs_of s)
  there i h = omega (arith, length_pairs)

  pair_at_lem : (i : ℕ) → 8 * i + 16 ≤ length s → get_or (pairs_of s) i (pair_at s 0) ≡ pair_at s i
  unfolding pairs_of
  pair_at_lem i h = let e : 0 + i ≡ i = omega arith in listed_at (pair_at s) (pair_at s 0) 0 (length s / 8 - 1) i (omega arith) ∙ ap (pair_at s) e

  -- Where they are good: the zeros of each, and its value under its number.
  module _ (good : good_pairs 0 (pairs_of s) ≡ true) (i : ℕ) (inside : 8 * i + 16 ≤ length s) where
    pub zeros_there : (pair_at s i).zeros ≡ 0
    zeros_there =
        ((good_exactly (pair_at s i)).0
        (subst (λ (p : Pair). good_pair p ≡ true) (pair_at_lem i inside) (good_at (pair_at s 0) 0 (pairs_of s) good i (there i inside)))).1

    pub under_there : (v : ℕ) (given : ℤ) → (pair_at s i).number ≡ v → under v (pairs_of s) given ≡ (pair_at s i).value
    under_there v given n =
        under_at (pair_at s 0) v given 0 (pairs_of s) good i (there i inside) (ap (λ (p : Pair). p.number) (pair_at_lem i inside) ∙ n)
        ∙ ap (λ (p : Pair). p.value) (pair_at_lem i inside)

  -- A pair with this number, or none.
  module _ (v : ℕ) (given : ℤ) where
    abbrev pub FoundThere : Type 0
    FoundThere = (i : ℕ) × (8 * i + 16 ≤ length s) × ((pair_at s i).number ≡ v) × (under v (pairs_of s) given ≡ (pair_at s i).value)

    abbrev pub AbsentThere : Type 0
    AbsentThere = ((i : ℕ) → 8 * i + 16 ≤ length s → (pair_at s i).number ≡ v → ⊥) × (under v (pairs_of s) given ≡ given)

    pub there_or : 8 ≤ length s → FoundThere ⊎ AbsentThere
    there_or long =
        ⊎_elim
        (λ f.
        let inside : 8 * f.0 + 16 ≤ length s = omega (arith, f.1, length_pairs, long) in
        let at = pair_at_lem f.0 inside in
        inl (f.0, inside, sym (ap (λ (p : Pair). p.number) at) ∙ f.2, f.3 ∙ ap (λ (p : Pair). p.value) at))
        (λ a. inr (λ i h n. a.0 i (there i h) (ap (λ (p : Pair). p.number) (pair_at_lem i h) ∙ n), a.1))
        (under_or (pair_at s 0) v given (pairs_of s))
