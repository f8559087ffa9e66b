-- The two editions: how a file of each is laid out, what names it has, and what it gives under a name.
-- Assumes nothing.
use mathlib.Core.Path.{◌≡◌, refl}
use mathlib.Core.Bool.{true, false, and-eq-true_iff}
use mathlib.Core.List.{List}
use mathlib.Core.Logic.{◌⊎◌, inl, inr}
use Prim.Native.Nat.{ℕ, ◌*◌, ◌%◌, ◌-◌, ◌≤◌}
use native.Mathlib.Omega.{arith}
use borrow.Author.Tests.{eqb-true, eq-eqb, ne_eqb}
use lib.Dec.{eqb}
use lib.ListN.{length}
use Rattle.numbers.proofs.Lists.{each_from}
use Rattle.numbers.proofs.Truth.{if_same}
use Rattle.settings.specs.Layout.{edition_of, value_at, pairs_of, good_pairs, laid_out}
use Rattle.settings.specs.Sets.{by_place, under, by_pairs, has, names_in, finished}
use Rattle.settings.specs.Requests.{IsName, value_of, all_four}
use Rattle.settings.specs.declared.Pair.{Pair}
use Rattle.settings.specs.declared.Settings.{Settings}
use Rattle.settings.specs.declared.Chosen.{Chosen}

-- What each edition has under a name.
pub by_place_lem : (s : List ℕ) (v : ℕ) → IsName v → value_of (by_place s) v ≡ value_at s (4 * (v - 6))
unfolding by_place
by_place_lem s v n = each_from (λ (k : ℕ). value_of (by_place s) k ≡ value_at s (4 * (k - 6))) 6 4 (refl, (refl, (refl, (refl, tt)))) v n.0 (omega (arith, n.1))

pub by_pairs_lem : (ps : List Pair) (given : Settings) (v : ℕ) → IsName v → value_of (by_pairs ps given) v ≡ under v ps (value_of given v)
unfolding by_pairs
by_pairs_lem ps given v n =
    each_from (λ (k : ℕ). value_of (by_pairs ps given) k ≡ under k ps (value_of given k)) 6 4 (refl, (refl, (refl, (refl, tt)))) v n.0 (omega (arith, n.1))

-- The names of pairs.
abbrev pub names_of : List Pair → Chosen
names_of ps = record { a = has 6 ps; d = has 7 ps; vi = has 8 ps; vm = has 9 ps }

module _ (s : List ℕ) where
  -- The editions that a reader may know.
  pub one_or_two : (last : ℕ) → last ≤ 2 → 1 ≤ edition_of s → edition_of s ≤ last → (edition_of s ≡ 1) ⊎ (edition_of s ≡ 2)
  one_or_two last l low high = if_same (edition_of s) 1 (λ e. inl e) (λ o. inr (omega (arith, o)))

  -- Edition 1.
  module _ (e : edition_of s ≡ 1) where
    pub laid_1 : laid_out s ≡ true → length s ≡ 24
    unfolding laid_out
    laid_1 t = eqb-true (length s) 24 (rw (eq-eqb (edition_of s) 1 e) at t)

    pub finished_1 : (given : Settings) → finished s given ≡ by_place s
    unfolding finished
    finished_1 given = rw (eq-eqb (edition_of s) 1 e)

    pub names_1 : names_in s ≡ all_four
    unfolding names_in
    names_1 = rw (eq-eqb (edition_of s) 1 e)

    pub value_1 : (given : Settings) (v : ℕ) → IsName v → value_of (finished s given) v ≡ value_at s (4 * (v - 6))
    value_1 given v n = rw (finished_1 given) (by_place_lem s v n)

  -- Edition 2.
  module _ (e : edition_of s ≡ 2) where
    not_1 : eqb (edition_of s) 1 ≡ false
    not_1 = ne_eqb (edition_of s) 1 (λ o. omega (arith, e, o))

    laid_both : laid_out s ≡ true → (eqb (length s % 8) 0 ≡ true) × (good_pairs 0 (pairs_of s) ≡ true)
    unfolding laid_out
    laid_both t = (and-eq-true_iff (eqb (length s % 8) 0) (good_pairs 0 (pairs_of s))).0 (rw not_1 at t)

    pub eights_2 : laid_out s ≡ true → length s % 8 ≡ 0
    eights_2 t = eqb-true (length s % 8) 0 (laid_both t).0

    pub laid_2 : laid_out s ≡ true → good_pairs 0 (pairs_of s) ≡ true
    laid_2 t = (laid_both t).1

    pub finished_2 : (given : Settings) → finished s given ≡ by_pairs (pairs_of s) given
    unfolding finished
    finished_2 given = rw not_1

    pub names_2 : names_in s ≡ names_of (pairs_of s)
    unfolding names_in
    names_2 = rw not_1

    pub value_2 : (given : Settings) (v : ℕ) → IsName v → value_of (finished s given) v ≡ under v (pairs_of s) (value_of given v)
    value_2 given v n = rw (finished_2 given) (by_pairs_lem (pairs_of s) given v n)
