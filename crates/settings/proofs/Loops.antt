-- What the readers go by: a trailer as one number, the pairs of a file one by one, a file as it is laid out, and its names.
-- Assumes nothing.
use mathlib.Core.Path.{◌≡◌, refl, sym, ap, subst, ◌∙◌}
use mathlib.Core.Bool.{Bool, true, false, cond, ◌&&◌, ◌||◌}
use mathlib.Core.List.{List, [], ◌∷◌}
use Prim.Native.Nat.{ℕ, suc, ◌+◌, ◌-◌, ◌/◌, ◌%◌, ◌^◌, ◌≤◌, ◌<◌}
use native.Mathlib.Omega.{arith}
use borrow.Author.Tests.{eqb-true, ne_eqb}
use lib.Dec.{T, eqb, ltb, eqb_refl}
use lib.IntN.{ℤ}
use lib.ListN.{length, take, drop}
use Rattle.numbers.specs.Bytes.{Bytes, bytes, number, field}
use Rattle.numbers.specs.Tests.{eq_list, any_of, listed}
use Rattle.numbers.proofs.Laws.{there_and_back, bytes_field}
use Rattle.numbers.proofs.Tests.{eq_list_refl, eq_list_eq}
use Rattle.numbers.proofs.Truth.{is_true, same_test}
use Rattle.settings.specs.Layout.{trailer, has_trailer, edition_of, pair_at, pairs_of, good_pair, good_pairs, laid_out}
use Rattle.settings.specs.Sets.{by_place, under, by_pairs, has, names_in, finished, all_in, in_ranges}
use Rattle.settings.specs.declared.Pair.{Pair}
use Rattle.settings.specs.declared.Settings.{Settings}
use Rattle.settings.specs.declared.Chosen.{Chosen}

-- Eight bytes are a trailer exactly if their number is that of its bytes.
pub trailer_tested : (s : List ℕ) (at edition n m : ℕ) → Bytes s → at + 8 ≤ length s → m < 2 ^ 64 → n ≡ field 8 at s → bytes 8 m ≡ trailer edition (length s)
    → eqb n m ≡ has_trailer s at edition
unfolding has_trailer field
trailer_tested s at edition n m b h small e t =
    same_test (eqb n m) (eq_list (take 8 (drop at s)) (trailer edition (length s)))
    (λ same.
    let q : take 8 (drop at s) ≡ trailer edition (length s) = sym (bytes_field 8 at s b h) ∙ ap (bytes 8) (sym e ∙ eqb-true n m (is_true (eqb n m) same)) ∙ t in
    subst (λ (l : List ℕ). T (eq_list l (trailer edition (length s)))) (sym q) (eq_list_refl (trailer edition (length s))))
    (λ same.
    let q : n ≡ m = e ∙ ap number (eq_list_eq (take 8 (drop at s)) (trailer edition (length s)) same ∙ sym t) ∙ there_and_back 8 m small in
    subst (λ (k : ℕ). T (eqb n k)) q (eqb_refl n))

module _ (s : List ℕ) where
  -- Of so many pairs those from number i on: all of them, one less, none.
  abbrev pub rest : ℕ → ℕ → List Pair
  rest count i = listed i (count - i) (pair_at s)

  pub rest_all : (count : ℕ) → count ≡ length s / 8 - 1 → rest count 0 ≡ pairs_of s
  unfolding pairs_of
  rest_all count e = let z : count - 0 ≡ length s / 8 - 1 = omega (arith, e) in rw z

  rest_more : (count i : ℕ) → i < count → rest count i ≡ pair_at s i ∷ rest count (i + 1)
  unfolding listed
  rest_more count i h =
      let e : count - i ≡ suc (count - (i + 1)) = omega arith in
      let f : i + 1 ≡ suc i = omega arith in
      rw (e, f)

  rest_end : (count i : ℕ) → count ≤ i → rest count i ≡ []
  unfolding listed
  rest_end count i h = let e : count - i ≡ 0 = omega arith in rw e

  -- The pair at hand is good and its number above the last, or it is not.
  module _ (count i last : ℕ) {p : Pair} {b : Bool} (h : i < count) (e : p ≡ pair_at s i) (f : b ≡ (good_pair p && ltb last p.number)) where
    pub good_next : b ≡ true → good_pairs last (rest count i) ≡ good_pairs p.number (rest count (i + 1))
    unfolding good_pairs
    good_next t = rw (rest_more count i h, ← e, ← f, t)

    pub good_not : b ≡ false → good_pairs last (rest count i) ≡ false
    unfolding good_pairs
    good_not t = rw (rest_more count i h, ← e, ← f, t)

  pub good_end : (count i last : ℕ) → count ≤ i → good_pairs last (rest count i) ≡ true
  unfolding good_pairs
  good_end count i last h = rw (rest_end count i h)

  -- The pair at hand is the one that is sought, or it is not.
  module _ (count i v : ℕ) {p : Pair} {b : Bool} (h : i < count) (e : p ≡ pair_at s i) (f : b ≡ eqb p.number v) where
    pub under_here : (given : ℤ) → b ≡ true → under v (rest count i) given ≡ p.value
    unfolding under
    under_here given t = rw (rest_more count i h, ← e, ← f, t)

    pub under_next : (given : ℤ) → b ≡ false → under v (rest count i) given ≡ under v (rest count (i + 1)) given
    unfolding under
    under_next given t = rw (rest_more count i h, ← e, ← f, t)

    pub has_here : b ≡ true → has v (rest count i) ≡ true
    unfolding has any_of
    has_here t = rw (rest_more count i h, ← e, ← f, t)

    pub has_next : b ≡ false → has v (rest count i) ≡ has v (rest count (i + 1))
    unfolding has any_of
    has_next t = rw (rest_more count i h, ← e, ← f, t)

  pub under_end : (count i v : ℕ) (given : ℤ) → count ≤ i → under v (rest count i) given ≡ given
  unfolding under
  under_end count i v given h = rw (rest_end count i h)

  pub has_end : (count i v : ℕ) → count ≤ i → has v (rest count i) ≡ false
  unfolding has any_of
  has_end count i v h = rw (rest_end count i h)

-- The file as it is laid out, by its trailer and its edition.
module _ (s : List ℕ) {h : Bool} {e : ℕ} (t : h ≡ has_trailer s (length s - 8) e) (f : e ≡ edition_of s) where
  pub laid_not : h ≡ false → (has_trailer s (length s - 8) (edition_of s) && laid_out s) ≡ false
  laid_not z = rw (← f, ← t, z)

  pub laid_by_place : h ≡ true → e ≡ 1 → (has_trailer s (length s - 8) (edition_of s) && laid_out s) ≡ eqb (length s) 24
  unfolding laid_out
  laid_by_place z o = rw (← f, ← t, z, o)

  pub laid_by_pair : h ≡ true → (e ≡ 1 → ⊥) → (has_trailer s (length s - 8) (edition_of s) && laid_out s) ≡ (eqb (length s % 8) 0 && good_pairs 0 (pairs_of s))
  unfolding laid_out
  laid_by_pair z o = rw (← f, ← t, z, ne_eqb e 1 o)

-- The finished set and the names of a file, by its edition.
module _ (s : List ℕ) {e : ℕ} (f : e ≡ edition_of s) where
  pub finished_by_place : (given : Settings) → e ≡ 1 → finished s given ≡ by_place s
  unfolding finished
  finished_by_place given o = rw (← f, o)

  pub finished_by_pair : (given : Settings) → (e ≡ 1 → ⊥) → finished s given ≡ by_pairs (pairs_of s) given
  unfolding finished
  finished_by_pair given o = rw (← f, ne_eqb e 1 o)

  pub names_tested : {a d vi vm : Bool} → a ≡ has 6 (pairs_of s) → d ≡ has 7 (pairs_of s) → vi ≡ has 8 (pairs_of s) → vm ≡ has 9 (pairs_of s)
      → ◌≡◌ {A = Chosen} (record { a = eqb e 1 || a; d = eqb e 1 || d; vi = eqb e 1 || vi; vm = eqb e 1 || vm }) (names_in s)
  unfolding names_in
  names_tested p q r u = rw (p, q, r, u, f) (step (eqb (edition_of s) 1)) where
    step : (t : Bool)
        → ◌≡◌ {A = Chosen} (record { a = t || has 6 (pairs_of s); d = t || has 7 (pairs_of s); vi = t || has 8 (pairs_of s); vm = t || has 9 (pairs_of s) })
        (cond t (record { a = true; d = true; vi = true; vm = true }) (record { a = has 6 (pairs_of s); d = has 7 (pairs_of s); vi = has 8 (pairs_of s); vm = has 9 (pairs_of s) }))
    step true = refl
    step false = refl

-- A set is in its ranges where it is tested with its own VI and VM.
pub within_tested : {b : Bool} {g h : Settings} {vi vm : ℤ} → b ≡ all_in g vi vm → vi ≡ g.vi → vm ≡ g.vm → g ≡ h → in_ranges h ≡ b
unfolding in_ranges
within_tested e p q r = rw (← r, e, p, q)
