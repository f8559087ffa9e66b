-- The list as bytes: its length, the entries by their places, and one entry more.
-- Assumes nothing.
use mathlib.Core.Path.{◌≡◌, refl, sym, ap, ◌∙◌}
use mathlib.Core.Bool.{Bool, true, false, cond, not}
use mathlib.Core.List.{List, [], ◌∷◌, ◌++◌, flat_map, append_assoc}
use Prim.Native.Nat.{ℕ, suc, ◌+◌, ◌*◌, ◌-◌, ◌≤◌, ◌<◌, max}
use native.Mathlib.Nat.{sub-zero}
use native.Mathlib.Omega.{arith}
use borrow.Author.Tests.{eq-eqb, ne_eqb}
use lib.Dec.{eqb}
use lib.ListN.{length, get_or, drop, length-append}
use lib.Seq.{drop-drop, sets, length-sets}
use mir.Val.{bool_byte}
use Rattle.numbers.specs.Bytes.{bytes, field}
use Rattle.numbers.specs.Tests.{passing}
use Rattle.numbers.proofs.Laws.{length_bytes, field_back, sets_append, over_front}
use Rattle.numbers.proofs.Lists.{length_flat, flat_at}
use Rattle.numbers.proofs.Passing.{passing_yes, passing_no, passing_at}
use Rattle.numbers.proofs.Truth.{if_same}
use Rattle.events.specs.Events.{event_count}
use Rattle.comparing.specs.Differences.{weight, sum_at, differs_at, differing, entry_bytes, differences}
use Rattle.comparing.specs.Requests.{entry_number, entry_sum}
use Rattle.comparing.proofs.Sums.{not_listed, is_listed, weight_most, sum_below}

module _ (first second : List ℕ) where
  -- The entry of a record number.
  abbrev entry_of : ℕ → List ℕ
  entry_of k = entry_bytes k (sum_at first second k)

  entry_length : (k : ℕ) → length (entry_of k) ≡ 8
  unfolding entry_bytes
  entry_length k = simp (length-append, length_bytes)

  pub differences_length : length (differences first second) ≡ 8 * length (differing first second)
  unfolding differences
  differences_length = length_flat entry_of 8 entry_length (differing first second)

  -- Stored at the front of a buffer with room, behind it stands what stood there.
  pub laid_over : (old : List ℕ) → 8 * length (differing first second) ≤ length old
      → sets old 0 (differences first second) ≡ differences first second ++ drop (length (differences first second)) old
  laid_over old h = over_front (differences first second) old (omega (arith, differences_length))

  -- The records that are listed are of a buffer, and differ.
  pub listed_at : (i : ℕ) → i < length (differing first second)
      → (get_or (differing first second) i 0 < max (event_count first) (event_count second)) × (differs_at first second (get_or (differing first second) i 0) ≡ true)
  unfolding differing
  listed_at i h =
      let r = passing_at (differs_at first second) 0 (max (event_count first) (event_count second)) i h in
      (omega (arith, r.1), r.2)

  -- Entry i, whatever stands behind the list.
  module _ (rest : List ℕ) (i : ℕ) (h : i < length (differing first second)) where
    behind : drop (8 * i) (differences first second ++ rest)
        ≡ entry_of (get_or (differing first second) i 0)
        ++ (flat_map entry_of (drop (suc i) (differing first second)) ++ rest)
    unfolding differences
    behind = flat_at entry_of 8 entry_length (differing first second) i 0 rest h

    entry : (k : ℕ) (more : List ℕ) → k < 8192 → (field 4 0 (entry_of k ++ more) ≡ k) × (field 4 4 (entry_of k ++ more) ≡ sum_at first second k)
    unfolding entry_bytes
    entry k more l =
        rw (append_assoc (bytes 4 k) (bytes 4 (sum_at first second k)) more) (
          field_back 4 k 0 [] (bytes 4 (sum_at first second k) ++ more) refl (omega arith),
          field_back 4 (sum_at first second k) 4 (bytes 4 k) more (length_bytes 4 k) (omega (arith, sum_below first second k)),
        )

    at_place : (at : ℕ) → field 4 (8 * i + at) (differences first second ++ rest) ≡ field 4 at (drop (8 * i) (differences first second ++ rest))
    unfolding field
    at_place at = rw (drop-drop at (8 * i) (differences first second ++ rest)) refl

    module _ (most : max (event_count first) (event_count second) ≤ 8192) where
      pub entry_number_lem : entry_number (differences first second ++ rest) i ≡ get_or (differing first second) i 0
      entry_number_lem =
          let e : 8 * i ≡ 8 * i + 0 = omega arith in
          ap (λ (n : ℕ). field 4 n (differences first second ++ rest)) e
          ∙ at_place 0
          ∙ ap (field 4 0) behind
          ∙ (entry (get_or (differing first second) i 0) (flat_map entry_of (drop (suc i) (differing first second)) ++ rest) (omega (arith, (listed_at i h).0))).0

      pub entry_sum_lem : entry_sum (differences first second ++ rest) i ≡ sum_at first second (get_or (differing first second) i 0)
      entry_sum_lem =
          at_place 4
          ∙ ap (field 4 4) behind
          ∙ (entry (get_or (differing first second) i 0) (flat_map entry_of (drop (suc i) (differing first second)) ++ rest) (omega (arith, (listed_at i h).0))).1

-- ---- what the loops keep

module _ (first second : List ℕ) where
  -- The numbers that are listed from k on; one number more is passed.
  abbrev pub rest : ℕ → ℕ → List ℕ
  rest end k = passing (differs_at first second) k (end - k)

  rest_same : (end k : ℕ) → k < end → sum_at first second k ≡ 0 → rest end k ≡ rest end (k + 1)
  rest_same end k h z =
      let e : end - k ≡ suc (end - suc k) = omega arith in
      let f : k + 1 ≡ suc k = omega arith in
      rw (e, f) (passing_no (differs_at first second) k (end - suc k) (not_listed first second k z))

  rest_other : (end k : ℕ) → k < end → (sum_at first second k ≡ 0 → ⊥) → rest end k ≡ k ∷ rest end (k + 1)
  rest_other end k h o =
      let e : end - k ≡ suc (end - suc k) = omega arith in
      let f : k + 1 ≡ suc k = omega arith in
      rw (e, f) (passing_yes (differs_at first second) k (end - suc k) (is_listed first second k o))

  -- At the start all of them are left, at the end none.
  pub rest_all : {end : ℕ} → end ≡ max (event_count first) (event_count second) → rest end 0 ≡ differing first second
  unfolding differing
  rest_all {end} e = rw (sub-zero end, e) refl

  rest_none : (end k : ℕ) → end ≤ k → rest end k ≡ []
  unfolding passing
  rest_none end k h = let e : end - k ≡ 0 = omega arith in rw e

  -- Counting: an entry more where the sum is not 0.
  pub count_more : (end k n : ℕ) {sum r : ℕ} → k < end → sum ≡ sum_at first second k → r ≡ bool_byte (not (eqb sum 0))
      → n + length (rest end k) ≡ length (differing first second) → n + r + length (rest end (k + 1)) ≡ length (differing first second)
  count_more end k n {sum} {r} h es er i =
      if_same sum 0
      (λ z.
      let c : r ≡ 0 = er ∙ rw (eq-eqb sum 0 z) refl in
      omega (arith, i, c, ap length (rest_same end k h (sym es ∙ z))))
      (λ o.
      let c : r ≡ 1 = er ∙ rw (ne_eqb sum 0 o) refl in
      omega (arith, i, c, ap length (rest_other end k h (λ z. o (es ∙ z)))))

  pub count_end : (end k n : ℕ) → end ≤ k → n + length (rest end k) ≡ length (differing first second) → n ≡ length (differing first second)
  count_end end k n h i = omega (arith, i, ap length (rest_none end k h))

  -- Writing: what is left, over what stands there, gives the whole.
  abbrev pub left : ℕ → ℕ → List ℕ
  left end k = flat_map (entry_of first second) (rest end k)

  pub left_all : {end : ℕ} → end ≡ max (event_count first) (event_count second) → left end 0 ≡ differences first second
  unfolding differences
  left_all e = ap (flat_map (entry_of first second)) (rest_all e)

  left_none : (end k : ℕ) → end ≤ k → left end k ≡ []
  unfolding flat_map
  left_none end k h = rw (rest_none end k h)

  pub write_more : (end k at : ℕ) (list : List ℕ) {list₁ : List ℕ} {sum next : ℕ} → k < end → sum ≡ sum_at first second k
      → next ≡ at + weight (eqb sum 0) 8 → list₁ ≡ sets list at (cond (eqb sum 0) [] (entry_bytes k sum))
      → (sets list₁ next (left end (k + 1)) ≡ sets list at (left end k)) × (length list₁ ≡ length list)
  unfolding weight flat_map
  write_more end k at list {list₁} {sum} {next} h es en el = (
    if_same sum 0
        (λ z.
        let e : next ≡ at = en ∙ rw (eq-eqb sum 0 z) (omega arith) in
        let l : list₁ ≡ list = el ∙ rw (eq-eqb sum 0 z) refl in
        rw (e, l, rest_same end k h (sym es ∙ z)) refl)
        (λ o.
        let e : next ≡ at + 8 = en ∙ rw (ne_eqb sum 0 o) refl in
        let l : list₁ ≡ sets list at (entry_of first second k) = el ∙ rw (ne_eqb sum 0 o, es) refl in
        rw (e, l, rest_other end k h (λ z. o (es ∙ z)), sets_append (entry_of first second k) list at (left end (k + 1)), entry_length first second k) refl),
    ap length el ∙ length-sets list at (cond (eqb sum 0) [] (entry_bytes k sum)),
  )

  pub write_end : (end k at : ℕ) (list : List ℕ) {whole : List ℕ} → end ≤ k → sets list at (left end k) ≡ whole → list ≡ whole
  write_end end k at list h i = sym (ap (sets list at) (left_none end k h)) ∙ i

-- A number more or none.
pub one_most : (t : Bool) {r : ℕ} → r ≡ bool_byte t → r ≤ 1
one_most true e = omega (arith, e)
one_most false e = omega (arith, e)

-- The place behind an entry.
pub write_next : (t : Bool) (at k : ℕ) {next : ℕ} → next ≡ at + weight t 8 → at ≤ 8 * k → next ≤ 8 * (k + 1)
write_next t at k e h = omega (arith, e, weight_most t 8)
