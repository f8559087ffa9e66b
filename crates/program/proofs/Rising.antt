-- A name in a table whose rows rise: what a search that halves the table finds.
-- Assumes nothing.
use mathlib.Core.Path.{◌≡◌, refl, sym, ap, subst, ◌∙◌}
use mathlib.Core.Bool.{Bool, true, false, ◌&&◌, not, or-true, true≢false}
use mathlib.Core.List.{List, [], ◌∷◌}
use Prim.Native.Nat.{ℕ, zero, suc, ◌+◌, ◌-◌, ◌^◌, ◌<◌, ◌≤◌}
use native.Mathlib.Omega.{arith}
use borrow.Author.Tests.{eq-eqb, ne_eqb, ltb-true, not-true}
use lib.Dec.{T, ltb}
use lib.ListN.{length, get_or, get_or-eq_default}
use mir.Syntax.{w16}
use Rattle.std.specs.Prelude.{Result, Ok, Err}
use Rattle.std.specs.Int.{from_le_bytes, to_le_bytes}
use Rattle.std.specs.Result.{is_ok}
use Rattle.std.proofs.Common.{Equal}
use Rattle.std.specs.Ordering.{is_lt, nat_cmp, ordering_index, is_gt}
use Rattle.std.specs.Cmp.Lexicographic.{slice_cmp}
use Rattle.std.specs.List.Sorted.{IsSearchInRange, IsBinarySearchResult, IsNonDecreasingBy}
use Rattle.std.specs.Cmp.{tied_itself}
use Rattle.std.proofs.lemmas.Cmp.{nat_list_cmp_total}
use Rattle.std.proofs.lemmas.Map.Lookups.{exact_bytes}
use Rattle.std.proofs.lemmas.List.{get_or_default}
use Rattle.std.proofs.lemmas.List.Sorted.{searchable_from_sorted}
use Rattle.std.proofs.lemmas.Nat.{from_le_bytes-to_le_bytes_2, le_bytes_2}
use Rattle.numbers.specs.Bytes.{field}
use Rattle.numbers.specs.Tests.{all_below, any_of, eq_list}
use Rattle.numbers.proofs.Tests.{all_below_lem}
use Rattle.numbers.proofs.Truth.{is_true, both, if_below}
use Rattle.program.specs.Code.{name_of, names_of, rising}
use Rattle.program.proofs.Keys.{eq_name}
use Rattle.program.proofs.Places.{row_key}

abbrev bytes_at : List (List ℕ) → ℕ → Bool
bytes_at rows i = ltb (get_or (get_or rows i []) 0 0) 256 && ltb (get_or (get_or rows i []) 1 0) 256

abbrev rises_at : List (List ℕ) → ℕ → Bool
rises_at rows i = not (is_lt (slice_cmp nat_cmp (get_or rows (i + 1) []) (get_or rows i [])))

-- The name stands at a place; it stands at none.
found_at : (i k : ℕ) (rows : List (List ℕ)) → i < length rows → field 2 0 (get_or rows i []) ≡ k → any_of (eq_list (name_of k)) (names_of rows) ≡ true
unfolding names_of any_of
found_at i k [] h e = absurd (omega arith)
found_at zero k (row ∷ rows) h e = rw (eq_name k (field 2 0 row), eq-eqb k (field 2 0 row) (sym e))
found_at (suc i) k (row ∷ rows) h e = rw (found_at i k rows (omega arith) e) (or-true (eq_list (name_of k) (name_of (field 2 0 row))))

nowhere : (k : ℕ) (rows : List (List ℕ)) → ((i : ℕ) → i < length rows → field 2 0 (get_or rows i []) ≡ k → ⊥) → any_of (eq_list (name_of k)) (names_of rows) ≡ false
unfolding names_of any_of
nowhere k [] h = refl
nowhere k (row ∷ rows) h =
    rw (eq_name k (field 2 0 row), ne_eqb k (field 2 0 row) (λ e. h 0 (omega arith) (sym e)))
    (nowhere k rows (λ i l e. h (suc i) (omega arith) e))

module _ (rows : List (List ℕ)) (k : ℕ) (l : k < 2 ^ 16) (two : (i : ℕ) → i < length rows → length (get_or rows i []) ≡ 2) (r : T (rising rows)) where
  tested : T (all_below (length rows) (bytes_at rows)) × T (all_below (length rows - 1) (rises_at rows))
  unfolding rising
  tested = both (all_below (length rows) (bytes_at rows)) (all_below (length rows - 1) (rises_at rows)) r

  -- A row with this key is its bytes.
  row_bytes : (row : List ℕ) → length row ≡ 2 → get_or row 0 0 < 256 → get_or row 1 0 < 256 → (j : ℕ) → get_or row j 0 < 256
  row_bytes row e a b zero = a
  row_bytes row e a b (suc zero) = b
  row_bytes row e a b (suc (suc j)) = let out : length row ≤ suc (suc j) = omega arith in rw (get_or-eq_default row 0 out) (omega arith)

  row_is : (i : ℕ) → i < length rows → field 2 0 (get_or rows i []) ≡ k → to_le_bytes w16 k ≡ get_or rows i []
  row_is i h e =
      let row = get_or rows i [] in
      let small = both (ltb (get_or row 0 0) 256) (ltb (get_or row 1 0) 256) (all_below_lem (bytes_at rows) (length rows) tested.0 i h) in
      le_bytes_2 row k (two i h) (row_bytes row (two i h) (ltb-true _ _ (is_true _ small.0)) (ltb-true _ _ (is_true _ small.1))) (sym (row_key row ∙ e))

  -- The rows rise, as a search that halves the table asks.
  sorted : IsNonDecreasingBy (λ row. ordering_index (slice_cmp nat_cmp row (to_le_bytes w16 k))) rows
  sorted = searchable_from_sorted nat_list_cmp_total (λ row. row) rows (to_le_bytes w16 k) (λ i d z h.
      let t = is_true _ (all_below_lem (rises_at rows) (length rows - 1) tested.1 i (omega arith)) in
      rw (get_or_default rows (i + 1) d [] h, get_or_default rows i d [] (omega arith)) (not-true _ t))

  found_by : (o : Result ℕ ℕ) → IsSearchInRange o (length rows) → IsBinarySearchResult (λ row. slice_cmp nat_cmp row (to_le_bytes w16 k)) rows o
      → is_ok o ≡ any_of (eq_list (name_of k)) (names_of rows)
  found_by (Ok i) h e =
      let same = exact_bytes (get_or rows i []) (to_le_bytes w16 k) (e []) in
      sym (found_at i k rows h (sym (row_key (get_or rows i [])) ∙ ap (from_le_bytes w16) same ∙ from_le_bytes-to_le_bytes_2 k l))
  found_by (Err i) h e = sym (nowhere k rows (λ j m q.
      let same = row_is j m q in
      let tied : slice_cmp nat_cmp (get_or rows j []) (to_le_bytes w16 k) ≡ Equal = rw same (tied_itself nat_list_cmp_total (get_or rows j [])) in
      if_below j i
      (λ n. absurd (true≢false (sym (ap is_lt ((e sorted).0 j [] (omega arith) n)) ∙ ap is_lt tied)))
      (λ n. absurd (true≢false (sym (ap is_gt ((e sorted).1 j [] n m)) ∙ ap is_gt tied)))))

  -- What a search for the bytes of this key finds.
  pub searched : {x : List ℕ} (e : x ≡ to_le_bytes w16 k) (o : Result ℕ ℕ) → IsSearchInRange o (length rows) → IsBinarySearchResult (λ row. slice_cmp nat_cmp row x) rows o
      → is_ok o ≡ any_of (eq_list (name_of k)) (names_of rows)
  searched e o h f = found_by o h (subst (λ (y : List ℕ). IsBinarySearchResult (λ row. slice_cmp nat_cmp row y) rows o) e f)
