-- What the checks on an image give of its records and of each of its cells.
-- Assumes nothing.
use mathlib.Core.Path.{◌≡◌, refl, subst}
use mathlib.Core.Bool.{Bool, true, false, ◌||◌, not}
use mathlib.Core.List.{List, ◌∷◌}
use Prim.Native.Nat.{ℕ, suc, ◌+◌, ◌*◌, ◌-◌, ◌≤◌, ◌<◌}
use native.Mathlib.Omega.{arith}
use borrow.Author.Tests.{not-false, ltb-false, lt-ltb, le-ltb}
use lib.Dec.{T, eqb, ltb, lit<}
use lib.ListN.{length}
use Rattle.numbers.specs.Bytes.{field}
use Rattle.numbers.specs.Tests.{any_of, any_below, lowest, eq_list}
use Rattle.numbers.proofs.Truth.{true_is, neither}
use Rattle.numbers.proofs.Tests.{none_below}
use Rattle.program.specs.Names.{Name, free_name}
use Rattle.program.specs.Variables.{in_range, literals, most_cells, most_labels, most_variables}
use Rattle.image.specs.Layout.{image_length, first_label_place, whole_length, cell_count, label_count, variable_count, label_place, variable_place, start_value, name_at}
use Rattle.image.specs.Check.{bad_length, bad_edition, bad_trailer, bad_cell, bad_cells, bad_name, bad_target, bad_start, bad_records, image_faults, checked, record_place, record_name, layouts, fits}

-- An accepted image: what the listing rests on.
pub record Accepted (s : List ℕ) : Type 0 where
  pub label_name : (k : ℕ) → k < label_count s → T (free_name (name_at s (label_place s k)))
  pub variable_name : (k : ℕ) → k < variable_count s → T (free_name (name_at s (variable_place s k)))
  pub start_value : (k : ℕ) → k < variable_count s → T (in_range literals (start_value s k))
  pub layout : (k : ℕ) → k < cell_count s → T (any_of (fits s (16 * k)) layouts)
  pub few_cells : cell_count s ≤ 256
  pub few_labels : label_count s ≤ 160
  pub few_variables : variable_count s ≤ 32

-- The five tests of an image, none of which holds.
pub record Faultless (s : List ℕ) : Type 0 where
  pub size : bad_length s ≡ false
  pub version : bad_edition s ≡ false
  pub trailer : bad_trailer s ≡ false
  pub cells : bad_cells s ≡ false
  pub records : bad_records s ≡ false

-- No fault is the lowest where none is there.
lowest_step : (n : ℕ) (b : Bool) (bs : List Bool) → 0 < n → lowest n (b ∷ bs) ≡ 0 → (b ≡ false) × (lowest (suc n) bs ≡ 0)
unfolding lowest
lowest_step n true bs h e = absurd (omega arith)
lowest_step n false bs h e = (refl, e)

module _ (s : List ℕ) where
  named_record : (k : ℕ) → bad_name s k ≡ false → T (free_name (record_name s k))
  unfolding bad_name
  named_record k e = true_is (free_name (record_name s k)) (not-false (free_name (record_name s k)) (neither (not (free_name (record_name s k))) (any_below k (λ j. eq_list (record_name s j) (record_name s k))) e).0)

  pub record_label : (k : ℕ) → k < label_count s → record_name s k ≡ name_at s (label_place s k)
  unfolding record_name record_place
  record_label k h = rw (lt-ltb k (label_count s) h)

  pub record_variable : (k : ℕ) → record_name s (label_count s + k) ≡ name_at s (variable_place s k)
  unfolding record_name record_place
  record_variable k =
      let d : (label_count s + k) - label_count s ≡ k = omega arith in
      rw (le-ltb (label_count s + k) (label_count s) (omega arith), d)

  started : (k : ℕ) → bad_start s k ≡ false → T (in_range literals (start_value s k))
  unfolding bad_start
  started k e =
      let r : Bool = in_range literals (start_value s k) in
      true_is r (not-false r (neither (not (eqb (field 2 (variable_place s k + 2) s) 0)) (not r) e).1)

  fitted : (k : ℕ) → bad_cell s k ≡ false → T (any_of (fits s (16 * k)) layouts)
  unfolding bad_cell
  fitted k e = true_is (any_of (fits s (16 * k)) layouts) (not-false (any_of (fits s (16 * k)) layouts) e)

  few : bad_trailer s ≡ false → (cell_count s ≤ 256) × (label_count s ≤ 160) × (variable_count s ≤ 32)
  unfolding bad_trailer most_cells most_labels most_variables
  few e =
      let v : Bool = ltb 32 (variable_count s) in
      let l : Bool = ltb 160 (label_count s) || v in
      let c : Bool = ltb 256 (cell_count s) || l in
      let i : Bool = not (eqb (image_length (cell_count s) (label_count s) (variable_count s)) (length s)) in
      let w : Bool = not (eqb (whole_length s) (length s)) in
      let p : Bool = not (eqb (first_label_place s) (16 * cell_count s)) in
      let a = neither (ltb 256 (cell_count s)) l (neither i c (neither w (i || c) (neither p (w || (i || c)) e).1).1).1 in
      let b = neither (ltb 160 (label_count s)) v a.1 in
      (ltb-false 256 (cell_count s) a.0, ltb-false 160 (label_count s) b.0, ltb-false 32 (variable_count s) b.1)

  pub faultless : checked s ≡ 0 → Faultless s
  unfolding checked image_faults
  faultless e =
      let a = lowest_step 21 (bad_length s) _ (lit< tt) e in
      let b = lowest_step 22 (bad_edition s) _ (lit< tt) a.1 in
      let c = lowest_step 23 (bad_trailer s) _ (lit< tt) b.1 in
      let d = lowest_step 24 (bad_cells s) _ (lit< tt) c.1 in
      let f = lowest_step 25 (bad_records s) _ (lit< tt) d.1 in
      record { size = a.0; version = b.0; trailer = c.0; cells = d.0; records = f.0 }

  pub accepted : checked s ≡ 0 → Accepted s
  unfolding bad_cells bad_records
  accepted e =
      let f = faultless e in
      let names = any_below (label_count s + variable_count s) (bad_name s) in
      let targets = any_below (label_count s) (bad_target s) in
      let starts = any_below (variable_count s) (bad_start s) in
      let g = neither names (targets || starts) f.records in
      let h = neither targets starts g.1 in
      let good = none_below (bad_name s) (label_count s + variable_count s) g.0 in
      let n = few f.trailer in
      record {
        label_name = λ k l. subst (λ (w : Name). T (free_name w)) (record_label k l) (named_record k (good k (omega arith)));
        variable_name = λ k l. subst (λ (w : Name). T (free_name w)) (record_variable k) (named_record (label_count s + k) (good (label_count s + k) (omega arith)));
        start_value = λ k l. started k (none_below (bad_start s) (variable_count s) h.1 k l);
        layout = λ k l. fitted k (none_below (bad_cell s) (cell_count s) f.cells k l);
        few_cells = n.0;
        few_labels = n.1;
        few_variables = n.2;
      }
