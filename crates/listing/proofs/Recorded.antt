-- What the checks on an image give of its trailer, of the order of its records and of their names.
-- Assumes nothing.
use mathlib.Core.Path.{◌≡◌, sym, subst, ◌∙◌}
use mathlib.Core.Bool.{false, ◌&&◌, ◌||◌, not}
use mathlib.Core.List.{List}
use mathlib.Core.Logic.{◌⊎◌, inl, inr}
use Prim.Native.Nat.{ℕ, zero, suc, ◌+◌, ◌*◌, ◌-◌, ◌≤◌, ◌<◌}
use native.Mathlib.Nat.{eq-or-lt_of_le}
use native.Mathlib.Decide.{dec_lt}
use native.Mathlib.Omega.{arith}
use borrow.Author.Tests.{not-false, ltb-false, eqb-true, le-leb}
use lib.Dec.{T, eqb, leb, ltb}
use lib.ListN.{length}
use Rattle.numbers.specs.Bytes.{field}
use Rattle.numbers.specs.Tests.{any_below, eq_list}
use Rattle.numbers.proofs.Tests.{eq_list_refl, none_below}
use Rattle.numbers.proofs.Truth.{neither}
use Rattle.program.specs.Names.{Name, free_name}
use Rattle.program.specs.Variables.{in_range, literals}
use Rattle.image.specs.Layout.{image_length, first_label_place, whole_length, edition, cell_count, label_count, variable_count, label_place, label_target, variable_place, start_value, name_at}
use Rattle.image.specs.Check.{bad_edition, bad_name, bad_target, bad_start, bad_records, checked, record_name}
use Rattle.image.proofs.Records as R
use Rattle.listing.proofs.Accepted.{faultless, record_label, record_variable}

-- The names of the records.
abbrev pub name_of_label : List ℕ → ℕ → Name
name_of_label s k = name_at s (label_place s k)

abbrev pub name_of_variable : List ℕ → ℕ → Name
name_of_variable s k = name_at s (variable_place s k)

pub record Recorded (s : List ℕ) : Type 0 where
  pub size : length s ≡ 16 * cell_count s + (4 * label_count s + (8 * variable_count s + 16))
  pub first_label : first_label_place s ≡ 16 * cell_count s
  pub whole : whole_length s ≡ length s
  pub version : edition s ≡ 1
  -- no two records have the same name
  pub label_once : (j k : ℕ) → j < label_count s → k < label_count s → name_of_label s j ≡ name_of_label s k → j ≡ k
  pub variable_once : (j k : ℕ) → j < variable_count s → k < variable_count s → name_of_variable s j ≡ name_of_variable s k → j ≡ k
  pub apart : (j k : ℕ) → j < label_count s → k < variable_count s → name_of_label s j ≡ name_of_variable s k → ⊥
  -- the targets do not fall, and are cells or the end
  pub rising : (j k : ℕ) → j ≤ k → k < label_count s → label_target s j ≤ label_target s k
  pub inside : (k : ℕ) → k < label_count s → label_target s k ≤ cell_count s
  pub zeros : (k : ℕ) → k < variable_count s → field 2 (variable_place s k + 2) s ≡ 0

module _ (s : List ℕ) where
  -- Two records, by their numbers among all.
  module _ (good : (k : ℕ) → k < label_count s + variable_count s → bad_name s k ≡ false) where
    below : (j k : ℕ) → j < k → k < label_count s + variable_count s → record_name s j ≡ record_name s k → ⊥
    unfolding bad_name
    below j k l h e =
        let n = (neither (not (free_name (record_name s k))) (any_below k (λ i. eq_list (record_name s i) (record_name s k))) (good k h)).1 in
        let f : eq_list (record_name s j) (record_name s k) ≡ false = none_below (λ i. eq_list (record_name s i) (record_name s k)) k n j l in
        subst T f (subst (λ (w : Name). T (eq_list (record_name s j) w)) e (eq_list_refl (record_name s j)))

    once : (j k : ℕ) → j < label_count s + variable_count s → k < label_count s + variable_count s → record_name s j ≡ record_name s k → j ≡ k
    once j k h l e = go (dec_lt j k) (dec_lt k j) where
      go : Dec (j < k) → Dec (k < j) → j ≡ k
      go (yes m) d = absurd (below j k m l e)
      go (no m) (yes n) = absurd (below k j n h (sym e))
      go (no m) (no n) = omega arith

  -- One record after another.
  module _ (good : (k : ℕ) → k < label_count s → bad_target s k ≡ false) where
    next : (k : ℕ) → suc k < label_count s → label_target s k ≤ label_target s (suc k)
    unfolding bad_target
    next k h =
        let n = (neither (leb 1 (suc k) && ltb (label_target s (suc k)) (label_target s (suc k - 1))) (ltb (cell_count s) (label_target s (suc k))) (good (suc k) h)).0 in
        let e : suc k - 1 ≡ k = omega arith in
        ltb-false (label_target s (suc k)) (label_target s k) (rw (le-leb 1 (suc k) (omega arith), e) at n)

    rise : (j k : ℕ) → j ≤ k → k < label_count s → label_target s j ≤ label_target s k
    rise j zero l h = let e : j ≡ 0 = omega arith in rw e (omega arith)
    rise j (suc k) l h = go (eq-or-lt_of_le l) (λ m. rise j k m (omega arith)) where
      go : (j ≡ suc k) ⊎ (j < suc k) → (j ≤ k → label_target s j ≤ label_target s k) → label_target s j ≤ label_target s (suc k)
      go (inl e) f = rw e (omega arith)
      go (inr m) f = let a = f (omega arith) in let b = next k h in omega arith

    within : (k : ℕ) → k < label_count s → label_target s k ≤ cell_count s
    unfolding bad_target
    within k h =
        ltb-false (cell_count s) (label_target s k)
        (neither (leb 1 k && ltb (label_target s k) (label_target s (k - 1))) (ltb (cell_count s) (label_target s k)) (good k h)).1

  zeroed : (k : ℕ) → bad_start s k ≡ false → field 2 (variable_place s k + 2) s ≡ 0
  unfolding bad_start
  zeroed k e =
      let n = field 2 (variable_place s k + 2) s in
      eqb-true n 0 (not-false (eqb n 0) (neither (not (eqb n 0)) (not (in_range literals (start_value s k))) e).0)

  edited : bad_edition s ≡ false → edition s ≡ 1
  unfolding bad_edition
  edited e = eqb-true (edition s) 1 (not-false (eqb (edition s) 1) e)

  sized : R.Fitting s → length s ≡ 16 * cell_count s + (4 * label_count s + (8 * variable_count s + 16))
  unfolding image_length
  sized t = sym t.size

  pub recorded : checked s ≡ 0 → Recorded s
  unfolding bad_records
  recorded e =
      let f = faultless s e in
      let names = any_below (label_count s + variable_count s) (bad_name s) in
      let targets = any_below (label_count s) (bad_target s) in
      let starts = any_below (variable_count s) (bad_start s) in
      let g = neither names (targets || starts) f.records in
      let h = neither targets starts g.1 in
      let named = none_below (bad_name s) (label_count s + variable_count s) g.0 in
      let aimed = none_below (bad_target s) (label_count s) h.0 in
      let t = R.fitting s f.trailer in
      record {
        size = sized t;
        first_label = t.place;
        whole = t.whole;
        version = edited f.version;
        label_once = λ j k l m p. once named j k (omega arith) (omega arith) (record_label s j l ∙ p ∙ sym (record_label s k m));
        variable_once = λ j k l m p.
            let q = once named (label_count s + j) (label_count s + k) (omega arith) (omega arith) (record_variable s j ∙ p ∙ sym (record_variable s k)) in
            omega arith;
        apart = λ j k l m p.
            let q = once named j (label_count s + k) (omega arith) (omega arith) (record_label s j l ∙ p ∙ sym (record_variable s k)) in
            omega arith;
        rising = rise aimed;
        inside = within aimed;
        zeros = λ k l. zeroed k (none_below (bad_start s) (variable_count s) h.1 k l);
      }
