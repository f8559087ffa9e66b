-- The cases of reading: the length, the edition, how the file is laid out, the finished set, and accepted; and back from the answer's number.
-- Assumes nothing.
use mathlib.Core.Path.{◌≡◌, refl, sym, ap, ◌∙◌}
use mathlib.Core.Bool.{Bool, true, false, ◌&&◌, ◌||◌, and-eq-true_iff}
use mathlib.Core.List.{List}
use mathlib.Core.Logic.{◌↔◌, ◌⊎◌, inl, inr, ⊎_elim}
use Prim.Native.Nat.{ℕ, ◌-◌, ◌≤◌, ◌<◌}
use native.Mathlib.Omega.{arith}
use borrow.Author.Tests.{le-ltb, le-leb, ltb-false, leb-true, eq-eqb, ne_eqb, not-false}
use lib.Dec.{leb, ltb}
use lib.ListN.{length, get_or}
use Rattle.numbers.specs.Tests.{lowest, NoRow}
use Rattle.numbers.proofs.Lowest.{lowest_exactly, lowest_zero}
use Rattle.numbers.proofs.Truth.{neither, zero_number}
use Rattle.settings.specs.Layout.{has_trailer, edition_of, laid_out}
use Rattle.settings.specs.Sets.{finished, in_ranges}
use Rattle.settings.specs.Calls.{read_faults, read_number, shown, shown_by}
use Rattle.settings.specs.declared.Settings.{Settings}
use Rattle.settings.specs.declared.Shown.{Shown}

-- A file that is no shorter and no longer than a file, of a known edition, and laid out as it should be.
abbrev pub IsLaid : ℕ → List ℕ → Type 0
IsLaid last s =
    (8 ≤ length s) × (length s ≤ 40) × (1 ≤ edition_of s) × (edition_of s ≤ last) × (has_trailer s (length s - 8) (edition_of s) ≡ true) × (laid_out s ≡ true)

module _ (last : ℕ) (s : List ℕ) (given : Settings) where
  -- The number, case by case.
  pub number_41 : (ltb (length s) 8 || ltb 40 (length s)) ≡ true → read_number last s given ≡ 41
  unfolding read_number read_faults lowest
  number_41 a = rw a

  pub number_42 : (ltb (length s) 8 || ltb 40 (length s)) ≡ false → (leb 1 (edition_of s) && leb (edition_of s) last) ≡ false → read_number last s given ≡ 42
  unfolding read_number read_faults lowest
  number_42 a b = rw (a, b)

  pub number_43 : (ltb (length s) 8 || ltb 40 (length s)) ≡ false → (leb 1 (edition_of s) && leb (edition_of s) last) ≡ true
      → (has_trailer s (length s - 8) (edition_of s) && laid_out s) ≡ false → read_number last s given ≡ 43
  unfolding read_number read_faults lowest
  number_43 a b c = rw (a, b, c)

  pub number_44 : (ltb (length s) 8 || ltb 40 (length s)) ≡ false → (leb 1 (edition_of s) && leb (edition_of s) last) ≡ true
      → (has_trailer s (length s - 8) (edition_of s) && laid_out s) ≡ true → in_ranges (finished s given) ≡ false → read_number last s given ≡ 44
  unfolding read_number read_faults lowest
  number_44 a b c d = rw (a, b, c, d)

  pub number_0 : (ltb (length s) 8 || ltb 40 (length s)) ≡ false → (leb 1 (edition_of s) && leb (edition_of s) last) ≡ true
      → (has_trailer s (length s - 8) (edition_of s) && laid_out s) ≡ true → in_ranges (finished s given) ≡ true → read_number last s given ≡ 0
  unfolding read_number read_faults lowest
  number_0 a b c d = rw (a, b, c, d)

  -- The answer, by the number.
  pub accepted_answer : read_number last s given ≡ 0 → shown_by last s given ≡ shown 0 (finished s given)
  unfolding shown_by
  accepted_answer e = rw (eq-eqb (read_number last s given) 0 e)

  pub refused_answer : (read_number last s given ≡ 0 → ⊥) → shown_by last s given ≡ shown (read_number last s given) given
  unfolding shown_by
  refused_answer o = rw (ne_eqb (read_number last s given) 0 o)

  -- The number of the answer is that of the table.
  pub answer_number : (shown_by last s given).number ≡ read_number last s given
  unfolding shown_by
  answer_number = zero_number (λ (a : Shown). a.number) (read_number last s given) _ _ refl refl

  -- A file is laid out where no row before the last one holds.
  laid_rows : ((k : ℕ) → k < 3 → get_or (read_faults last s given) k false ≡ false) → IsLaid last s
  unfolding read_faults
  laid_rows none =
      let long = neither (ltb (length s) 8) (ltb 40 (length s)) (none 0 (omega arith)) in
      let known =
      (and-eq-true_iff (leb 1 (edition_of s)) (leb (edition_of s) last)).0 (not-false (leb 1 (edition_of s) && leb (edition_of s) last) (none 1 (omega arith))) in
      let laid =
      (and-eq-true_iff (has_trailer s (length s - 8) (edition_of s)) (laid_out s)).0
      (not-false (has_trailer s (length s - 8) (edition_of s) && laid_out s) (none 2 (omega arith))) in (
        ltb-false (length s) 8 long.0,
        ltb-false 40 (length s) long.1,
        leb-true 1 (edition_of s) known.0,
        leb-true (edition_of s) last known.1,
        laid.0,
        laid.1,
      )

  -- Where the number is 0, the finished set is in its ranges too.
  pub accepted : read_number last s given ≡ 0 → IsLaid last s × (in_ranges (finished s given) ≡ true)
  unfolding read_number read_faults
  accepted e =
      let none : NoRow (read_faults last s given) = (lowest_zero 40 (read_faults last s given)).0 e in
      (laid_rows (λ k h. none k), not-false (in_ranges (finished s given)) (none 3))

  -- It is 0 or 44 exactly if the file is laid out.
  laid_number : IsLaid last s → (read_number last s given ≡ 0) ⊎ (read_number last s given ≡ 44)
  laid_number l = tested (in_ranges (finished s given)) refl where
    long : (ltb (length s) 8 || ltb 40 (length s)) ≡ false
    long = rw (le-ltb (length s) 8 l.0, le-ltb 40 (length s) l.1) refl

    known : (leb 1 (edition_of s) && leb (edition_of s) last) ≡ true
    known = rw (le-leb 1 (edition_of s) l.2, le-leb (edition_of s) last l.3) refl

    laid : (has_trailer s (length s - 8) (edition_of s) && laid_out s) ≡ true
    laid = rw (l.4, l.5) refl

    tested : (t : Bool) → in_ranges (finished s given) ≡ t → (read_number last s given ≡ 0) ⊎ (read_number last s given ≡ 44)
    tested true e = inl (number_0 long known laid e)
    tested false e = inr (number_44 long known laid e)

  pub laid_exactly : ((read_number last s given ≡ 0) ⊎ (read_number last s given ≡ 44)) ↔ IsLaid last s
  unfolding read_number
  laid_exactly = (
    ⊎_elim (λ e. (accepted e).0) (λ e. laid_rows ((lowest_exactly 40 (read_faults last s given) 3).0 e).1),
    laid_number,
  )

  -- What the code gives in each case.
  pub gives_refused : {answer : Shown} {n : ℕ} → read_number last s given ≡ n → (n ≡ 0 → ⊥) → answer ≡ shown n given → answer ≡ shown_by last s given
  gives_refused e o a = a ∙ sym (refused_answer (λ z. o (sym e ∙ z)) ∙ ap (λ (n : ℕ). shown n given) e)

  pub gives_accepted : {answer : Shown} → read_number last s given ≡ 0 → answer ≡ shown 0 (finished s given) → answer ≡ shown_by last s given
  gives_accepted e a = a ∙ sym (accepted_answer e)
