-- The cases of comparing: the first buffer refused, the second, the list too short, and accepted; and back from the answer's number.
-- Assumes nothing.
use mathlib.Core.Path.{◌≡◌, refl, sym, ap, ◌∙◌}
use mathlib.Core.Bool.{true, false}
use mathlib.Core.List.{List, ◌++◌}
use Prim.Native.Nat.{ℕ, ◌*◌, ◌≤◌, ◌<◌}
use borrow.Author.Tests.{lt-ltb, le-ltb, ltb-false, eq-eqb, ne_eqb}
use lib.ListN.{length, drop}
use Rattle.numbers.specs.Tests.{lowest, NoRow}
use Rattle.numbers.proofs.Lowest.{lowest_zero}
use Rattle.numbers.proofs.Truth.{zero_number}
use Rattle.comparing.specs.Differences.{bad_buffer, differing, differences}
use Rattle.comparing.specs.Calls.{compare_faults, compare_number, compare_answered, compared_as, compared_into, Compares}
use Rattle.comparing.specs.declared.Compared.{Compared}

module _ (first second : List ℕ) where
  -- The number, case by case.
  pub number_51 : (room : ℕ) → bad_buffer first ≡ true → compare_number first second room ≡ 51
  unfolding compare_number compare_faults lowest
  number_51 room e = rw e

  pub number_52 : (room : ℕ) → bad_buffer first ≡ false → bad_buffer second ≡ true → compare_number first second room ≡ 52
  unfolding compare_number compare_faults lowest
  number_52 room e f = rw (e, f)

  pub number_53 : (room : ℕ) → bad_buffer first ≡ false → bad_buffer second ≡ false → room < 8 * length (differing first second) → compare_number first second room ≡ 53
  unfolding compare_number compare_faults lowest
  number_53 room e f h = rw (e, f, lt-ltb room (8 * length (differing first second)) h)

  pub number_0 : (room : ℕ) → bad_buffer first ≡ false → bad_buffer second ≡ false → 8 * length (differing first second) ≤ room → compare_number first second room ≡ 0
  unfolding compare_number compare_faults lowest
  number_0 room e f h = rw (e, f, le-ltb room (8 * length (differing first second)) h)

  -- The answer and the list buffer, by the number.
  pub accepted_answer : (room : ℕ) → compare_number first second room ≡ 0 → compared_as first second room ≡ compare_answered 0 (length (differing first second))
  unfolding compared_as
  accepted_answer room e = rw (eq-eqb (compare_number first second room) 0 e)

  pub accepted_list : (old : List ℕ) → compare_number first second (length old) ≡ 0
      → compared_into first second old ≡ differences first second ++ drop (length (differences first second)) old
  unfolding compared_into
  accepted_list old e = rw (eq-eqb (compare_number first second (length old)) 0 e)

  pub refused_answer : (room : ℕ) → (compare_number first second room ≡ 0 → ⊥) → compared_as first second room ≡ compare_answered (compare_number first second room) 0
  unfolding compared_as
  refused_answer room o = rw (ne_eqb (compare_number first second room) 0 o)

  pub refused_list : (old : List ℕ) → (compare_number first second (length old) ≡ 0 → ⊥) → compared_into first second old ≡ old
  unfolding compared_into
  refused_list old o = rw (ne_eqb (compare_number first second (length old)) 0 o)

  -- The number of the answer is that of the table.
  pub answer_number : (room : ℕ) → (compared_as first second room).number ≡ compare_number first second room
  unfolding compared_as
  answer_number room = zero_number (λ (a : Compared). a.number) (compare_number first second room) _ _ refl refl

  -- Where it is 0, both buffers are good and there is room.
  pub accepted : (room : ℕ) → compare_number first second room ≡ 0
      → (bad_buffer first ≡ false) × (bad_buffer second ≡ false) × (8 * length (differing first second) ≤ room)
  unfolding compare_number compare_faults
  accepted room e =
      let none : NoRow (compare_faults first second room) = (lowest_zero 50 (compare_faults first second room)).0 e in
      (none 0, none 1, ltb-false room (8 * length (differing first second)) (none 2))

  -- What the code gives in each case.
  pub gives_refused : (old : List ℕ) {answer : Compared} {new : List ℕ} {n : ℕ} → compare_number first second (length old) ≡ n → (n ≡ 0 → ⊥) → answer ≡ compare_answered n 0
      → new ≡ old → Compares first second old answer new
  gives_refused old {answer} {new} {n} e o a s =
      let r : compare_number first second (length old) ≡ 0 → ⊥ = λ z. o (sym e ∙ z) in
      record {
        answers = a ∙ sym (refused_answer (length old) r ∙ ap (λ (m : ℕ). compare_answered m 0) e);
        leaves = s ∙ sym (refused_list old r);
      }

  pub gives_accepted : (old : List ℕ) {answer : Compared} {new : List ℕ} → compare_number first second (length old) ≡ 0
      → answer ≡ compare_answered 0 (length (differing first second)) → new ≡ differences first second ++ drop (length (differences first second)) old
      → Compares first second old answer new
  gives_accepted old e a s = record { answers = a ∙ sym (accepted_answer (length old) e); leaves = s ∙ sym (accepted_list old e) }
