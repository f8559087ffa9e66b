-- The cases of writing: a value out of range, a buffer too short, and accepted. The call that the promise describes does what is asked of a writer, and no other call does.
-- Assumes nothing.
use mathlib.Core.Path.{◌≡◌, refl, sym, ap, ap₂, ◌∙◌}
use mathlib.Core.Bool.{true, false}
use mathlib.Core.List.{List, ◌++◌}
use mathlib.Core.Logic.{◌↔◌}
use Prim.Native.Nat.{ℕ, ◌≤◌, ◌<◌}
use borrow.Author.Tests.{lt-ltb, le-ltb, ltb-false, eq-eqb, ne_eqb}
use lib.ListN.{length, drop}
use Rattle.numbers.specs.Tests.{any_of, lowest, NoRow}
use Rattle.numbers.proofs.Lowest.{lowest_exactly, lowest_zero, lowest_decided}
use Rattle.numbers.proofs.Truth.{if_same, zero_number}
use Rattle.settings.specs.Layout.{file_of}
use Rattle.settings.specs.Calls.{chosen_pairs, outside, write_faults, write_number, written, written_as, written_into, Writes}
use Rattle.settings.specs.Requests.{Writer, WritesFiles, our_write}
use Rattle.settings.specs.declared.Settings.{Settings}
use Rattle.settings.specs.declared.Chosen.{Chosen}
use Rattle.settings.specs.declared.Written.{Written}

module _ (g : Settings) (which : Chosen) where
  -- The number, case by case.
  pub number_44 : (room : ℕ) → any_of outside (chosen_pairs g which) ≡ true → write_number g which room ≡ 44
  unfolding write_number write_faults lowest
  number_44 room e = rw e

  pub number_45 : (room : ℕ) → any_of outside (chosen_pairs g which) ≡ false → room < length (file_of (chosen_pairs g which)) → write_number g which room ≡ 45
  unfolding write_number write_faults lowest
  number_45 room e h = rw (e, lt-ltb room (length (file_of (chosen_pairs g which))) h)

  pub number_0 : (room : ℕ) → any_of outside (chosen_pairs g which) ≡ false → length (file_of (chosen_pairs g which)) ≤ room → write_number g which room ≡ 0
  unfolding write_number write_faults lowest
  number_0 room e h = rw (e, le-ltb room (length (file_of (chosen_pairs g which))) h)

  -- Where it is 0, no chosen value is out of range and there is room.
  pub accepted : (room : ℕ) → write_number g which room ≡ 0 → (any_of outside (chosen_pairs g which) ≡ false) × (length (file_of (chosen_pairs g which)) ≤ room)
  unfolding write_number write_faults
  accepted room e =
      let none : NoRow (write_faults g which room) = (lowest_zero 43 (write_faults g which room)).0 e in
      (none 0, ltb-false room (length (file_of (chosen_pairs g which))) (none 1))

  -- The answer and the buffer, by the number.
  pub accepted_answer : (room : ℕ) → write_number g which room ≡ 0 → written_as g which room ≡ written 0 (length (file_of (chosen_pairs g which)))
  unfolding written_as
  accepted_answer room e = rw (eq-eqb (write_number g which room) 0 e)

  pub accepted_file : (old : List ℕ) → write_number g which (length old) ≡ 0
      → written_into g which old ≡ file_of (chosen_pairs g which) ++ drop (length (file_of (chosen_pairs g which))) old
  unfolding written_into
  accepted_file old e = rw (eq-eqb (write_number g which (length old)) 0 e)

  pub refused_answer : (room : ℕ) → (write_number g which room ≡ 0 → ⊥) → written_as g which room ≡ written (write_number g which room) 0
  unfolding written_as
  refused_answer room o = rw (ne_eqb (write_number g which room) 0 o)

  pub refused_file : (old : List ℕ) → (write_number g which (length old) ≡ 0 → ⊥) → written_into g which old ≡ old
  unfolding written_into
  refused_file old o = rw (ne_eqb (write_number g which (length old)) 0 o)

  -- The number of the answer is that of the table.
  pub answer_number : (room : ℕ) → (written_as g which room).number ≡ write_number g which room
  unfolding written_as
  answer_number room = zero_number (λ (a : Written). a.number) (write_number g which room) _ _ refl refl

  -- What the code gives in each case.
  pub gives_refused : (old : List ℕ) {answer : Written} {new : List ℕ} {n : ℕ} → write_number g which (length old) ≡ n → (n ≡ 0 → ⊥) → answer ≡ written n 0 → new ≡ old
      → Writes g which old answer new
  gives_refused old {answer} {new} {n} e o a s =
      let r : write_number g which (length old) ≡ 0 → ⊥ = λ z. o (sym e ∙ z) in
      record {
        answers = a ∙ sym (refused_answer (length old) r ∙ ap (λ (m : ℕ). written m 0) e);
        leaves = s ∙ sym (refused_file old r);
      }

  pub gives_accepted : (old : List ℕ) {answer : Written} {new : List ℕ} → write_number g which (length old) ≡ 0
      → answer ≡ written 0 (length (file_of (chosen_pairs g which))) → new ≡ file_of (chosen_pairs g which) ++ drop (length (file_of (chosen_pairs g which))) old
      → Writes g which old answer new
  gives_accepted old e a s = record { answers = a ∙ sym (accepted_answer (length old) e); leaves = s ∙ sym (accepted_file old e) }

  -- An accepted call, answer and buffer.
  pub given : (old : List ℕ) → (our_write g which old).answer.number ≡ 0
      → our_write g which old
      ≡ record { answer = written 0 (length (file_of (chosen_pairs g which))); file = file_of (chosen_pairs g which) ++ drop (length (file_of (chosen_pairs g which))) old }
  given old z =
      let e : write_number g which (length old) ≡ 0 = sym (answer_number (length old)) ∙ z in
      ap₂ (λ (a : Written) (l : List ℕ). record { answer = a; file = l }) (accepted_answer (length old) e) (accepted_file old e)

-- The promise has one result.
pub writes_one : (g : Settings) (which : Chosen) (old : List ℕ) (a b : Written) (new more : List ℕ)
    → Writes g which old a new → Writes g which old b more → (a ≡ b) × (new ≡ more)
writes_one g which old a b new more c d = (c.answers ∙ sym d.answers, c.leaves ∙ sym d.leaves)

-- The promise of the call (Calls.antt) says exactly that it is this function.
pub writes_ours : (g : Settings) (which : Chosen) (old : List ℕ) (a : Written) (new : List ℕ)
    → Writes g which old a new ↔ ((a ≡ (our_write g which old).answer) × (new ≡ (our_write g which old).file))
writes_ours g which old a new = (λ c. (c.answers, c.leaves), λ e. record { answers = e.0; leaves = e.1 })

-- What is asked of a writer, of the call that the promise describes.
pub writes_files : WritesFiles our_write
unfolding write_number
writes_files =
    record {
      refused = λ g which old k. rw (answer_number g which (length old)) (lowest_exactly 43 (write_faults g which (length old)) k);
      none = λ g which old. rw (answer_number g which (length old)) (lowest_zero 43 (write_faults g which (length old)));
      length_refused = λ g which old o. ap (λ (a : Written). a.length) (refused_answer g which (length old) (λ z. o (answer_number g which (length old) ∙ z)));
      file_refused = λ g which old o. refused_file g which old (λ z. o (answer_number g which (length old) ∙ z));
      laid_out = given;
    }

-- Any writer that does what is asked gives what ours gives, on every input.
module _ (write : Writer) (r : WritesFiles write) (g : Settings) (which : Chosen) (old : List ℕ) where
  -- Its number is that of the table.
  same_number : (write g which old).answer.number ≡ write_number g which (length old)
  unfolding write_number
  same_number = lowest_decided 43 (write_faults g which (length old)) (write g which old).answer.number (r.refused g which old) (r.none g which old)

  pub writer_decided : write g which old ≡ our_write g which old
  writer_decided =
      if_same (write_number g which (length old)) 0
      (λ z. r.laid_out g which old (same_number ∙ z) ∙ sym (given g which old (answer_number g which (length old) ∙ z)))
      (λ o.
      let n : (write g which old).answer.number ≡ 0 → ⊥ = λ z. o (sym same_number ∙ z) in
      ap₂ (λ (a : Written) (l : List ℕ). record { answer = a; file = l })
      (ap₂ written same_number (r.length_refused g which old n) ∙ sym (refused_answer g which (length old) o))
      (r.file_refused g which old n ∙ sym (refused_file g which old o)))
