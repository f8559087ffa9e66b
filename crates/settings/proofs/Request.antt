-- Q-5 is met by the calls that the promises describe, and by no others: any two readers and any writer that do what is asked give what ours give.
-- Assumes nothing.
use mathlib.Core.Path.{◌≡◌, refl, sym, ap, ◌∙◌}
use mathlib.Core.List.{List}
use mathlib.Core.Logic.{◌↔◌}
use Prim.Native.Nat.{ℕ, ◌≤◌}
use native.Mathlib.Omega.{arith}
use borrow.Author.Tests.{le-ltb}
use lib.ListN.{length}
use Rattle.numbers.specs.Bytes.{Bytes}
use Rattle.settings.specs.Layout.{edition_of}
use Rattle.settings.specs.Calls.{read_faults, read_number, shown, shown_by, Reads, ReadsFirst}
use Rattle.settings.specs.Requests.{Reader, Writer, FieldAlone, Request5, our_read, our_first, our_write}
use Rattle.settings.specs.declared.Settings.{Settings}
use Rattle.settings.specs.declared.Chosen.{Chosen}
use Rattle.settings.specs.declared.Shown.{Shown}
use Rattle.settings.proofs.Cases.{number_42, refused_answer}
use Rattle.settings.proofs.Layouts.{Knows}
use Rattle.settings.proofs.Readers.{reads_up_to}
use Rattle.settings.proofs.Decided.{reader_decided}
use Rattle.settings.proofs.Writing.{writes_files, writer_decided}
use Rattle.settings.proofs.Back.{read_back, all_back, kept_back}
use Rattle.settings.proofs.Renewed.{renewed}
use Rattle.settings.proofs.Alike.{alike}

module _ (file : List ℕ) (given : Settings) where
  -- The promises have one result.
  pub reads_one : (a b : Shown) → Reads file given a → Reads file given b → a ≡ b
  reads_one a b c d = c.answers ∙ sym d.answers

  pub reads_first_one : (a b : Shown) → ReadsFirst file given a → ReadsFirst file given b → a ≡ b
  reads_first_one a b c d = c.answers ∙ sym d.answers

  -- The promises of the calls (Calls.antt) say exactly that they are these functions.
  pub reads_ours : (a : Shown) → Reads file given a ↔ (a ≡ our_read file given)
  reads_ours a = (λ c. c.answers, λ e. record { answers = e })

  pub reads_first_ours : (a : Shown) → ReadsFirst file given a ↔ (a ≡ our_first file given)
  reads_first_ours a = (λ c. c.answers, λ e. record { answers = e })

  -- Q-5 5: the kept reader and the new one, on a file of either edition.
  pub edition_1 : edition_of file ≡ 1 → our_first file given ≡ our_read file given
  unfolding shown_by read_number read_faults
  edition_1 e = rw e refl

  pub edition_2 : edition_of file ≡ 2 → 8 ≤ length file → length file ≤ 40 → our_first file given ≡ shown 42 given
  edition_2 e low high =
      let n : read_number 1 file given ≡ 42 = number_42 1 file given (rw (le-ltb (length file) 8 low, le-ltb 40 (length file) high) refl) (rw e refl) in
      refused_answer 1 file given (λ z. omega (arith, n, z)) ∙ ap (λ (m : ℕ). shown m given) n

-- Q-5 6: what two files have under a name is shown alike, by readers of whatever editions.
pub field_alone : (last more-last : ℕ) → Knows last → Knows more-last → FieldAlone (shown_by last) (shown_by more-last)
field_alone last more-last l m file more given before z y v n four w u =
    (reads_up_to last l).takes file given z v n four w ∙ sym ((reads_up_to more-last m).takes more before y v n four u)

-- Q-5 of the calls that the promises describe.
pub request5 : Request5 our_read our_first our_write
request5 =
    record {
      reading = reads_up_to 2 (omega arith);
      keeping = reads_up_to 1 (omega arith);
      writing = writes_files;
      edition_1 = edition_1;
      edition_2 = edition_2;
      alone = field_alone 2 2 (omega arith) (omega arith);
      alone_kept = field_alone 1 1 (omega arith) (omega arith);
      alone_both = field_alone 2 1 (omega arith) (omega arith);
      alike = alike;
      read_back = read_back;
      all_back = all_back;
      kept_back = kept_back;
      renewed = renewed;
    }

-- Any calls that do what is asked give what ours give, on every input.
module _ (read first : Reader) (write : Writer) (r : Request5 read first write) where
  pub read_decided : (file : List ℕ) (given : Settings) → Bytes file → read file given ≡ our_read file given
  read_decided file given b = reader_decided 2 (omega arith) read r.reading file given b

  pub first_decided : (file : List ℕ) (given : Settings) → Bytes file → first file given ≡ our_first file given
  first_decided file given b = reader_decided 1 (omega arith) first r.keeping file given b

  pub write_decided : (g : Settings) (which : Chosen) (old : List ℕ) → write g which old ≡ our_write g which old
  write_decided g which old = writer_decided write r.writing g which old
