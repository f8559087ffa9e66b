-- Q-5 6 to 8 leave nothing open: any reader that keeps them gives what ours gives, on every file of bytes.
-- Assumes nothing.
use mathlib.Core.Path.{◌≡◌, sym, ap₂, ◌∙◌}
use mathlib.Core.List.{List}
use mathlib.Core.Logic.{⊎_elim}
use Prim.Native.Nat.{ℕ}
use native.Mathlib.Omega.{arith}
use lib.IntN.{ℤ}
use Rattle.numbers.specs.Bytes.{Bytes}
use Rattle.numbers.proofs.Lowest.{lowest_decided}
use Rattle.numbers.proofs.Truth.{if_same}
use Rattle.settings.specs.Sets.{settings}
use Rattle.settings.specs.Calls.{read_faults, read_number, shown, shown_by}
use Rattle.settings.specs.Requests.{Reader, IsName, value_of, Accepts, ReadsUpTo}
use Rattle.settings.specs.declared.Settings.{Settings}
use Rattle.settings.proofs.Cases.{answer_number}
use Rattle.settings.proofs.Layouts.{Knows}
use Rattle.settings.proofs.Readers.{reads_up_to}

-- A set is told by what it has under each name.
four_values : {a b c d e f g h : ℤ} → a ≡ e → b ≡ f → c ≡ g → d ≡ h → settings a b c d ≡ settings e f g h
four_values p q r s = rw (p, q, r, s)

same_set : (g h : Settings) → ((v : ℕ) → IsName v → value_of g v ≡ value_of h v) → g ≡ h
same_set g h e = four_values (e 6 (omega arith)) (e 7 (omega arith)) (e 8 (omega arith)) (e 9 (omega arith))

module _ (last : ℕ) (l : Knows last) (read : Reader) (r : ReadsUpTo last read) (file : List ℕ) (given : Settings) where
  -- Its number is that of the table, and so ours.
  table_number : (read file given).number ≡ read_number last file given
  unfolding read_number
  table_number = lowest_decided 40 (read_faults last file given) (read file given).number (r.refused file given) (r.none file given)

  same_number : (read file given).number ≡ (shown_by last file given).number
  same_number = table_number ∙ sym (answer_number last file given)

  -- What it shows under a name of an accepted file.
  same_value : Bytes file → Accepts read file given → (v : ℕ) → IsName v → value_of (read file given).settings v ≡ value_of (shown_by last file given).settings v
  same_value b z v n =
      let y : Accepts (shown_by last) file given = sym same_number ∙ z in
      ⊎_elim
      (λ c. c.2 ∙ sym ((reads_up_to last l).takes file given y v n c.0 c.1))
      (λ c.
      ⊎_elim
      (λ d. absurd (c.0 d.0 d.1))
      (λ d. c.1 ∙ sym d.1)
      ((reads_up_to last l).shows file given b y v n))
      (r.shows file given b z v n)

  pub reader_decided : Bytes file → read file given ≡ shown_by last file given
  reader_decided b =
      ap₂ shown same_number
      (if_same (read file given).number 0
      (λ z. same_set (read file given).settings (shown_by last file given).settings (same_value b z))
      (λ o. r.nothing file given o ∙ sym ((reads_up_to last l).nothing file given (λ z. o (same_number ∙ z)))))
