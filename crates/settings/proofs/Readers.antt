-- Q-5 1 to 8 of the calls that the promises describe: of the reader of both editions, and of the one that was kept.
-- Assumes nothing.
use mathlib.Core.Path.{◌≡◌, sym, ap, ◌∙◌}
use mathlib.Core.Bool.{true}
use mathlib.Core.List.{List}
use mathlib.Core.Logic.{◌⊎◌}
use Prim.Native.Nat.{ℕ, ◌≤◌}
use native.Mathlib.Omega.{arith}
use lib.IntN.{ℤ}
use lib.Signed.{lt_z, lt_z_yes, <ℤ_irrefl}
use Rattle.numbers.specs.Bits.{signed32}
use Rattle.numbers.specs.Bytes.{Bytes, number}
use Rattle.numbers.proofs.Lowest.{lowest_exactly, lowest_zero}
use Rattle.numbers.proofs.Truth.{true_is}
use Rattle.settings.specs.Sets.{finished}
use Rattle.settings.specs.Calls.{read_faults, read_number, shown_by}
use Rattle.settings.specs.Requests.{IsName, value_of, Accepts, WrittenUnder, KeepsRanges, ReadsUpTo}
use Rattle.settings.specs.declared.Settings.{Settings}
use Rattle.settings.specs.declared.Shown.{Shown}
use Rattle.settings.proofs.Ranges.{keeps_exactly}
use Rattle.settings.proofs.Cases.{accepted_answer, refused_answer, answer_number, accepted}
use Rattle.settings.proofs.Values.{Gives, Keeps, file_tells, file_taken}
use Rattle.settings.proofs.Layouts.{Knows, laid_out_exactly}

-- No number is below itself.
not_below : (z : ℤ) → lt_z z z ≡ true → ⊥
not_below z e = <ℤ_irrefl {a = z} (lt_z_yes (true_is (lt_z z z) e))

module _ (last : ℕ) (s : List ℕ) (given : Settings) where
  -- A refused file.
  nothing : (Accepts (shown_by last) s given → ⊥) → (shown_by last s given).settings ≡ given
  nothing o = ap (λ (a : Shown). a.settings) (refused_answer last s given (λ z. o (answer_number last s given ∙ z)))

  -- An accepted file: the number, and what is shown.
  module _ (zero_number : Accepts (shown_by last) s given) where
    pub table_zero : read_number last s given ≡ 0
    table_zero = sym (answer_number last s given) ∙ zero_number

    pub settings_shown : (shown_by last s given).settings ≡ finished s given
    settings_shown = ap (λ (a : Shown). a.settings) (accepted_answer last s given table_zero)

    shows : last ≤ 2 → Bytes s → (v : ℕ) → IsName v
        → Gives s v (value_of (shown_by last s given).settings v) ⊎ Keeps s v (value_of given v) (value_of (shown_by last s given).settings v)
    shows l b v n =
        let a = (accepted last s given table_zero).0 in
        rw settings_shown (file_tells s given v n a.5 last l a.0 a.2 a.3 b)

    takes : (v : ℕ) → IsName v → (four : List ℕ) → WrittenUnder s v four → value_of (shown_by last s given).settings v ≡ signed32 (number four)
    takes v n four w = rw settings_shown (file_taken s given v n (accepted last s given table_zero).0.5 four w)

    keeps : KeepsRanges (shown_by last s given).settings
    keeps = rw settings_shown ((keeps_exactly (finished s given)).0 (accepted last s given table_zero).1)

    -- VI is below VM, so what is shown as VI is not shown as VM.
    never_vm : (four : List ℕ) → WrittenUnder s 8 four → (shown_by last s given).settings.vm ≡ signed32 (number four) → ⊥
    never_vm four w e =
        let same : (shown_by last s given).settings.vi ≡ (shown_by last s given).settings.vm = takes 8 (omega arith) four w ∙ sym e in
        not_below (shown_by last s given).settings.vm (rw same at keeps.below)

-- All of it.
pub reads_up_to : (last : ℕ) → Knows last → ReadsUpTo last (shown_by last)
unfolding read_number
reads_up_to last l =
    record {
      refused = λ s given k. rw (answer_number last s given) (lowest_exactly 40 (read_faults last s given) k);
      none = λ s given. rw (answer_number last s given) (lowest_zero 40 (read_faults last s given));
      laid_out = laid_out_exactly last l;
      nothing = nothing last;
      shows = λ s given b z. shows last s given z l.1 b;
      takes = takes last;
      keeps = keeps last;
      never_vm = never_vm last;
    }
