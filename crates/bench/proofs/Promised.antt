-- The bench sheet over the promises of the calls: for each row the expected answer and buffers are what Translates, Checks and Runs ask for (Tight 6).
-- Assumes nothing.
use mathlib.Core.Path.{◌≡◌, refl, sym, ap, ◌∙◌}
use mathlib.Core.List.{◌++◌}
use Prim.Native.Nat.{ℕ, ◌*◌, ◌-◌}
use lib.ListN.{length, length-replicate}
use Rattle.numbers.specs.Tests.{Each}
use Rattle.numbers.proofs.Tests.{each_then, each_both}
use Rattle.image.specs.Check.{checked}
use Rattle.agreement.proofs.Checked.{image_checked}
use Rattle.bench.specs.Translating.{answered, translated}
use Rattle.bench.specs.Running.{checked_as, ran}
use Rattle.bench.specs.Calls.{Translates, Checks, Runs}
use Rattle.bench.specs.declared.Translated.{Translated}
use Rattle.bench.specs.Sheet.{Row, Trial, fresh, ran_with, RunsAs, Holds, sheet, sheet_holds}
use Rattle.bench.proofs.Demands.{text_refused}
use Rattle.bench.proofs.Impostors.{row_accepted, row_image}

-- A run of the row's image into a buffer of just the size required.
abbrev pub RunPromised : Row → Trial → Type 0
RunPromised r t =
    Runs r.image t.script t.budget (fresh (12 * t.budget)) (ran_with t) (t.records ++ fresh (12 * t.budget - length t.records))

-- A row: its text translated into a buffer of 128 bytes, its image checked where there is one, and each of its runs.
pub record Promised (r : Row) : Type 0 where
  pub translates : Translates r.text (fresh 128) r.answer (r.image ++ fresh (128 - length r.image))
  pub checks : r.answer.number ≡ 0 → Checks r.image (record { number = 0 })
  pub runs : Each (RunPromised r) r.trials

-- The answer's length is that of the row's image.
abbrev Sized : Row → Type 0
Sized r = r.answer.length ≡ length r.image

sizes : Each Sized sheet
sizes = (refl, (refl, (refl, (refl, (refl, (refl, (refl, (refl, (refl, (refl, (refl, (refl, (refl, (refl, (refl, (refl, tt))))))))))))))))

-- An answer by its parts.
by_parts : (a : Translated) (n l k : ℕ) → a.number ≡ n → a.line ≡ l → a.length ≡ k → a ≡ answered n l k
by_parts a n l k e f g = rw (← e, ← f, ← g) refl

run_promised : (r : Row) (t : Trial) → RunsAs r t → RunPromised r t
run_promised r t h =
    record {
      answers = sym (ap (ran r.image t.script t.budget) (length-replicate (12 * t.budget) 170) ∙ h.0);
      leaves = sym h.1;
    }

row_checks : (r : Row) → Holds r → Sized r → r.answer.number ≡ 0 → Checks r.image (record { number = 0 })
unfolding checked_as
row_checks r h s e =
    let n : (translated r.text 128).number ≡ 0 = ap (λ (a : Translated). a.number) h.0 ∙ e in
    let line : r.answer.line ≡ 0 = ap (λ (a : Translated). a.line) (sym h.0) ∙ (text_refused r.text (fresh 128)).line_0 n in
    let a : translated r.text 128 ≡ answered 0 0 (length r.image) = h.0 ∙ by_parts r.answer 0 0 (length r.image) e line s in
    let ok = row_accepted r.text (length r.image) a in
    record { answers = ap (λ (k : ℕ). record { number = k }) (sym (ap checked (sym (row_image r.text r.image a h.1)) ∙ image_checked r.text ok)) }

row_promised : (r : Row) → Holds r → Sized r → Promised r
row_promised r h s =
    record {
      translates = record { answers = sym h.0; leaves = sym h.1 };
      checks = row_checks r h s;
      runs = each_then (RunsAs r) (RunPromised r) (run_promised r) r.trials h.2;
    }

pub sheet_promised : Each Promised sheet
sheet_promised = each_then (λ r. Holds r × Sized r) Promised (λ r h. row_promised r h.0 h.1) sheet (each_both Holds Sized sheet sheet_holds sizes)
