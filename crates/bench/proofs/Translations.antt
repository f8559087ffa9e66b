-- Which answer to translating the tests lead to.
-- Assumes nothing.
use mathlib.Core.Path.{◌≡◌, refl, sym, ◌∙◌}
use mathlib.Core.List.{List, ◌++◌}
use Prim.Native.Nat.{ℕ, ◌≤◌, ◌<◌}
use native.Mathlib.Omega.{arith}
use borrow.Author.Tests.{lt-ltb, le-ltb, ne_eqb}
use lib.ListN.{length, drop}
use Rattle.text.specs.Faults.{overlong, said, first_fault}
use Rattle.text.specs.declared.Fault.{Fault}
use Rattle.names.specs.declared.Counts.{Counts}
use Rattle.names.specs.Code.{counts_of}
use Rattle.image.specs.Layout.{image_length}
use Rattle.translation.specs.Images.{image}
use Rattle.translation.proofs.Accepted.{few_cells, few_labels, few_variables}
use Rattle.translation.proofs.Parts.{image_length_lem}
use Rattle.translation.proofs.Writing.{all_two}
use Rattle.bench.specs.declared.Translated.{Translated}
use Rattle.bench.specs.Translating.{answered, too_short, translated, translated_into}
use Rattle.bench.specs.Calls.{Translates}

-- What a survey counts in a text without a fault keeps the limits, and gives the image's length.
module _ (text : List ℕ) (clean : (first_fault text).number ≡ 0) {n : Counts} (e : n ≡ counts_of (said text)) where
  pub few : (n.cells ≤ 256) × (n.labels ≤ 160) × (n.variables ≤ 32)
  unfolding counts_of
  few = rw e (few_cells text clean, few_labels text clean, few_variables text clean)

  pub measured : {size : ℕ} → size ≡ image_length n.cells n.labels n.variables → size ≡ length (image text)
  unfolding counts_of image
  measured h = h ∙ rw e (sym (image_length_lem (said text) (all_two text)))

module _ (text b : List ℕ) where
  -- the answer of a refusal, and the buffer as it was
  refused_as_lem : (n line : ℕ) {r : Translated} → translated text (length b) ≡ answered n line 0 → (n ≡ 0 → ⊥) → r ≡ answered n line 0 → Translates text b r b
  unfolding translated_into
  refused_as_lem n line e h k = record { answers = k ∙ sym e; leaves = sym (rw (e, ne_eqb n 0 h) refl) }

  pub refused_long : {r : Translated} → 16384 < length text → r ≡ answered 1 0 0 → Translates text b r b
  unfolding translated overlong
  refused_long h k = refused_as_lem 1 0 (rw (lt-ltb 16384 (length text) h) refl) (λ e. absurd (omega arith)) k

  module _ (fits : length text ≤ 16384) where
    pub refused_line : {f : Fault} {r : Translated} → f ≡ first_fault text → (f.number ≡ 0 → ⊥) → r ≡ answered f.number f.line 0 → Translates text b r b
    unfolding translated overlong
    refused_line {f} e h k =
        refused_as_lem f.number f.line
        (rw (le-ltb 16384 (length text) fits, ← e, ne_eqb f.number 0 h) refl) h k

    module _ (clean : (first_fault text).number ≡ 0) where
      pub refused_short : {r : Translated} → length b < length (image text) → r ≡ answered 10 0 0 → Translates text b r b
      unfolding translated overlong too_short
      refused_short h k =
          refused_as_lem 10 0 (rw (le-ltb 16384 (length text) fits, clean, lt-ltb (length b) (length (image text)) h) refl) (λ e. absurd (omega arith)) k

      pub translated_as : {r : Translated} {b' : List ℕ} → length (image text) ≤ length b → r ≡ answered 0 0 (length (image text)) → b' ≡ image text ++ drop (length (image text)) b → Translates text b r b'
      unfolding translated translated_into overlong too_short
      translated_as h k l =
          record {
            answers = k ∙ sym (rw (le-ltb 16384 (length text) fits, clean, le-ltb (length b) (length (image text)) h) refl);
            leaves = l ∙ sym (rw (le-ltb 16384 (length text) fits, clean, le-ltb (length b) (length (image text)) h) refl);
          }
