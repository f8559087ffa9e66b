-- Document 01, "Refusal numbers": the answer to translating.
-- Assumes nothing.
use Rattle.std.specs.Prelude.{Bool, cond, not, List, ◌++◌, ℕ, eqb, ltb, length, drop}
use Rattle.text.specs.Faults.{overlong, first_fault}
use Rattle.translation.specs.Images.{image}
use Rattle.bench.specs.declared.Translated.{Translated}

-- Refusals 10: the image does not fit into the buffer.
unfoldable pub too_short : List ℕ → ℕ → Bool
too_short text room = ltb room (length (image text))

abbrev pub answered : ℕ → ℕ → ℕ → Translated
answered number line size = record { number = number; line = line; length = size }

-- Refusals 20, Refusals 22, Refusals 25: 1 before all, 10 behind all, between them the first line with a fault; for a buffer of this size.
unfoldable pub translated : List ℕ → ℕ → Translated
translated text room =
    cond (overlong text) (answered 1 0 0)
    (cond (not (eqb (first_fault text).number 0)) (answered (first_fault text).number (first_fault text).line 0)
    (cond (too_short text room) (answered 10 0 0) (answered 0 0 (length (image text)))))

-- Image 5, Refusals 24: what the buffer holds after: the image and behind it what stood there; as it was where the text is refused.
unfoldable pub translated_into : List ℕ → List ℕ → List ℕ
translated_into text buffer =
    cond (eqb (translated text (length buffer)).number 0) (image text ++ drop (length (image text)) buffer) buffer
