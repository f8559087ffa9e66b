-- Document 01, "Text": how a text falls into lines.
-- Assumes nothing.
use Rattle.std.specs.Prelude.{cond, ◌&&◌, List, [], ◌∷◌, ℕ, eqb, get_or}

-- One more byte in front of the first line.
unfoldable pub onto_first_line : ℕ → List (List ℕ) → List (List ℕ)
onto_first_line b [] = (b ∷ []) ∷ []
onto_first_line b (l ∷ ls) = (b ∷ l) ∷ ls

-- Text 2, Text 3: each LF (10) closes a line. What stands behind the last LF is a line too, if anything does. A CR (13) that an LF follows goes with it.
unfoldable pub lines : List ℕ → List (List ℕ)
lines [] = []
lines (b ∷ bs) =
    let more = lines bs in
    let ended = [] ∷ more in
    let lengthened = onto_first_line b more in
    cond (eqb b 10) ended (cond (eqb b 13 && eqb (get_or bs 0 0) 10) more lengthened)
