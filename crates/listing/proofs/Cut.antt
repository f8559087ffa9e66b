-- A text made of lines that are each ended by LF falls into just these lines.
-- Assumes nothing.
use mathlib.Core.Path.{◌≡◌, refl}
use mathlib.Core.Bool.{Bool, ◌&&◌, not}
use mathlib.Core.List.{List, [], ◌∷◌, ◌++◌, append_assoc}
use Prim.Native.Nat.{ℕ}
use lib.Dec.{T, eqb}
use Rattle.numbers.specs.Tests.{all_of}
use Rattle.numbers.proofs.Truth.{both, is_false}
use Rattle.text.specs.Lines.{onto_first_line, lines}
use Rattle.printing.specs.Listing.{line}

-- A byte that neither ends a line nor is dropped at its end.
abbrev pub in_line : ℕ → Bool
in_line b = not (eqb b 10) && not (eqb b 13)

pub lines_cut : (l rest : List ℕ) → T (all_of in_line l) → lines (l ++ (10 ∷ rest)) ≡ l ∷ lines rest
unfolding lines onto_first_line all_of
lines_cut [] rest h = refl
lines_cut (b ∷ l) rest h =
    let c = both (in_line b) (all_of in_line l) h in
    let d = both (not (eqb b 10)) (not (eqb b 13)) c.0 in
    let e = is_false (eqb b 10) d.0 in
    let f = is_false (eqb b 13) d.1 in
    rw (e, f, lines_cut l rest c.1)

-- The first line of a text that starts with a printed line, and what is left.
pub lines_line : (l rest : List ℕ) → T (all_of in_line l) → lines (line l ++ rest) ≡ l ∷ lines rest
unfolding line
lines_line l rest h = rw append_assoc (lines_cut l rest h)
