-- Document 01, Refusals 20: the first fault of a text is the first among the lowest faults of its lines.
-- Assumes nothing.
use mathlib.Core.Path.{◌≡◌, refl}
use mathlib.Core.Bool.{Bool, cond}
use mathlib.Core.List.{List, [], ◌∷◌, map}
use Prim.Native.Nat.{ℕ, suc}
use lib.Dec.{eqb}
use Rattle.numbers.specs.Tests.{lowest}
use Rattle.text.specs.Faults.{line_faults, text_faults, fault, first_from, first_fault}
use Rattle.text.specs.declared.Fault.{Fault}

-- The first of these numbers that is not 0, with its line, where the first of them is that of the line `line`; 0 and 0 where each is 0.
unfoldable pub first_of : ℕ → List ℕ → Fault
first_of line [] = fault 0 0
first_of line (n ∷ more) =
    let later = first_of (suc line) more in
    cond (eqb n 0) later (fault n line)

first_rows : (line : ℕ) (rows : List (List Bool)) → first_of line (map (lowest 2) rows) ≡ first_from line rows
unfolding first_of first_from
first_rows line [] = refl
first_rows line (r ∷ more) = rw (first_rows (suc line) more)

pub first_of_lines : (text : List ℕ) → first_of 1 (line_faults text) ≡ first_fault text
unfolding line_faults first_fault
first_of_lines text = first_rows 1 (text_faults text)
