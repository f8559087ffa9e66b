-- The places and the numbers of names, by their rows. No demand reaches this; proofs/ ties it to the paper's definitions.
-- Assumes nothing.
use Rattle.std.specs.Prelude.{cond, List, ℕ, ◌+◌, ◌≤◌, eqb}
use Rattle.program.specs.Names.{Name, paper_variable}
use Rattle.rows.specs.Rows.{Row, kind, place, row_at}

-- The place of a label and the number of a variable, by the rows of the names.
unfoldable pub place_in : List Row → Name → ℕ
place_in rows w = place (row_at rows w)

unfoldable pub number_in : List Row → Name → ℕ
number_in rows w = cond (eqb (kind (row_at rows w)) 2) (32 + place (row_at rows w)) (paper_variable w)

-- No row has a place past the longest text.
pub record Low (rows : List Row) : Type 0 where
  pub each : (w : Name) → place (row_at rows w) ≤ 16384
