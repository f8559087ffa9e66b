-- The names that a text declares, arranged in order. No demand reaches this; proofs/Seeking.antt ties it to the paper's definitions.
-- Assumes nothing.
use Rattle.std.specs.Prelude.{◌≡◌, Bool, true, false, cond, ◌&&◌, ◌||◌, not, List, [], ◌∷◌, ℕ, suc, ◌+◌, ◌*◌, ◌-◌, eqb, leb, ltb, get_or, set, replicate}
use Rattle.numbers.specs.Tests.{any_of}
use Rattle.program.specs.Names.{Name, two_characters}
use Rattle.rows.specs.declared.Row as OfCode
use Rattle.text.specs.Forms.{Line, Blank, Label, Declared, Acts}
use Rattle.text.specs.Faults.{declares_it, makes_cell, makes_label, makes_variable, first_makes, place_of, number_of}

-- Q-3 2: the order of names: by the first character, and by the second where the first is the same.
unfoldable pub lower : Name → Name → Bool
lower v w = ltb (get_or v 0 0) (get_or w 0 0) || (eqb (get_or v 0 0) (get_or w 0 0) && ltb (get_or v 1 0) (get_or w 1 0))

-- Q-3 2: the row of a name: 36 names begin alike, and of these the ones with a digit come first. What is no name of two characters is past the 936 rows.
unfoldable pub second_place : ℕ → ℕ
second_place c = cond (leb c 57) (c - 48) (c - 65 + 10)

unfoldable pub row_of : Name → ℕ
row_of w = cond (two_characters w) ((get_or w 0 0 - 65) * 36 + second_place (get_or w 1 0)) 936

-- What stands in a row: 1 for a label, 2 for a variable, 0 where no line declares the name; the line's number; the cells before a label, the
-- variables before a variable.
abbrev pub Row : Type 0
Row = OfCode.Row

abbrev pub row : ℕ → ℕ → ℕ → Row
row kind line place = record { kind = kind; line = line; place = place }

abbrev pub kind : Row → ℕ
kind r = r.kind

abbrev pub line : Row → ℕ
line r = r.line

abbrev pub place : Row → ℕ
place r = r.place

abbrev pub no_row : Row
no_row = row 0 0 0

-- Looking a name up.
unfoldable pub row_at : List Row → Name → Row
row_at rows w = get_or rows (row_of w) no_row

-- A name goes into its row where nothing stands there yet.
unfoldable pub enter : List Row → Name → Row → List Row
enter rows w r = cond (ltb 0 (kind (row_at rows w))) rows (set rows (row_of w) r)

-- The row that the line with this number makes of the name that it declares, behind so many cells and variables.
unfoldable pub made : ℕ → ℕ → ℕ → Line → Row
made n cells variables Blank = no_row
made n cells variables (Label w) = row 1 n cells
made n cells variables (Declared w z) = row 2 n variables
made n cells variables (Acts s) = no_row

-- That line enters the name, if it declares one.
unfoldable pub entered : ℕ → ℕ → ℕ → Line → List Row → List Row
entered n cells variables Blank rows = rows
entered n cells variables (Label w) rows = enter rows w (made n cells variables (Label w))
entered n cells variables (Declared w z) rows = enter rows w (made n cells variables (Declared w z))
entered n cells variables (Acts s) rows = rows

-- One more where the test holds.
unfoldable pub plus : Bool → ℕ → ℕ
plus b n = cond b (suc n) n

-- Q-3 2: the arrangement of the names that lines declare: one line after the other, from the first.
unfoldable pub arranged_from : ℕ → ℕ → ℕ → List Line → List Row → List Row
arranged_from n cells variables [] rows = rows
arranged_from n cells variables (x ∷ xs) rows =
    arranged_from (suc n) (plus (makes_cell x) cells) (plus (makes_variable x) variables) xs (entered n cells variables x rows)

unfoldable pub arranged : List Line → List Row
arranged text = arranged_from 1 0 0 text (replicate 936 no_row)

-- How many lines stand before the first that declares a name.
unfoldable pub lines_before : List Line → Name → ℕ
lines_before [] w = 0
lines_before (x ∷ xs) w = let more = suc (lines_before xs w) in cond (declares_it w x) 0 more

-- What seeking a name from the front of the lines finds.
pub record Sought (text : List Line) (w : Name) (r : Row) : Type 0 where
  pub label : eqb (kind r) 1 ≡ first_makes makes_label w text
  pub variable : eqb (kind r) 2 ≡ first_makes makes_variable w text
  pub none : eqb (kind r) 0 ≡ not (any_of (declares_it w) text)
  pub first : eqb (kind r) 0 ≡ false → line r ≡ suc (lines_before text w)
  pub placed : eqb (kind r) 1 ≡ true → place r ≡ place_of text w
  pub numbered : eqb (kind r) 2 ≡ true → 32 + place r ≡ number_of text w
