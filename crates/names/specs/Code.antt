-- What the code finds by walking the lines of a text, with names as keys and by their rows. No demand reaches this; proofs/ ties it to the paper's definitions.
-- Assumes nothing.
use Rattle.std.specs.Prelude.{◌≡◌, Bool, false, ◌&&◌, ◌||◌, not, List, [], ◌∷◌, ◌++◌, map, ℕ, ◌+◌, ◌<◌, eqb, leb, ltb, length, Result, Ok, Err}
use Rattle.std.proofs.lemmas.List.Edits.{sets}
use Rattle.numbers.specs.Tests.{lowest}
use Rattle.program.specs.Names.{Name, paper_variable}
use Rattle.program.specs.Variables.{read_only, most_cells, most_labels, most_variables}
use Rattle.program.specs.Code.{name_of}
use Rattle.program.specs.Statements.{Value, Literal, Variable}
use Rattle.program.specs.declared.Cell.{Cell}
use Rattle.program.specs.declared.Operand.{Operand}
use Rattle.program.specs.declared.Operand.TheVariants as O
use Rattle.text.specs.Lines.{lines}
use Rattle.text.specs.Forms.{Line}
use Rattle.text.specs.Faults.{heard, said, faults_from, line_faults, first_fault, how_many, makes_cell, makes_label, makes_variable}
use Rattle.text.specs.declared.Fault.{Fault}
use Rattle.reading.specs.Code.{Reading, fault_number, faulty_by, told_by, in_declared, in_cell, aims_at, in_operand}
use Rattle.reading.specs.declared.Said.{Said}
use Rattle.reading.specs.declared.Said.TheVariants as S
use Rattle.rows.specs.Rows.{Row, row, kind, line, row_at, enter}
use Rattle.names.specs.declared.Counts.{Counts}
use Rattle.names.specs.declared.TextFault.{TextFault}
use Rattle.names.specs.declared.TextFault.TheVariants as F

-- A line that says this, with this number and so many cells and variables before it, enters the name that it declares.
unfoldable pub entered_by : ℕ → ℕ → ℕ → Said → List Row → List Row
entered_by n cells variables S.Blank rows = rows
entered_by n cells variables (S.Label k) rows = enter rows (name_of k) (row 1 n cells)
entered_by n cells variables (S.Declared k z) rows = enter rows (name_of k) (row 2 n variables)
entered_by n cells variables (S.Acts c) rows = rows

-- The keys in a cell are those of names of two characters at most.
abbrev pub KeyOperand : Operand → Type 0
KeyOperand O.Nothing = Unit {0}
KeyOperand (O.Literal z) = Unit {0}
KeyOperand (O.Variable k) = k < 65536

pub record Keyed (c : Cell) : Type 0 where
  pub left : KeyOperand c.left
  pub right : KeyOperand c.right

-- The keys in the cell of a line that was read so.
abbrev pub SaidKeyed : Said → Type 0
SaidKeyed S.Blank = Unit {0}
SaidKeyed (S.Label k) = Unit {0}
SaidKeyed (S.Declared k z) = Unit {0}
SaidKeyed (S.Acts c) = Keyed c

abbrev pub ReadKeyed : Reading → Type 0
ReadKeyed (Ok x) = SaidKeyed x
ReadKeyed (Err e) = Unit {0}

-- The name of a row is first declared as this; by a line before the one with this number.
unfoldable pub first_as : Row → ℕ → Bool
first_as r k = eqb (kind r) k

unfoldable pub earlier : Row → ℕ → Bool
earlier r n = not (eqb (kind r) 0) && ltb (line r) n

-- A cell with keys names what is not first declared so, by the rows of the names.
unfoldable pub unknown_target : List Row → ℕ → Bool
unknown_target rows k = aims_at k && not (first_as (row_at rows (name_of k)) 1)

unfoldable pub unknown_variable_in : List Row → Name → Bool
unknown_variable_in rows w = eqb (paper_variable w) 0 && not (first_as (row_at rows w) 2)

unfoldable pub unknown_value_in : List Row → Value Name → Bool
unknown_value_in rows (Literal z) = false
unknown_value_in rows (Variable w) = unknown_variable_in rows w

unfoldable pub unknown_written : List Row → ℕ → Bool
unknown_written rows k = not (eqb k 0) && unknown_variable_in rows (name_of k)

unfoldable pub unknown_operand : List Row → Operand → Bool
unknown_operand rows o = in_operand (unknown_value_in rows) o

unfoldable pub unknown_cell : List Row → Cell → Bool
unknown_cell rows c =
    unknown_target rows c.target || (unknown_written rows c.written || (unknown_operand rows c.left || unknown_operand rows c.right))

-- A read-only variable is written.
unfoldable pub read_only_key : ℕ → Bool
read_only_key k = not (eqb k 0) && read_only (paper_variable (name_of k))

-- The line with this number declares a name behind a line that does.
unfoldable pub repeated_by : List Row → ℕ → Said → Bool
repeated_by rows n x = in_declared (λ w. earlier (row_at rows w) n) x

-- A line is one too many behind lines with these counts.
unfoldable pub too_many_by : Counts → Said → Bool
too_many_by n S.Blank = false
too_many_by n (S.Label k) = leb most_labels n.labels
too_many_by n (S.Declared k z) = leb most_variables n.variables
too_many_by n (S.Acts c) = leb most_cells n.cells

-- The counts of some lines, and the counts with one more line.
unfoldable pub counts_of : List Line → Counts
counts_of xs = record { cells = how_many makes_cell xs; labels = how_many makes_label xs; variables = how_many makes_variable xs }

unfoldable pub counted : Counts → Said → Counts
counted n S.Blank = n
counted n (S.Label k) = record { cells = n.cells; labels = n.labels + 1; variables = n.variables }
counted n (S.Declared k z) = record { cells = n.cells; labels = n.labels; variables = n.variables + 1 }
counted n (S.Acts c) = record { cells = n.cells + 1; labels = n.labels; variables = n.variables }

-- Each count is below this number.
pub record Below (most : ℕ) (n : Counts) : Type 0 where
  pub cells : n.cells < most
  pub labels : n.labels < most
  pub variables : n.variables < most

-- The number of a fault of a line in its text, and of its lowest, which is 0 where it has none.
unfoldable pub number_of_fault : TextFault → ℕ
number_of_fault (F.Own e) = fault_number e
number_of_fault F.Repeated = 6
number_of_fault F.TooMany = 7
number_of_fault F.Undeclared = 8
number_of_fault F.ReadOnly = 9

unfoldable pub lowest_number : Result Unit TextFault → ℕ
lowest_number (Ok u) = 0
lowest_number (Err e) = number_of_fault e

-- The lowest fault of the line with this number that was read so, behind lines with these counts.
unfoldable pub fault_by : List Row → ℕ → Counts → Reading → ℕ
fault_by rows line n r =
    let x = told_by r in
    faulty_by
    (lowest 6
    (repeated_by rows line x ∷ too_many_by n x ∷ in_cell (unknown_cell rows) x ∷ in_cell (λ c. read_only_key c.written) x ∷ [])) r

-- These lines of a text are passed, so many, with these counts, and those are left.
pub record Reached (s : List ℕ) (before : List (List ℕ)) (n : Counts) (k : ℕ) (rest : List (List ℕ)) : Type 0 where
  pub whole : before ++ rest ≡ lines s
  pub many : length before ≡ k
  pub counts : n ≡ counts_of (map heard before)

-- The lowest fault of each of the lines that are left, behind these.
unfoldable pub faults_on : List ℕ → List (List ℕ) → List (List ℕ) → List ℕ
faults_on s passed rest =
    let text = said s in
    let before = map heard passed in
    map (lowest 2) (faults_from text before rest)

-- So many lines were judged, and their lowest faults stand in the buffer over what that held, as far as there is room.
pub record AllJudged (s : List ℕ) (r : ℕ) (old new : List ℕ) : Type 0 where
  pub count : r ≡ length (line_faults s)
  pub buffer : new ≡ sets old 0 (line_faults s)

-- What surveying a text gives: what its lines make where it has no fault; or its first fault.
pub record Counted (s : List ℕ) (n : Counts) : Type 0 where
  pub clear : (first_fault s).number ≡ 0
  pub counts : n ≡ counts_of (said s)

pub record Faulty (s : List ℕ) (f : Fault) : Type 0 where
  pub first : f ≡ first_fault s
  pub there : f.number ≡ 0 → ⊥

abbrev pub Surveyed : List ℕ → Result Counts Fault → Type 0
Surveyed s (Ok n) = Counted s n
Surveyed s (Err f) = Faulty s f
