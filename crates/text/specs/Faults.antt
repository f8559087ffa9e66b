-- Document 01, "Refusal numbers": the faults of a text, one test for each row of the table.
-- Assumes nothing.
use Rattle.std.specs.Prelude.{Bool, true, false, cond, ◌&&◌, ◌||◌, not, List, [], ◌∷◌, ◌++◌, map, ℕ, zero, suc, ◌+◌, eqb, leb, ltb, ℤ, length, get_or}
use Rattle.std.proofs.Math.Option.{none, some}
use Rattle.numbers.specs.Tests.{eq_list, any_of, lowest}
use Rattle.program.specs.Names.{Name, paper_variable, reserved}
use Rattle.program.specs.Variables.{in_range, literals, read_only, most_cells, most_labels, most_variables}
use Rattle.program.specs.Statements.{Value, Literal, Variable, Statement, operands, writes, targets}
use Rattle.text.specs.Lines.{lines}
use Rattle.text.specs.Forms.{Line, Blank, Label, Declared, Acts, reading}
use Rattle.text.specs.declared.Fault.{Fault}

-- Refusals 1, Text 1.
unfoldable pub overlong : List ℕ → Bool
overlong text = ltb 16384 (length text)

-- Refusals 2, Text 4: more than 64 bytes.
unfoldable pub long_line : List ℕ → Bool
long_line l = ltb 64 (length l)

-- Refusals 3, Text 10, Text 11: a byte that no line may have, or no form.
unfoldable pub bad_form : List ℕ → Bool
bad_form l = elim (reading l) [ none ↦ true | some x ↦ false ]

unfoldable pub too_big : ℤ → Bool
too_big z = not (in_range literals z)

unfoldable pub big_value : Value Name → Bool
big_value (Literal z) = too_big z
big_value (Variable v) = false

unfoldable pub big_in : Line → Bool
big_in Blank = false
big_in (Label w) = false
big_in (Declared w z) = too_big z
big_in (Acts s) = any_of big_value (operands s)

-- Refusals 4, Text 13: a literal too high or too low.
unfoldable pub big_literal : List ℕ → Bool
big_literal l = elim (reading l) [ none ↦ false | some x ↦ big_in x ]

-- The name that a line declares, as a label or as a variable.
unfoldable pub declares : Line → List Name
declares Blank = []
declares (Label w) = w ∷ []
declares (Declared w z) = w ∷ []
declares (Acts s) = []

-- Refusals 5, Text 12, Q-10 3: a reserved name is declared.
unfoldable pub reserved_name : List ℕ → Bool
reserved_name l = elim (reading l) [ none ↦ false | some x ↦ any_of reserved (declares x) ]

-- Refusals 21: what a line says to others: nothing where it has one of the faults 2 to 5.
unfoldable pub heard : List ℕ → Line
heard l =
    cond (long_line l || (bad_form l || (big_literal l || reserved_name l))) Blank
    (elim (reading l) [ none ↦ Blank | some x ↦ x ])

-- What a line makes.
unfoldable pub makes_cell : Line → Bool
makes_cell Blank = false
makes_cell (Label w) = false
makes_cell (Declared w z) = false
makes_cell (Acts s) = true

unfoldable pub makes_label : Line → Bool
makes_label Blank = false
makes_label (Label w) = true
makes_label (Declared w z) = false
makes_label (Acts s) = false

unfoldable pub makes_variable : Line → Bool
makes_variable Blank = false
makes_variable (Label w) = false
makes_variable (Declared w z) = true
makes_variable (Acts s) = false

-- How many of the lines pass the test.
unfoldable pub how_many : (Line → Bool) → List Line → ℕ
how_many p [] = 0
how_many p (x ∷ xs) = let n = how_many p xs in cond (p x) (suc n) n

unfoldable pub declares_it : Name → Line → Bool
declares_it w x = any_of (eq_list w) (declares x)

-- Refusals 6: a name that a line before declares.
unfoldable pub repeated : List Line → Line → Bool
repeated before x = any_of (λ w. any_of (declares_it w) before) (declares x)

-- Refusals 7, Variables 5: one cell, label or variable over the limit.
unfoldable pub too_many : List Line → Line → Bool
too_many before x =
    (makes_cell x && leb most_cells (how_many makes_cell before))
    || ((makes_label x && leb most_labels (how_many makes_label before))
    || (makes_variable x && leb most_variables (how_many makes_variable before)))

-- Refusals 8: the first line that declares the name makes what is asked for.
unfoldable pub first_makes : (Line → Bool) → Name → List Line → Bool
first_makes p w [] = false
first_makes p w (x ∷ xs) = let more = first_makes p w xs in cond (declares_it w x) (p x) more

unfoldable pub unknown_variable : List Line → Name → Bool
unknown_variable text v = eqb (paper_variable v) 0 && not (first_makes makes_variable v text)

unfoldable pub unknown_value : List Line → Value Name → Bool
unknown_value text (Literal z) = false
unknown_value text (Variable v) = unknown_variable text v

unfoldable pub unknown_in : List Line → Statement Name → Bool
unknown_in text s =
    any_of (λ n. not (first_makes makes_label n text)) (targets s)
    || (any_of (unknown_variable text) (writes s) || any_of (unknown_value text) (operands s))

-- Refusals 8: a name with no declaration, or whose first is of another kind.
unfoldable pub undeclared : List Line → Line → Bool
undeclared text Blank = false
undeclared text (Label w) = false
undeclared text (Declared w z) = false
undeclared text (Acts s) = unknown_in text s

-- Refusals 9: a store to a variable that can only be read.
unfoldable pub read_only_written : Line → Bool
read_only_written Blank = false
read_only_written (Label w) = false
read_only_written (Declared w z) = false
read_only_written (Acts s) = any_of (λ v. read_only (paper_variable v)) (writes s)

-- The rows 2 to 9 for a line l of a text, with what the whole text says and what the lines before l say.
unfoldable pub faults : List Line → List Line → List ℕ → List Bool
faults text before l =
    long_line l ∷ bad_form l ∷ big_literal l ∷ reserved_name l
    ∷ repeated before (heard l) ∷ too_many before (heard l) ∷ undeclared text (heard l) ∷ read_only_written (heard l) ∷ []

-- These rows for one line after the other, behind lines that say what `before` says.
unfoldable pub faults_from : List Line → List Line → List (List ℕ) → List (List Bool)
faults_from text before [] = []
faults_from text before (l ∷ ls) = faults text before l ∷ faults_from text (before ++ (heard l ∷ [])) ls

-- What the lines of a text say; the rows 2 to 9 for each line of a text.
unfoldable pub said : List ℕ → List Line
said text = map heard (lines text)

unfoldable pub text_faults : List ℕ → List (List Bool)
text_faults text = faults_from (said text) [] (lines text)

-- Refusals 2 to 9: the rows of line l, from 1; a line that the text does not have has none.
unfoldable pub faults_of : List ℕ → ℕ → List Bool
faults_of text zero = []
faults_of text (suc k) = get_or (text_faults text) k []

-- Refusals 2 to 9, Refusals 20: the lowest fault of each line of a text, one number a line; 0 where a line has none.
unfoldable pub line_faults : List ℕ → List ℕ
line_faults text = map (lowest 2) (text_faults text)

abbrev pub fault : ℕ → ℕ → Fault
fault number line = record { number = number; line = line }

-- Refusals 20: the first line with a fault and its lowest number, where the first of these lines has the number `line`; 0 and 0 where there is none.
unfoldable pub first_from : ℕ → List (List Bool) → Fault
first_from line [] = fault 0 0
first_from line (rows ∷ more) =
    let n = lowest 2 rows in
    let later = first_from (suc line) more in
    cond (eqb n 0) later (fault n line)

unfoldable pub first_fault : List ℕ → Fault
first_fault text = first_from 1 (text_faults text)

-- Text 9, Image 9: the place of a label, which counts the cells of the lines above its own.
unfoldable pub place_of : List Line → Name → ℕ
place_of [] w = 0
place_of (x ∷ xs) w =
    let more = place_of xs w in
    cond (declares_it w x) 0 (cond (makes_cell x) (suc more) more)

-- Variables 1: among the user's variables, how many stand before this one.
unfoldable pub rank_of : List Line → Name → ℕ
rank_of [] w = 0
rank_of (x ∷ xs) w =
    let more = rank_of xs w in
    cond (declares_it w x) 0 (cond (makes_variable x) (suc more) more)

-- Variables 1: the number of a variable, the paper's or the user's.
unfoldable pub number_of : List Line → Name → ℕ
number_of text w = cond (eqb (paper_variable w) 0) (32 + rank_of text w) (paper_variable w)
