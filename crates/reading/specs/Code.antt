-- What the code reads of a line, in its own shape. No demand reaches this; proofs/ ties it to the definitions of the paper.
-- Assumes nothing.
use Rattle.std.specs.Prelude.{Bool, false, cond, ◌&&◌, ◌||◌, not, List, [], ◌∷◌, ℕ, zero, suc, eqb, get_or, ℤ, pos, Result, Ok, Err}
use Rattle.std.specs.Result.{result_unwrap_or}
use Rattle.numbers.specs.Tests.{all_of}
use Rattle.program.specs.Names.{Name, reserved}
use Rattle.program.specs.Code.{key, name_of}
use Rattle.program.specs.Cells.{cell, cell_of, no_target, operator_number, comparison_number}
use Rattle.program.specs.Statements.{Literal, Variable}
use Rattle.program.specs.Statements as Paper
use Rattle.program.specs.declared.Cell.{Cell}
use Rattle.program.specs.declared.Operand.{Operand}
use Rattle.program.specs.declared.Operand.TheVariants as O
use Rattle.text.specs.Tokens.{printable, uncommented, tokens}
use Rattle.text.specs.Forms.{Line, Blank, Label, Declared, Acts, Parts}
use Rattle.text.specs.Faults.{long_line, bad_form, big_literal, reserved_name, heard, too_big, big_value}
use Rattle.text.specs.Code.{packed}
use Rattle.forms.specs.Code.{no_match, fill_by, slots_of, parts_of}
use Rattle.text.specs.declared.tokens.Tokens.{Tokens}
use Rattle.reading.specs.declared.Said.{Said}
use Rattle.reading.specs.declared.Said.TheVariants as S
use Rattle.reading.specs.declared.LineFault.{LineFault}
use Rattle.reading.specs.declared.LineFault.TheVariants as E
use Rattle.reading.specs.declared.Says.{Says}
use Rattle.reading.specs.declared.Says.TheVariants as F
use Rattle.reading.specs.declared.cells.Shape.{Shape}
use Rattle.reading.specs.declared.cells.Shape.TheVariants as H

-- What each form says: a label, a variable, or a statement, by its operation and its shape.
unfoldable pub say_table : List Says
say_table =
    F.Label
    ∷ F.Declared
    ∷ F.Declared
    ∷ F.Acts 1 H.One
    ∷ F.Acts 2 H.Two
    ∷ F.Acts 3 H.NoOperand
    ∷ F.Acts 4 H.NoOperand
    ∷ F.Acts 5 H.NoOperand
    ∷ F.Acts 5 H.Two
    ∷ F.Acts 6 H.NoOperand
    ∷ F.Acts 6 H.Two
    ∷ F.Acts 7 H.NoOperand
    ∷ F.Acts 8 H.NoOperand
    ∷ F.Acts 9 H.NoOperand
    ∷ F.Acts 9 H.One
    ∷ F.Acts 10 H.NoOperand
    ∷ F.Acts 10 H.NoTarget
    ∷ F.Acts 11 H.One
    ∷ F.Acts 12 H.One
    ∷ F.Acts 13 H.One
    ∷ F.Acts 14 H.One
    ∷ []

unfoldable pub says_of : ℕ → Says
says_of form = get_or say_table form F.Label

-- A literal that is too big is never put into a cell.
unfoldable pub small_of : ℤ → ℤ
small_of z = cond (too_big z) (pos 0) z

unfoldable pub operand_of : Paper.Value Name → Operand
operand_of (Literal z) = O.Literal (small_of z)
operand_of (Variable w) = O.Variable (key w)

-- The cell of a statement with this operation and shape.
unfoldable pub left_by : Shape → Paper.Value Name → Operand
left_by H.NoOperand x = O.Nothing
left_by H.One x = operand_of x
left_by H.Two x = operand_of x
left_by H.NoTarget x = O.Nothing

unfoldable pub right_by : Shape → Paper.Value Name → Operand
right_by H.NoOperand x = O.Nothing
right_by H.One x = O.Nothing
right_by H.Two x = operand_of x
right_by H.NoTarget x = O.Nothing

unfoldable pub target_by : Shape → ℕ → ℕ
target_by H.NoOperand k = k
target_by H.One k = k
target_by H.Two k = k
target_by H.NoTarget k = no_target

unfoldable pub selector_by : ℕ → Shape → Parts → ℕ
selector_by operation H.NoOperand p = 0
selector_by operation H.One p = 0
selector_by operation H.Two p = cond (eqb operation 2) (operator_number p.operator) (comparison_number p.comparison)
selector_by operation H.NoTarget p = 0

unfoldable pub cell_shaped : ℕ → Shape → Parts → Cell
cell_shaped operation shape p =
    cell operation (key p.written) (selector_by operation shape p) (left_by shape p.left) (right_by shape p.right) (target_by shape (key p.name))

-- The same by the shape's number: 1 one operand, 2 two, 3 no target, any other no operand.
unfoldable pub shape_of : ℕ → Shape
shape_of n = cond (eqb n 1) H.One (cond (eqb n 2) H.Two (cond (eqb n 3) H.NoTarget H.NoOperand))

unfoldable pub cell_by : ℕ → ℕ → Parts → Cell
cell_by operation shape p = cell_shaped operation (shape_of shape) p

-- What reading a line gives: what the line says, or a fault.
abbrev pub Reading : Type 0
Reading = Result Said LineFault

-- The name that parts declare, and what a line says with it; what parts say by their form.
unfoldable pub declared_by : Parts → Result ℕ LineFault
declared_by p = cond (reserved p.name) (Err E.ReservedName) (Ok (key p.name))

unfoldable pub with_name : (ℕ → Said) → Result ℕ LineFault → Reading
with_name says (Ok k) = Ok (says k)
with_name says (Err e) = Err e

unfoldable pub says_by : Says → Parts → Reading
says_by F.Label p = with_name S.Label (declared_by p)
says_by F.Declared p = with_name (λ k. S.Declared k (small_of p.start)) (declared_by p)
says_by (F.Acts operation shape) p = Ok (S.Acts (cell_shaped operation shape p))

unfoldable pub any_big : Parts → Bool
any_big p = (big_value p.left || big_value p.right) || too_big p.start

unfoldable pub parts_by : Says → Parts → Reading
parts_by says p = cond (any_big p) (Err E.BigLiteral) (says_by says p)

unfoldable pub read_parts : ℕ → Parts → Reading
read_parts form p = parts_by (says_of form) p

-- What tokens say by the first of these forms that they fill.
unfoldable pub form_by : List ℕ → Tokens → Reading
form_by [] ts = Err E.BadForm
form_by (f ∷ fs) ts =
    let more = form_by fs ts in
    elim (fill_by (slots_of f) ts.at no_match) [
      | Ok m ↦ cond (eqb m.place ts.count) (read_parts f (parts_of m)) more
      | Err m ↦ more
    ]

unfoldable pub form_numbers : ℕ → ℕ → List ℕ
form_numbers zero n = []
form_numbers (suc k) n = n ∷ form_numbers k (suc n)

unfoldable pub statement_by : Tokens → Reading
statement_by ts = cond (eqb ts.count 0) (Ok S.Blank) (cond (eqb ts.count 9) (Err E.BadForm) (form_by (form_numbers 21 0) ts))

unfoldable pub line_by : List ℕ → Reading
line_by l = cond (long_line l) (Err E.LongLine) (cond (all_of printable l) (statement_by (packed (tokens (uncommented l)))) (Err E.BadForm))

-- What a line says to the code: names are keys.
unfoldable pub said_by : Line → Said
said_by Blank = S.Blank
said_by (Label w) = S.Label (key w)
said_by (Declared w z) = S.Declared (key w) z
said_by (Acts s) = S.Acts (cell_of key key s)

-- What reading a line gives: its lowest fault from 2 to 5, or what it says.
unfoldable pub reading_of : List ℕ → Reading
reading_of l =
    cond (long_line l) (Err E.LongLine)
    (cond (bad_form l) (Err E.BadForm) (cond (big_literal l) (Err E.BigLiteral) (cond (reserved_name l) (Err E.ReservedName) (Ok (said_by (heard l))))))

-- The number of a fault.
unfoldable pub fault_number : LineFault → ℕ
fault_number E.LongLine = 2
fault_number E.BadForm = 3
fault_number E.BigLiteral = 4
fault_number E.ReservedName = 5

-- The number of a fault of a line that was read so, or this number where it has none.
unfoldable pub faulty_by : ℕ → Reading → ℕ
faulty_by n (Ok x) = n
faulty_by n (Err e) = fault_number e

-- What a line that was read so says to others: nothing where it has a fault.
abbrev pub told_by : Reading → Said
told_by r = result_unwrap_or r S.Blank

-- A test of the name that a line declares, and of the cell that it makes, by what it says.
unfoldable pub in_declared : (Name → Bool) → Said → Bool
in_declared P S.Blank = false
in_declared P (S.Label k) = P (name_of k)
in_declared P (S.Declared k z) = P (name_of k)
in_declared P (S.Acts c) = false

unfoldable pub in_cell : (Cell → Bool) → Said → Bool
in_cell P S.Blank = false
in_cell P (S.Label k) = false
in_cell P (S.Declared k z) = false
in_cell P (S.Acts c) = P c

-- A cell whose names are keys: its target is a label's key; a test of an operand that it holds.
abbrev pub aims_at : ℕ → Bool
aims_at k = not (eqb k 0) && not (eqb k no_target)

abbrev pub in_operand : (Paper.Value Name → Bool) → Operand → Bool
in_operand P O.Nothing = false
in_operand P (O.Literal z) = P (Literal z)
in_operand P (O.Variable k) = P (Variable (name_of k))

-- The cell of a statement whose names are keys, with the places and the numbers of the names in their stead.
abbrev pub placed : (Name → ℕ) → ℕ → ℕ
placed place k = cond (aims_at k) (place (name_of k)) k

abbrev pub written : (Name → ℕ) → ℕ → ℕ
written number k = cond (eqb k 0) 0 (number (name_of k))

abbrev pub operand_with : (Name → ℕ) → Operand → Operand
operand_with number O.Nothing = O.Nothing
operand_with number (O.Literal z) = O.Literal z
operand_with number (O.Variable k) = O.Variable (number (name_of k))

abbrev pub resolved : (Name → ℕ) → (Name → ℕ) → Cell → Cell
resolved place number c =
    cell c.operation (written number c.written) c.selector (operand_with number c.left) (operand_with number c.right) (placed place c.target)
