-- Document 02, Q-1: the listing of an image. It is also the text that demand 2 asks for every accepted image.
-- Assumes nothing.
use Rattle.std.specs.Prelude.{cond, ℕ, zero, suc, ◌+◌, ◌-◌, ◌/◌, ◌%◌, ◌^◌, eqb, ltb, ℤ, pos, negsuc, get_or}
use mathlib.Core.List.{List, [], ◌∷◌, ◌++◌, flat_map}
use Rattle.numbers.specs.Bytes.{ascii}
use Rattle.numbers.specs.Tests.{first_below, listed}
use Rattle.program.specs.Names.{Name, variable_names}
use Rattle.program.specs.Statements.{Value, Literal, Variable, Condition, Always, Compare, Statement, Set, SetWith, IC, DC, BR, CL, RT, E, H, Hold, OE, Disarm, MA, MR, SL, PR}
use Rattle.program.specs.Cells.{statement_of}
use Rattle.text.specs.Forms.{operator_sign, comparison_sign}
use Rattle.image.specs.Layout.{cell_count, label_count, variable_count, cell_at, label_place, label_target, variable_place, start_value, name_at}

-- Q-1 2, numbers: n in w decimal digits.
unfoldable pub printed : ℕ → ℕ → List ℕ
printed zero n = []
printed (suc w) n = printed w (n / 10) ++ ((48 + n % 10) ∷ [])

-- Q-1 2, numbers: how many digits a literal has with none wasted, at most ten.
unfoldable pub width : ℕ → ℕ
width n = suc (first_below 9 (λ k. ltb n (10 ^ suc k)))

-- Q-1 2, numbers: a literal is its digits, and below 0 a minus in front of them.
unfoldable pub plain : ℤ → List ℕ
plain (pos n) = printed (width n) n
plain (negsuc n) = ascii "-" ++ printed (width (suc n)) (suc n)

-- Q-1 2, names: a variable of the paper's has the paper's name, one of the user's that of its record.
unfoldable pub variable_name : List ℕ → ℕ → Name
variable_name s v = cond (ltb v 32) (get_or variable_names (v - 1) []) (name_at s (variable_place s (v - 32)))

-- Q-1 2, names: of the labels that lead to a target, a jump names the one whose record comes first.
unfoldable pub label_name : List ℕ → ℕ → Name
label_name s target = name_at s (label_place s (first_below (label_count s) (λ k. eqb (label_target s k) target)))

unfoldable pub value_text : List ℕ → Value ℕ → List ℕ
value_text s (Literal z) = plain z
value_text s (Variable v) = variable_name s v

unfoldable pub condition_text : List ℕ → Condition ℕ → List ℕ
condition_text s Always = []
condition_text s (Compare x c y) = ascii "," ++ (value_text s x ++ (comparison_sign c ++ value_text s y))

-- Q-1 2, spaces: a statement has one where something stands behind its mnemonic, and nowhere else.
unfoldable pub statement_text : List ℕ → Statement ℕ → List ℕ
statement_text s (Set v x) = variable_name s v ++ (ascii "=" ++ value_text s x)
statement_text s (SetWith v x o y) = variable_name s v ++ (ascii "=" ++ (value_text s x ++ (operator_sign o ++ value_text s y)))
statement_text s (IC v) = ascii "IC " ++ variable_name s v
statement_text s (DC v) = ascii "DC " ++ variable_name s v
statement_text s (BR n c) = ascii "BR " ++ (label_name s n ++ condition_text s c)
statement_text s (CL n c) = ascii "CL " ++ (label_name s n ++ condition_text s c)
statement_text s RT = ascii "RT"
statement_text s E = ascii "E"
statement_text s H = ascii "H"
statement_text s (Hold x) = ascii "H " ++ value_text s x
statement_text s (OE n) = ascii "OE " ++ label_name s n
statement_text s Disarm = ascii "OE 0"
statement_text s (MA x) = ascii "MA " ++ value_text s x
statement_text s (MR x) = ascii "MR " ++ value_text s x
statement_text s (SL x) = ascii "SL " ++ value_text s x
statement_text s (PR x) = ascii "PR " ++ value_text s x

-- Q-1 2, line ends: each line has its LF, the last too.
unfoldable pub line : List ℕ → List ℕ
line l = l ++ (10 ∷ [])

-- Q-1 2, variables: the line of a record has its start value, be it 0.
unfoldable pub variable_line : List ℕ → ℕ → List ℕ
variable_line s k = line (ascii "VA " ++ (name_at s (variable_place s k) ++ (ascii "=" ++ plain (start_value s k))))

-- Q-1 2, labels: record k has a line before the cell that it leads to; the lines before one cell follow the records' order.
unfoldable pub label_line : List ℕ → ℕ → ℕ → List ℕ
label_line s target k = cond (eqb (label_target s k) target) (line (ascii "LB " ++ name_at s (label_place s k))) []

unfoldable pub label_lines : List ℕ → ℕ → List ℕ
label_lines s target = flat_map (label_line s target) (listed 0 (label_count s) (λ k. k))

-- Q-1 2, cells: each has a line with its statement, right below the lines of its labels.
unfoldable pub cell_lines : List ℕ → ℕ → List ℕ
cell_lines s k = label_lines s k ++ line (statement_text s (statement_of (cell_at s k)))

-- Q-1 2, the whole: the variables on top, in the order of their records; then the cells with their labels; then the labels that lead behind the last cell.
unfoldable pub listing : List ℕ → List ℕ
listing s =
    flat_map (variable_line s) (listed 0 (variable_count s) (λ k. k))
    ++ (flat_map (cell_lines s) (listed 0 (cell_count s) (λ k. k)) ++ label_lines s (cell_count s))
