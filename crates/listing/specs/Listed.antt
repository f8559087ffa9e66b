-- The lines that an image stands for, by what each of them says: the listing of the image, read as a text, must say just these.
-- Assumes nothing.
use Rattle.std.specs.Prelude.{cond, ℕ, eqb}
use mathlib.Core.List.{List, [], ◌∷◌, ◌++◌, flat_map}
use Rattle.numbers.specs.Tests.{listed}
use Rattle.program.specs.Names.{Name}
use Rattle.program.specs.Statements.{Value, Literal, Variable, Condition, Always, Compare, Statement, Set, SetWith, IC, DC, BR, CL, RT, E, H, Hold, OE, Disarm, MA, MR, SL, PR}
use Rattle.program.specs.Cells.{statement_of}
use Rattle.text.specs.Forms.{Line, Label, Declared, Acts}
use Rattle.image.specs.Layout.{cell_count, label_count, variable_count, cell_at, label_place, label_target, variable_place, start_value, name_at}
use Rattle.printing.specs.Listing.{variable_name, label_name}

-- An operand with the name of its variable in place of the number.
unfoldable pub value_named : List ℕ → Value ℕ → Value Name
value_named s (Literal z) = Literal z
value_named s (Variable v) = Variable (variable_name s v)

-- A condition with names.
unfoldable pub condition_named : List ℕ → Condition ℕ → Condition Name
condition_named s Always = Always
condition_named s (Compare x c y) = Compare (value_named s x) c (value_named s y)

-- A statement with the names that the listing prints: of each variable its own, of each target its first label's.
unfoldable pub statement_named : List ℕ → Statement ℕ → Statement Name
statement_named s (Set v x) = Set (variable_name s v) (value_named s x)
statement_named s (SetWith v x o y) = SetWith (variable_name s v) (value_named s x) o (value_named s y)
statement_named s (IC v) = IC (variable_name s v)
statement_named s (DC v) = DC (variable_name s v)
statement_named s (BR n c) = BR (label_name s n) (condition_named s c)
statement_named s (CL n c) = CL (label_name s n) (condition_named s c)
statement_named s RT = RT
statement_named s E = E
statement_named s H = H
statement_named s (Hold x) = Hold (value_named s x)
statement_named s (OE n) = OE (label_name s n)
statement_named s Disarm = Disarm
statement_named s (MA x) = MA (value_named s x)
statement_named s (MR x) = MR (value_named s x)
statement_named s (SL x) = SL (value_named s x)
statement_named s (PR x) = PR (value_named s x)

-- A variable record declares its name with its start value.
unfoldable pub variable_says : List ℕ → ℕ → Line
variable_says s k = Declared (name_at s (variable_place s k)) (start_value s k)

-- Label record k declares its name, where this is its target.
unfoldable pub label_says : List ℕ → ℕ → ℕ → List Line
label_says s target k = cond (eqb (label_target s k) target) (Label (name_at s (label_place s k)) ∷ []) []

-- All labels with this target, in order.
unfoldable pub labels_say : List ℕ → ℕ → List Line
labels_say s target = flat_map (label_says s target) (listed 0 (label_count s) (λ k. k))

-- The labels of a cell, and then its statement.
unfoldable pub cell_says : List ℕ → ℕ → List Line
cell_says s k = labels_say s k ++ (Acts (statement_named s (statement_of (cell_at s k))) ∷ [])

-- The lines of an image: its variables, its cells with their labels, and the labels behind the last cell.
unfoldable pub listed_lines : List ℕ → List Line
listed_lines s =
    listed 0 (variable_count s) (variable_says s)
    ++ (flat_map (cell_says s) (listed 0 (cell_count s) (λ k. k)) ++ labels_say s (cell_count s))
