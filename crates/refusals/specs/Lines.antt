-- A line of a text by its number: what it says, and the names that it declares and uses.
-- Assumes nothing.
use Rattle.std.specs.Prelude.{◌≡◌, Bool, true, false, ◌||◌, List, [], ℕ, ◌-◌, ◌≤◌, length, get_or}
use Rattle.std.proofs.Math.Option.{some}
use Rattle.numbers.specs.Tests.{any_of, eq_list}
use Rattle.program.specs.Names.{Name}
use Rattle.program.specs.Statements.{Value, Literal, Variable, Statement, operands, writes, targets}
use Rattle.text.specs.Lines.{lines}
use Rattle.text.specs.Forms.{Line, Acts, reading}
use Rattle.text.specs.Faults.{declares_it}

-- Line l of a text, from 1.
abbrev pub line_at : List ℕ → ℕ → List ℕ
line_at text l = get_or (lines text) (l - 1) []

-- The text has this line, and it has the form of x.
abbrev pub Says : List ℕ → ℕ → Line → Type 0
Says text l x = (1 ≤ l) × (l ≤ length (lines text)) × (reading (line_at text l) ≡ some x)

-- Refusals 5: it is an LB or a VA of the name.
abbrev pub DeclaredAt : List ℕ → ℕ → Name → Type 0
DeclaredAt text l w = (x : Line) × Says text l x × (declares_it w x ≡ true)

-- Refusals 8: a statement names a label, writes a variable or reads one.
unfoldable pub is_name : Name → Value Name → Bool
is_name w (Literal z) = false
is_name w (Variable v) = eq_list w v

unfoldable pub uses : Name → Statement Name → Bool
uses w s = any_of (eq_list w) (targets s) || (any_of (eq_list w) (writes s) || any_of (is_name w) (operands s))

-- It is a statement that uses the name.
abbrev pub UsedAt : List ℕ → ℕ → Name → Type 0
UsedAt text l w = (s : Statement Name) × Says text l (Acts s) × (uses w s ≡ true)
