-- What the code of a statement reads, of a cell and the variables alone. No demand reaches this; proofs/Statements.antt ties it to `effect`.
-- Assumes nothing.
use Rattle.std.specs.Prelude.{Bool, List, ℕ, ℤ, pos}
use Rattle.program.specs.declared.Cell.{Cell}
use Rattle.program.specs.declared.Operand.{Operand}
use Rattle.program.specs.declared.Operand.TheVariants.{Nothing, Literal, Variable}
use Rattle.program.specs.Cells.{same, value_of, condition_of, statement_of}
use Rattle.effects.specs.declared.Effect.{Effect}
use Rattle.effects.specs.declared.Effect.TheVariants.{Prints}
use Rattle.effects.specs.Effects.{read, value, holds, waiting, holding}
use Rattle.effects.specs.Deeds.{clears, reads_er}

-- The value of an operand, and whether a cell's condition holds: neither asks the places kept or the hold.
abbrev pub seen : List ℤ → Operand → ℤ
seen vars o = value same same vars 0 0 (value_of o)

abbrev pub met : List ℤ → Cell → Bool
met vars c = holds same same vars 0 0 (condition_of c)

-- H and PR, by whether an operand stands there.
unfoldable pub holding_by : Operand → List ℤ → ℕ → Effect
holding_by Nothing vars hold = waiting vars
holding_by (Literal z) vars hold = holding hold z
holding_by (Variable v) vars hold = holding hold (read vars v)

unfoldable pub printing_by : Operand → List ℤ → Effect
printing_by Nothing vars = Prints 0 (pos 0)
printing_by (Literal z) vars = Prints 0 z
printing_by (Variable v) vars = Prints v (read vars v)

-- Whether a cell's statement clears EF, by the effect that was found.
abbrev pub clears_by : Cell → ℕ → Effect → Bool
clears_by c hold does = clears (record { effect = does; reads = reads_er same hold (statement_of c) })
