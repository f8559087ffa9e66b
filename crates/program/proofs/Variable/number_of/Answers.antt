-- `Variable::number_of` meets its contract: the table holds the paper's names in their order.
-- Assumes nothing.
use mathlib.Core.Path.{◌≡◌, sym, ◌∙◌}
use Prim.Native.Nat.{◌+◌}
use native.Mathlib.Omega.{arith}
use Rattle.numbers.specs.Bytes.{ascii, field, number}
use Rattle.program.specs.Names.{variable_names, paper_variable}
use Rattle.program.specs.Code.{name_of, names_of}
use Rattle.program.proofs.Places.{paper_most, placed, not_placed}
use Rattle.program.proofs.Variable.number_of.Goals as goal

-- The place that was found, as a number from 1.
found : (c : goal.In-Some) → c.in-Some.place + 1 ≡ paper_variable (name_of c.args.key)
unfolding paper_variable variable_names ascii names_of name_of field number
found c = placed (sym c.in-Some.is ∙ c.place_in.ensures)

pub overflow_cast-result : goal.overflow_cast-result
overflow_cast-result c = record { fits = omega (arith, found c, paper_most (name_of c.args.key)) }

pub overflow_add-result : goal.overflow_add-result
overflow_add-result c = record { fits = omega (arith, found c, paper_most (name_of c.args.key)) }

pub returns-in-Some : goal.returns-in-Some
returns-in-Some c = found c

pub returns-in-None : goal.returns-in-None
unfolding paper_variable variable_names ascii names_of name_of field number
returns-in-None c = not_placed (sym c.in-None.is ∙ c.place_in.ensures)
