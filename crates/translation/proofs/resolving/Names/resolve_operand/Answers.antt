-- `Names::resolve_operand` meets its contract.
-- Assumes nothing.
use mathlib.Core.Path.{ap}
use native.Mathlib.Omega.{arith}
use Rattle.program.specs.declared.Operand.TheVariants as O
use Rattle.names.proofs.Asking.{keyed_variable}
use borrow.Author.Rules.{rules}
use Rattle.translation.proofs.resolving.Names.resolve_operand.Goals as goal

pub overflow_cast-key : goal.overflow_cast-key
overflow_cast-key c = omega (arith, keyed_variable _ _ c.in-Variable.is c.requires)

pub returns-in-Literal : goal.returns-in-Literal
returns-in-Literal c = rw c.in-Literal.is (ap O.Literal (search rules))

pub returns-in-Variable : goal.returns-in-Variable
returns-in-Variable c = rw c.in-Variable.is (ap O.Variable c.number_of.ensures)
