-- `is_unknown_operand` meets its contract.
-- Assumes nothing.
use native.Mathlib.Omega.{arith}
use Rattle.names.specs.Code.{unknown_operand, unknown_value_in}
use Rattle.names.proofs.Asking.{keyed_variable}
use Rattle.names.proofs.is_unknown_operand.Goals as goal

pub overflow_cast-key : goal.overflow_cast-key
overflow_cast-key c = omega (arith, keyed_variable _ _ c.in-Variable.is c.requires)

pub returns-in-Nothing : goal.returns-in-Nothing
unfolding unknown_operand
returns-in-Nothing c = rw c.in-Nothing.is

pub returns-in-Literal : goal.returns-in-Literal
unfolding unknown_operand unknown_value_in
returns-in-Literal c = rw c.in-Literal.is

pub returns-in-Variable : goal.returns-in-Variable
unfolding unknown_operand unknown_value_in
returns-in-Variable c = rw c.in-Variable.is c.is_unknown_variable.ensures
