-- `operand` meets its contract.
-- Assumes nothing.
use Rattle.forms.proofs.Matching.{operand_literal, operand_variable}
use Rattle.forms.proofs.operand.Goals as goal

pub returns-in-Some : goal.returns-in-Some
returns-in-Some c = operand_literal c.args.t c.args.u c.literal.ensures c.in-Some.is

pub returns-in-None : goal.returns-in-None
returns-in-None c = operand_variable c.args.t c.args.u c.literal.ensures c.in-None.is c.variable.ensures
