-- `Names::number_of` meets its contract.
-- Assumes nothing.
use native.Mathlib.Omega.{arith}
use Rattle.program.specs.Code.{name_of}
use Rattle.program.proofs.Places.{paper_most}
use Rattle.translation.proofs.Writing.{number_user, number_paper}
use Rattle.translation.proofs.resolving.Names.number_of.Goals as goal

pub returns-then-row-eq-VARIABLE : goal.returns-then-row-eq-VARIABLE
returns-then-row-eq-VARIABLE c = number_user _ _ c.look_up-row.ensures c.if-row-eq-VARIABLE.true

pub overflow_cast-result-2 : goal.overflow_cast-result-2
overflow_cast-result-2 c = omega (arith, c.number_of.ensures, paper_most (name_of c.args.key))

pub returns : goal.returns
returns c = number_paper _ _ c.look_up-row.ensures c.if-row-eq-VARIABLE.false c.number_of.ensures
