-- `operator_sign` meets its contract, sign by sign.
-- Assumes nothing.
use mathlib.Core.Path.{refl}
use Rattle.numbers.specs.Bytes.{ascii}
use Rattle.numbers.proofs.Kit.{tests}
use Rattle.program.specs.Cells.{operator_of}
use Rattle.text.specs.Forms.{operator_sign}
use Rattle.printing.specs.Code.{packed, packed_in, operator_text}
use Rattle.printing.proofs.statements.operator_sign.Goals as goal

pub returns-in-1 : goal.returns-in-1
unfolding packed packed_in operator_text operator_of operator_sign ascii
returns-in-1 c = rw c.in-1.is refl

pub returns-in-2 : goal.returns-in-2
unfolding packed packed_in operator_text operator_of operator_sign ascii
returns-in-2 c = rw c.in-2.is refl

pub returns-in-3 : goal.returns-in-3
unfolding packed packed_in operator_text operator_of operator_sign ascii
returns-in-3 c = rw c.in-3.is refl

pub returns-in-4 : goal.returns-in-4
unfolding packed packed_in operator_text operator_of operator_sign ascii
returns-in-4 c = rw c.in-4.is refl

pub returns-in-5 : goal.returns-in-5
unfolding packed packed_in operator_text operator_of operator_sign ascii
returns-in-5 c = rw c.in-5.is refl

pub returns-in-6 : goal.returns-in-6
unfolding packed packed_in operator_text operator_of operator_sign ascii
returns-in-6 c = rw c.in-6.is refl

pub returns-in_default : goal.returns-in_default
unfolding packed packed_in operator_text operator_of operator_sign ascii
returns-in_default c = search tests
