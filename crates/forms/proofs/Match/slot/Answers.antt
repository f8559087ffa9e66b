-- `Match::slot` meets its contract.
-- Assumes nothing.
use Rattle.forms.specs.Code.{slot_by}
use Rattle.forms.proofs.Matching.{literal_used, operand_used, found_small}
use Rattle.forms.proofs.Match.slot.Goals as goal

pub returns-in_default : goal.returns-in_default
unfolding slot_by
returns-in_default c = rw (c.in-Left.is, ← c.operand.ensures, c.in_default.is)

pub onward-requires : goal.onward-requires
onward-requires c = (c.requires, found_small (operand_used c.args.t c.args.u) c.operand.ensures c.in-Some.is)

pub returns-in-Some : goal.returns-in-Some
unfolding slot_by
returns-in-Some c = rw (c.in-Left.is, c.onward.ensures, ← c.operand.ensures, c.in-Some.is)

pub returns-in_default-operand : goal.returns-in_default-operand
unfolding slot_by
returns-in_default-operand c = rw (c.in-Right.is, ← c.operand-in-Right.ensures, c.in_default-operand.is)

pub onward-requires-in-Right : goal.onward-requires-in-Right
onward-requires-in-Right c = (c.requires, found_small (operand_used c.args.t c.args.u) c.operand-in-Right.ensures c.in-Some-operand.is)

pub returns-in-Some-operand : goal.returns-in-Some-operand
unfolding slot_by
returns-in-Some-operand c = rw (c.in-Right.is, c.onward-in-Right.ensures, ← c.operand-in-Right.ensures, c.in-Some-operand.is)

pub returns-in_default-literal : goal.returns-in_default-literal
unfolding slot_by
returns-in_default-literal c = rw (c.in-Start.is, ← c.literal.ensures, c.in_default-literal.is)

pub onward-requires-in-Start : goal.onward-requires-in-Start
onward-requires-in-Start c = (c.requires, found_small (literal_used c.args.t c.args.u) c.literal.ensures c.in-Some-literal.is)

pub returns-in-Some-literal : goal.returns-in-Some-literal
unfolding slot_by
returns-in-Some-literal c = rw (c.in-Start.is, c.onward-in-Start.ensures, ← c.literal.ensures, c.in-Some-literal.is)

pub returns-in-Is : goal.returns-in-Is
unfolding slot_by
returns-in-Is c = rw (c.in-Is.is, c.word.ensures)

pub returns-in-New : goal.returns-in-New
unfolding slot_by
returns-in-New c = rw (c.in-New.is, c.word-in-New.ensures, c.has_two_characters.ensures)

pub returns-in-Target : goal.returns-in-Target
unfolding slot_by
returns-in-Target c = rw (c.in-Target.is, c.word-in-Target.ensures, c.is_user_name.ensures)

pub returns-in-Written : goal.returns-in-Written
unfolding slot_by
returns-in-Written c = rw (c.in-Written.is, c.word-in-Written.ensures, c.is_variable.ensures)

pub returns-in-Operator : goal.returns-in-Operator
unfolding slot_by
returns-in-Operator c = rw (c.in-Operator.is, c.word-in-Operator.ensures, c.is_operator.ensures)

pub returns-in-Comparison : goal.returns-in-Comparison
unfolding slot_by
returns-in-Comparison c = rw (c.in-Comparison.is, c.word-in-Comparison.ensures, c.is_comparison.ensures)

pub returns-in-End : goal.returns-in-End
unfolding slot_by
returns-in-End c = rw c.in-End.is
