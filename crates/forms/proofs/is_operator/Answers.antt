-- `is_operator` meets its contract: the table holds the signs in the order of their numbers.
-- Assumes nothing.
use mathlib.Core.Path.{sym, ap, ◌∙◌}
use Rattle.numbers.specs.Bytes.{ascii, field, number}
use Rattle.std.specs.Option.{is_some}
use Rattle.program.specs.Code.{name_of, names_of}
use Rattle.program.proofs.Places.{is_placed}
use Rattle.text.specs.Code.{is_operator}
use Rattle.text.specs.Forms.{operator_sign}
use Rattle.text.proofs.Signs.{operator_signs, operator_placed}
use Rattle.forms.proofs.is_operator.Goals as goal

pub returns : goal.returns
unfolding is_operator operator_signs operator_sign ascii names_of name_of field number
returns c =
    c.is_some.ensures ∙ ap is_some c.place_in.ensures ∙ is_placed _ ∙ sym (operator_placed (name_of c.args.key)).sign
