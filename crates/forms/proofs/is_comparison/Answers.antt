-- `is_comparison` meets its contract: the table holds the signs in the order of their numbers.
-- Assumes nothing.
use mathlib.Core.Path.{sym, ap, ◌∙◌}
use Rattle.numbers.specs.Bytes.{ascii, field, number}
use Rattle.std.specs.Option.{is_some}
use Rattle.program.specs.Code.{name_of, names_of}
use Rattle.program.proofs.Places.{is_placed}
use Rattle.text.specs.Code.{is_comparison}
use Rattle.text.specs.Forms.{comparison_sign}
use Rattle.text.proofs.Signs.{comparison_signs, comparison_placed}
use Rattle.forms.proofs.is_comparison.Goals as goal

pub returns : goal.returns
unfolding is_comparison comparison_signs comparison_sign ascii names_of name_of field number
returns c =
    c.is_some.ensures ∙ ap is_some c.place_in.ensures ∙ is_placed _ ∙ sym (comparison_placed (name_of c.args.key)).sign
