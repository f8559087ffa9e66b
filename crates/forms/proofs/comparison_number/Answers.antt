-- `comparison_number` meets its contract: the table holds the signs in the order of their numbers.
-- Assumes nothing.
use mathlib.Core.Path.{◌≡◌, refl, sym, ◌∙◌}
use Prim.Native.Nat.{◌+◌}
use native.Mathlib.Omega.{arith}
use Rattle.numbers.specs.Bytes.{ascii, field, number}
use Rattle.numbers.specs.Tests.{numbered}
use Rattle.program.specs.Cells.{comparison_number}
use Rattle.program.specs.Code.{name_of, names_of}
use Rattle.program.proofs.Places.{numbered_most, placed, not_placed}
use Rattle.forms.specs.Code.{comparison_by}
use Rattle.text.specs.Forms.{comparison_sign}
use Rattle.text.proofs.Signs.{comparison_signs, comparison_placed, none_found, sign_found}
use Rattle.forms.proofs.comparison_number.Goals as goal

-- The place that was found, as a number from 1.
found : (c : goal.In-Some) → c.in-Some.place + 1 ≡ numbered comparison_signs (name_of c.args.key)
unfolding comparison_signs comparison_sign ascii names_of name_of field number
found c = placed (sym c.in-Some.is ∙ c.place_in.ensures)

pub overflow_cast-result : goal.overflow_cast-result
unfolding comparison_signs
overflow_cast-result c = record { fits = omega (arith, found c, numbered_most comparison_signs (name_of c.args.key)) }

pub overflow_add-result : goal.overflow_add-result
unfolding comparison_signs
overflow_add-result c = record { fits = omega (arith, found c, numbered_most comparison_signs (name_of c.args.key)) }

pub returns-in-Some : goal.returns-in-Some
unfolding comparison_by
returns-in-Some c = sign_found (comparison_placed (name_of _)) (found c) (omega arith)

pub returns-in-None : goal.returns-in-None
unfolding comparison_by comparison_number comparison_signs comparison_sign ascii names_of name_of field number
returns-in-None c =
    let at : 0 ≡ numbered comparison_signs (name_of c.args.key) = not_placed (sym c.in-None.is ∙ c.place_in.ensures) in
    none_found (comparison_placed (name_of _)) at refl
