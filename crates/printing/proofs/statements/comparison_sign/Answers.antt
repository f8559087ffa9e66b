-- `comparison_sign` meets its contract, sign by sign.
-- Assumes nothing.
use mathlib.Core.Path.{◌≡◌, refl}
use mathlib.Core.List.{[], ◌∷◌}
use lib.Dec.{lit<}
use Rattle.numbers.specs.Bytes.{ascii, number}
use Rattle.numbers.proofs.Kit.{tests}
use Rattle.program.specs.Cells.{comparison_of}
use Rattle.text.specs.Forms.{comparison_sign}
use Rattle.printing.specs.Code.{packed, packed_in, comparison_text}
use Rattle.printing.proofs.Packed.{packed_two}
use Rattle.printing.proofs.statements.comparison_sign.Goals as goal

at_least : packed 15678 ≡ 62 ∷ 61 ∷ []
unfolding number
at_least = packed_two 62 61 (lit< tt, lit< tt) (lit< tt, lit< tt)

pub returns-in-0 : goal.returns-in-0
unfolding packed packed_in comparison_text comparison_of comparison_sign ascii
returns-in-0 c = rw c.in-0.is refl

pub returns-in-1 : goal.returns-in-1
unfolding packed packed_in comparison_text comparison_of comparison_sign ascii
returns-in-1 c = rw c.in-1.is refl

pub returns-in-2 : goal.returns-in-2
unfolding number comparison_text comparison_of comparison_sign ascii
returns-in-2 c = rw c.in-2.is (packed_two 60 62 (lit< tt, lit< tt) (lit< tt, lit< tt))

pub returns-in-3 : goal.returns-in-3
unfolding packed packed_in comparison_text comparison_of comparison_sign ascii
returns-in-3 c = rw c.in-3.is refl

pub returns-in-4 : goal.returns-in-4
unfolding number comparison_text comparison_of comparison_sign ascii
returns-in-4 c = rw c.in-4.is (packed_two 60 61 (lit< tt, lit< tt) (lit< tt, lit< tt))

pub returns-in-5 : goal.returns-in-5
unfolding packed packed_in comparison_text comparison_of comparison_sign ascii
returns-in-5 c = rw c.in-5.is refl

pub returns-in_default : goal.returns-in_default
unfolding comparison_text comparison_of comparison_sign ascii
returns-in_default c = rw at_least (search tests)
