-- `read` meets its contract.
-- Assumes nothing.
use mathlib.Core.Path.{◌≡◌, refl, sym, ◌∙◌}
use denote.Enum.Declared.{tag_of}
use Rattle.numbers.proofs.Kit.{fit32, back32}
use Rattle.std.proofs.lemmas.Result.{err_from_is_err_and}
use Rattle.forms.specs.Code.{parts_of}
use Rattle.reading.specs.Code.{with_name, shape_of, cell_by}
use Rattle.reading.specs.contracts.cells.Shape.{the_type}
use Rattle.reading.specs.declared.cells.Shape.{Shape}
use Rattle.reading.specs.declared.cells.Shape.TheVariants as H
use Rattle.reading.proofs.Parts.{read_big, read_acts, read_label, read_declared}
use Rattle.reading.proofs.read.Goals as goal

pub returns-then-has_big : goal.returns-then-has_big
returns-then-has_big c =
    let a = c.args in
    read_big a.form (parts_of a.parts) (sym c.has_big.ensures ∙ c.if-has_big.true)

pub returns-in_err-declared-in-Label : goal.returns-in_err-declared-in-Label
unfolding with_name
returns-in_err-declared-in-Label c =
    let a = c.args in
    let p = err_from_is_err_and c.from_residual.result c.from_residual.ensures.1 in
    let small = sym c.has_big.ensures ∙ c.if-has_big.false in
    let here = sym c.says_of-says.ensures ∙ c.in-Label.is in
    rw (p.1, p.2) (read_label a.form (parts_of a.parts) small here (sym c.in_err-declared-in-Label.was ∙ c.declared.ensures))

pub returns-in_err-declared-in-Declared : goal.returns-in_err-declared-in-Declared
unfolding with_name
returns-in_err-declared-in-Declared c =
    let a = c.args in
    let p = err_from_is_err_and c.from_residual-in_err-declared-in-Declared.result c.from_residual-in_err-declared-in-Declared.ensures.1 in
    let small = sym c.has_big.ensures ∙ c.if-has_big.false in
    let here = sym c.says_of-says.ensures ∙ c.in-Declared.is in
    rw (p.1, p.2) (read_declared a.form (parts_of a.parts) small here (sym c.in_err-declared-in-Declared.was ∙ c.declared-in-Declared.ensures) refl)

pub returns-in_ok-declared-in-Label : goal.returns-in_ok-declared-in-Label
unfolding with_name
returns-in_ok-declared-in-Label c =
    let a = c.args in
    let small = sym c.has_big.ensures ∙ c.if-has_big.false in
    let here = sym c.says_of-says.ensures ∙ c.in-Label.is in
    read_label a.form (parts_of a.parts) small here (sym c.in_ok-declared-in-Label.was ∙ c.declared.ensures)

pub returns-in_ok-declared-in-Declared : goal.returns-in_ok-declared-in-Declared
unfolding with_name
returns-in_ok-declared-in-Declared c =
    let a = c.args in
    let small = sym c.has_big.ensures ∙ c.if-has_big.false in
    let here = sym c.says_of-says.ensures ∙ c.in-Declared.is in
    read_declared a.form (parts_of a.parts) small here (sym c.in_ok-declared-in-Declared.was ∙ c.declared-in-Declared.ensures)
    (back32 (fit32 _ c.start_value.type_inv) ∙ c.start_value.ensures)

-- A shape is that of its number.
numbered : (h : Shape) → shape_of (tag_of the_type h) ≡ h
unfolding shape_of
numbered H.NoOperand = refl
numbered H.One = refl
numbered H.Two = refl
numbered H.NoTarget = refl

pub returns-in-Acts : goal.returns-in-Acts
unfolding cell_by
returns-in-Acts c =
    let a = c.args in
    let small = sym c.has_big.ensures ∙ c.if-has_big.false in
    let here = sym c.says_of-says.ensures ∙ c.in-Acts.is in
    read_acts a.form (parts_of a.parts) small here (rw (← numbered c.in-Acts.shape) c.cell.ensures)
