-- `line_fault` meets its contract: the tests in the order of their numbers.
-- Assumes nothing.
use mathlib.Core.Path.{refl, sym, ◌∙◌}
use mathlib.Core.Bool.{true, false}
use Rattle.std.proofs.lemmas.Result.{err_from_is_err_and}
use Rattle.numbers.specs.Tests.{lowest}
use Rattle.names.specs.Code.{lowest_number, number_of_fault}
use Rattle.names.proofs.Asking.{fault_own, fault_lowest, fault_blank, fault_acts, cell_keyed}
use Rattle.names.proofs.line_fault.Goals as goal

pub returns-in_err-said : goal.returns-in_err-said
returns-in_err-said c =
    let a = c.args in
    let p = err_from_is_err_and c.from_residual.result c.from_residual.ensures.1 in
    fault_own a.rows.now a.line a.counts c.in_err-said.was (p.1 ∙ rw p.2)

pub returns-then-is_repeated : goal.returns-then-is_repeated
unfolding lowest lowest_number number_of_fault
returns-then-is_repeated c =
    let a = c.args in
    fault_lowest a.rows.now a.line a.counts c.in_ok-said.was true _ _ _ (sym c.is_repeated.ensures ∙ c.if-is_repeated.true) refl refl refl

pub returns-then-is_too_many : goal.returns-then-is_too_many
unfolding lowest lowest_number number_of_fault
returns-then-is_too_many c =
    let a = c.args in
    fault_lowest a.rows.now a.line a.counts c.in_ok-said.was false true _ _ (sym c.is_repeated.ensures ∙ c.if-is_repeated.false)
    (sym c.is_too_many.ensures ∙ c.if-is_too_many.true) refl refl

pub returns-in_default : goal.returns-in_default
unfolding lowest_number
returns-in_default c =
    let a = c.args in
    fault_blank a.rows.now a.line a.counts c.in_ok-said.was (sym c.is_repeated.ensures ∙ c.if-is_repeated.false) (sym c.is_too_many.ensures ∙ c.if-is_too_many.false)
    c.in_default.not-Acts

pub is_undeclared-requires : goal.is_undeclared-requires
is_undeclared-requires c = cell_keyed c.requires c.in_ok-said.was c.in-Acts.is

pub returns-then-is_undeclared : goal.returns-then-is_undeclared
unfolding lowest lowest_number number_of_fault
returns-then-is_undeclared c =
    let a = c.args in
    fault_acts a.rows.now a.line a.counts c.in_ok-said.was true _ c.in-Acts.is (sym c.is_repeated.ensures ∙ c.if-is_repeated.false)
    (sym c.is_too_many.ensures ∙ c.if-is_too_many.false) (sym c.is_undeclared.ensures ∙ c.if-is_undeclared.true) refl

pub returns-then-writes_read_only : goal.returns-then-writes_read_only
unfolding lowest lowest_number number_of_fault
returns-then-writes_read_only c =
    let a = c.args in
    fault_acts a.rows.now a.line a.counts c.in_ok-said.was false true c.in-Acts.is (sym c.is_repeated.ensures ∙ c.if-is_repeated.false)
    (sym c.is_too_many.ensures ∙ c.if-is_too_many.false) (sym c.is_undeclared.ensures ∙ c.if-is_undeclared.false) (sym c.writes_read_only.ensures ∙ c.if-writes_read_only.true)

pub returns : goal.returns
unfolding lowest lowest_number
returns c =
    let a = c.args in
    fault_acts a.rows.now a.line a.counts c.in_ok-said.was false false c.in-Acts.is (sym c.is_repeated.ensures ∙ c.if-is_repeated.false)
    (sym c.is_too_many.ensures ∙ c.if-is_too_many.false) (sym c.is_undeclared.ensures ∙ c.if-is_undeclared.false) (sym c.writes_read_only.ensures ∙ c.if-writes_read_only.false)
