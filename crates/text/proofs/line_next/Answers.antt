-- `line_next` meets its contract.
-- Assumes nothing.
use borrow.Author.Tests.{eq-eqb, ne_eqb, ltb-true, ltb-false}
use mathlib.Core.Bool.{true, false}
use mathlib.Core.Path.{sym, ◌∙◌}
use native.Mathlib.Nat.{add-zero}
use Rattle.text.proofs.Lines.{ending, ending_none}
use Rattle.text.proofs.line_next.Goals as goal

pub returns-in-None : goal.returns-in-None
returns-in-None c =
    let a = c.args in simp (ending_none a.s.now a.end (ltb-false _ _ (sym c.in-None.ensures.lookup.0)), add-zero)

pub returns-in-Some-eq10 : goal.returns-in-Some-eq10
returns-in-Some-eq10 c =
    let a = c.args in
    let f = c.in-Some-eq10.ensures.lookup in
    simp (ending a.s.now a.end true (ltb-true _ _ (sym f.0)) (eq-eqb _ _ (sym (f.3.1 0) ∙ c.in-Some-eq10.field-0-test)))

pub returns-in-Some : goal.returns-in-Some
returns-in-Some c =
    let a = c.args in
    let f = c.in-Some.ensures.lookup in
    simp (ending a.s.now a.end false (ltb-true _ _ (sym f.0)) (ne_eqb _ _ (λ e. c.in-Some.field-0-test.1 (f.3.1 0 ∙ e))))
