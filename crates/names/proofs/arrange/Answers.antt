-- `arrange` meets its contract. The loop's invariant: entering the lines that are left gives the whole.
-- Assumes nothing.
use mathlib.Core.Logic.{inl}
use mathlib.Core.Path.{ap, ◌∙◌}
use borrow.Author.Rules.{rules}
use Rattle.std.specs.declared.iter.Enumerate.{Enumerate}
use Rattle.text.specs.declared.LinesLeft.{LinesLeft}
use Rattle.names.proofs.Passing.{counts_below, count_fits}
use Rattle.names.proofs.Arranging.{arranging, arrange_more, arranged_all}
use Rattle.names.proofs.arrange.Goals as goal

pub loop-k-init : goal.loop-k-init
loop-k-init c =
    let again = c.into_iter-k-iterator.ensures.into_iter_gives in
    let start = c.enumerate-k-items.ensures in
    let h = arranging _ _ _ (ap (λ (z : Enumerate LinesLeft). z.iter.rest.now) again ∙ ap (λ (z : LinesLeft). z.rest.now) start.source ∙ c.lines_of.ensures)
    (ap (λ (z : Enumerate LinesLeft). z.count) again ∙ start.count) in
    ((tt, tt, inl (search (rules, count_fits h.reached))), tt, h)

pub counted-counts-requires : goal.counted-counts-requires
counted-counts-requires c = counts_below c.loop-k.invariant.2.reached c.in-Some.ensures.steps.0 18446744073709551615 (search rules)

pub loop-k-preserved : goal.loop-k-preserved
loop-k-preserved c =
    let i = c.in-Some.ensures.steps in
    let h = arrange_more c.loop-k.invariant.2 i.0 i.1 i.2 c.read_line.ensures c.unwrap_or-said.ensures c.enter_line.ensures c.counted-counts.ensures in
    ((tt, tt, inl (search (rules, count_fits h.reached))), tt, h)

pub returns : goal.returns
returns c = arranged_all c.loop-k.invariant.2 c.in-None.ensures.steps.0.0
