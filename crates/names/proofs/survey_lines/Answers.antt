-- `survey_lines` meets its contract. The loop's invariant: what is known at the start of a line.
-- Assumes nothing.
use mathlib.Core.Logic.{inl}
use mathlib.Core.Path.{sym, ap, ◌∙◌}
use borrow.Author.Rules.{rules}
use Rattle.std.specs.declared.iter.Enumerate.{Enumerate}
use Rattle.text.specs.declared.LinesLeft.{LinesLeft}
use Rattle.names.proofs.Passing.{counts_below, count_fits}
use Rattle.names.specs.Code.{lowest_number}
use Rattle.names.proofs.Asking.{keyed_by, no_fault, fault_positive}
use Rattle.names.proofs.Surveying.{surveying, survey_more, fault_here, fault_none}
use Rattle.names.proofs.survey_lines.Goals as goal

pub loop-k-init : goal.loop-k-init
loop-k-init c =
    let again = c.into_iter-k-iterator.ensures.into_iter_gives in
    let start = c.enumerate-k-items.ensures in
    let h = surveying _ _ _ (ap (λ (z : Enumerate LinesLeft). z.iter.rest.now) again ∙ ap (λ (z : LinesLeft). z.rest.now) start.source ∙ c.lines_of.ensures)
    (ap (λ (z : Enumerate LinesLeft). z.count) again ∙ start.count) in
    ((tt, tt, inl (search (rules, count_fits h.reached))), tt, h)

pub line_fault-requires : goal.line_fault-requires
line_fault-requires c = keyed_by _ c.read_line-reading.ensures

pub returns-in-Err : goal.returns-in-Err
unfolding lowest_number
returns-in-Err c =
    let i = c.in-Some.ensures.steps in
    fault_here c.loop-k.invariant.2 i.0 i.1 c.read_line-reading.ensures c.requires (c.number.ensures ∙ c.in-Err.ensures) (λ z. fault_positive _ (sym c.number.ensures ∙ z))

pub counted-counts-requires : goal.counted-counts-requires
counted-counts-requires c = counts_below c.loop-k.invariant.2.reached c.in-Some.ensures.steps.0 18446744073709551615 (search rules)

pub loop-k-preserved : goal.loop-k-preserved
loop-k-preserved c =
    let i = c.in-Some.ensures.steps in
    let h = survey_more c.loop-k.invariant.2 i.0 i.1 c.read_line-reading.ensures c.requires c.line_fault.ensures (no_fault _ c.in_default.not-Err) i.2 c.unwrap_or.ensures
    c.counted-counts.ensures in
    ((tt, tt, inl (search (rules, count_fits h.reached))), tt, h)

pub returns : goal.returns
returns c = fault_none c.loop-k.invariant.2 c.in-None.ensures.steps.0.0
