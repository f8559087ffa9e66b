-- `line_faults` meets its contract. The loop's invariant: the faults of the lines that are left, over what the buffer has, give the whole.
-- Assumes nothing.
use mathlib.Core.Path.{sym, ap, ◌∙◌}
use borrow.Author.Rules.{rules}
use lib.ListN.{length}
use Rattle.rows.proofs.Seeking.{long}
use Rattle.text.specs.declared.LinesLeft.{LinesLeft}
use Rattle.names.proofs.Passing.{line_there, counts_below}
use Rattle.names.proofs.Asking.{keyed_by}
use Rattle.names.proofs.Surveying.{judging, judge_more, judged_all}
use Rattle.names.proofs.line_faults.Goals as goal

pub loop-line-init : goal.loop-line-init
loop-line-init c =
    judging _ _ _ (ap (λ (z : LinesLeft). z.rest.now) c.into_iter-line-iterator.ensures.into_iter_gives ∙ c.lines_of-line-items.ensures)

pub slice_bounds-line_fault-end : goal.slice_bounds-line_fault-end
slice_bounds-line_fault-end c = sym (ap length c.arrange-rows.ensures ∙ long _)

pub overflow_add-lines : goal.overflow_add-lines
overflow_add-lines c = search (rules, line_there c.loop-line.invariant.reached c.in-Some.ensures.steps)

pub line_fault-fault-requires : goal.line_fault-fault-requires
line_fault-fault-requires c = keyed_by _ c.read_line-reading.ensures

pub counted-counts-requires : goal.counted-counts-requires
counted-counts-requires c = counts_below c.loop-line.invariant.reached c.in-Some.ensures.steps 18446744073709551615 (search rules)

pub overflow_add-lines-in-loop-line : goal.overflow_add-lines-in-loop-line
overflow_add-lines-in-loop-line c = search (rules, line_there c.loop-line.invariant.reached c.in-Some.ensures.steps)

pub loop-line-preserved : goal.loop-line-preserved
loop-line-preserved c =
    judge_more c.loop-line.invariant c.in-Some.ensures.steps c.read_line-reading.ensures c.arrange-rows.ensures (c.number_or_0.ensures ∙ c.line_fault-fault.ensures)
    c.unwrap_or.ensures c.counted-counts.ensures (search rules) c.write.ensures

pub shape_of-faults : goal.shape_of-faults
shape_of-faults c = c.loop-line.invariant.size

pub returns : goal.returns
returns c = judged_all c.loop-line.invariant c.in-None.ensures.steps.0
