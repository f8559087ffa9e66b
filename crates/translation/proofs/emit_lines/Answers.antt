-- `emit_lines` meets its contract. The loop's invariant: what is left to write gives the whole.
-- Assumes nothing.
use mathlib.Core.Path.{ap, ◌∙◌}
use Rattle.text.specs.declared.LinesLeft.{LinesLeft}
use Rattle.names.proofs.Asking.{told_keyed}
use Rattle.translation.proofs.Known.{low}
use Rattle.translation.proofs.Writing.{writing_first, writing_more, writing_done, places_low}
use Rattle.translation.proofs.emit_lines.Goals as goal

pub loop-line-init : goal.loop-line-init
loop-line-init c =
    writing_first _ _ _ _ (ap (λ (z : LinesLeft). z.rest.now) c.into_iter-line-iterator.ensures.into_iter_gives ∙ c.lines_of-line-items.ensures)
    c.requires.faultless.clear c.requires.within

pub invariant_of-names : goal.invariant_of-names
invariant_of-names c = record { low = rw c.requires.arranged (low _ c.requires.faultless.short) }

pub emit_line-places-requires : goal.emit_line-places-requires
emit_line-places-requires c =
    record {
      keyed = told_keyed _ c.read_line.ensures c.unwrap_or-said.ensures;
      within = places_low c.loop-line.invariant c.in-Some.ensures.steps c.requires.faultless.short;
    }

pub loop-line-preserved : goal.loop-line-preserved
loop-line-preserved c =
    writing_more c.loop-line.invariant c.in-Some.ensures.steps c.requires.arranged c.read_line.ensures c.unwrap_or-said.ensures c.emit_line-places.ensures

pub shape_of-buffer : goal.shape_of-buffer
shape_of-buffer c = c.loop-line.invariant.size

pub returns : goal.returns
returns c = writing_done c.loop-line.invariant c.in-None.ensures.steps.0
