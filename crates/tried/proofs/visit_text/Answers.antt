-- `visit_text` meets its contract: the image of the text is visited, and its places are those of the text's own run.
-- Assumes nothing.
use mathlib.Core.Path.{refl, sym, ◌∙◌}
use native.Mathlib.Omega.{arith}
use lib.ListN.{length}
use lib.Seq.{length-take-le}
use Rattle.tried.proofs.Trials.{prefix}
use Rattle.tried.proofs.Visiting.{Fit, asked, fit, text_refused, call_refused, visited}
use Rattle.tried.proofs.visit_text.Goals as goal

pub returns-then-translated-ne0 : goal.returns-then-translated-ne0
returns-then-translated-ne0 c = text_refused _ _ c.translate-translated.ensures _ _ _ c.if-translated-ne0.true

pub returns-then-is_err : goal.returns-then-is_err
returns-then-is_err c =
    call_refused _ _ c.translate-translated.ensures _ _ _ c.if-translated-ne0.false (asked _ _ _ _ c.may_begin.ensures.number c.is_err.ensures.value c.if-is_err.true)

pub slice_bounds-visit-end : goal.slice_bounds-visit-end
slice_bounds-visit-end c = prefix _ _ c.translate-translated.ensures

pub slice_bounds-visit-end-2 : goal.slice_bounds-visit-end-2
slice_bounds-visit-end-2 c = sym (length-take-le _ _ (prefix _ _ c.translate-translated.ensures))

pub overflow_cast-budget : goal.overflow_cast-budget
overflow_cast-budget c =
    let nothing : Fit c.args.events.now c.args.budget (length c.args.visits.now) = fit (asked _ _ _ _ c.may_begin.ensures.number c.is_err.ensures.value c.if-is_err.false) in
    let f = nothing in record { fits = omega (arith, f.low) }

pub visit-requires : goal.visit-requires
visit-requires c =
    let nothing : Fit c.args.events.now c.args.budget (length c.args.visits.now) = fit (asked _ _ _ _ c.may_begin.ensures.number c.is_err.ensures.value c.if-is_err.false) in
    let f = nothing in (f.whole_script, f.good_events, f.room)

pub returns : goal.returns
returns c =
    visited _ _ c.translate-translated.ensures _ _ _ c.if-translated-ne0.false (asked _ _ _ _ c.may_begin.ensures.number c.is_err.ensures.value c.if-is_err.false) refl c.visit.ensures
