-- `fill` meets its contract. The loop's invariant: the slots that are left give the whole; each took at most two tokens.
-- Assumes nothing.
use native.Mathlib.Omega.{arith}
use Prim.Native.Nat.{◌≤◌, ◌<◌}
use lib.ListN.{length}
use mathlib.Core.Path.{sym, ◌∙◌}
use Rattle.std.proofs.lemmas.Result.{err_from_is_err_and}
use Rattle.text.specs.Code.{token_at}
use Rattle.forms.proofs.Matching.{fill_more, fill_over, fill_end, slot_place, slots_length}
use Rattle.forms.proofs.fill.Goals as goal

pub returns-in-End : goal.returns-in-End
returns-in-End c =
    let l : c.loop-slot.slot-index < length c.slots-slot-items.result = rw c.slots-slot-items.ensures (omega (arith, slots_length c.args.form c.requires)) in
    fill_over c.args.ts.at c.loop-slot.m c.slots-slot-items.result c.loop-slot.slot-index _ l c.in-End.is ∙ c.loop-slot.invariant.1

pub returns-in_err-m : goal.returns-in_err-m
unfolding token_at
returns-in_err-m c =
    let l : c.loop-slot.slot-index < length c.slots-slot-items.result = rw c.slots-slot-items.ensures (omega (arith, slots_length c.args.form c.requires)) in
    let p = err_from_is_err_and c.from_residual.result c.from_residual.ensures.1 in
    rw (p.1, p.2)
    (fill_more c.args.ts.at c.loop-slot.m c.slots-slot-items.result c.loop-slot.slot-index _ l c.in_default.not-End c.slot.ensures c.in_err-m.was ∙ c.loop-slot.invariant.1)

pub loop-slot-preserved : goal.loop-slot-preserved
unfolding token_at
loop-slot-preserved c =
    let l : c.loop-slot.slot-index < length c.slots-slot-items.result = rw c.slots-slot-items.ensures (omega (arith, slots_length c.args.form c.requires)) in (
      omega (arith, slot_place c.loop-slot.m _ _ _ c.slot.ensures c.in_ok-m.was),
      fill_more c.args.ts.at c.loop-slot.m c.slots-slot-items.result c.loop-slot.slot-index _ l c.in_default.not-End c.slot.ensures c.in_ok-m.was ∙ c.loop-slot.invariant.1,
    )

pub returns : goal.returns
returns c =
    let l : length c.slots-slot-items.result ≤ c.loop-slot.slot-index = rw c.slots-slot-items.ensures (omega (arith, slots_length c.args.form c.requires)) in
    sym (fill_end c.args.ts.at c.loop-slot.m c.slots-slot-items.result c.loop-slot.slot-index l) ∙ c.loop-slot.invariant.1
