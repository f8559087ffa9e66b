-- `label_targets` meets its contract. The invariant: the targets passed are marked.
-- Assumes nothing.
use mathlib.Core.Path.{◌≡◌, sym}
use native.Mathlib.Omega.{arith}
use Rattle.image.specs.Layout.{label_count, label_target, label_place}
use Rattle.image.specs.Code.{target_of}
use Rattle.cells.proofs.Marks.{unmarked, marked_more}
use Rattle.cells.proofs.label_targets.Goals as goal

pub loop-k-init : goal.loop-k-init
loop-k-init c = (omega arith, unmarked 257 _)

pub slice_bounds-mark-end : goal.slice_bounds-mark-end
slice_bounds-mark-end c = sym c.loop-k.invariant.1.long

pub loop-k-preserved : goal.loop-k-preserved
unfolding label_target label_place target_of
loop-k-preserved c =
    let looked : c.target_at.result ≡ label_target c.args.s.now c.loop-k.k = rw (c.target_at.ensures, c.cell_count-cells.ensures) in (
      omega arith,
      rw c.mark.ensures (marked_more 257 _ c.loop-k.k c.loop-k.invariant.1 looked),
    )

pub returns : goal.returns
returns c =
    let l = c.loop-k in
    let e : l.k ≡ label_count c.args.s.now = omega (arith, c.label_count-k-end.ensures, l.invariant.0, c.loop-k-test.false) in
    rw (← e) l.invariant.1
