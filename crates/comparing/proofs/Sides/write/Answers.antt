-- `write` meets its contract: the invariant: what is left, over what stands there, gives the whole list.
-- Assumes nothing.
use mathlib.Core.Path.{ap, ◌∙◌}
use native.Mathlib.Omega.{arith}
use lib.Seq.{sets}
use Rattle.comparing.proofs.Entries.{left_all, write_more, write_end, write_next}
use Rattle.comparing.proofs.Sides.write.Goals as goal

pub loop-k-init : goal.loop-k-init
loop-k-init c = (ap (sets _ 0) (left_all _ _ c.longer-end.ensures), omega arith)

pub loop-k-preserved : goal.loop-k-preserved
loop-k-preserved c =
    let l = c.loop-k in
    let e = c.write_entry-at.ensures in (
      (write_more _ _ _ l.k l.at l.list c.loop-k-test.true c.sum_at.ensures e.0 e.1).0 ∙ l.invariant.0,
      write_next _ l.at l.k e.0 l.invariant.1,
    )

pub returns : goal.returns
returns c = let l = c.loop-k in write_end _ _ _ l.k l.at l.list (omega arith) l.invariant.0
