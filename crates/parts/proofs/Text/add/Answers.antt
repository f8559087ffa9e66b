-- The bytes that are put behind the others one by one are what `added` says of them all.
-- Assumes nothing.
use Rattle.std.proofs.Common.{rules}
use native.Mathlib.Omega.{arith}
use Rattle.std.proofs.lemmas.List.{take_all}
use Rattle.parts.proofs.Adding.{none_more, one_more}
use Rattle.parts.proofs.Text.add.Goals as goal

pub loop-b-init : goal.loop-b-init
loop-b-init g c = none_more _ _ (search rules)

pub loop-b-preserved : goal.loop-b-preserved
loop-b-preserved g c = rw (c.push.ensures, c.loop-b.invariant, one_more g.row.ROOM _ _ _ c.loop-b-test.true)

pub returns : goal.returns
returns g c = grind (arith, c.loop-b.invariant, take_all c.loop-b.b-index c.args.values.now)
