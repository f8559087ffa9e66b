-- `bad_target` meets its contract: by whether there is a label before.
-- Assumes nothing.
use native.Mathlib.Omega.{arith}
use borrow.Author.Tests.{le-leb}
use Rattle.image.specs.Layout.{label_target, label_place}
use Rattle.image.specs.Code.{target_of}
use Rattle.image.specs.Check.{bad_target}
use Rattle.checking.proofs.Records.bad_target.Goals as goal

pub returns-then-k-eq0 : goal.returns-then-k-eq0
unfolding bad_target label_target label_place target_of
returns-then-k-eq0 c = rw (c.target_at-target.ensures, ← c.args.self.now.cells_counted, c.if-k-eq0.true)

pub returns : goal.returns
unfolding bad_target label_target label_place target_of
returns c = rw (c.target_at.ensures, c.target_at-target.ensures, ← c.args.self.now.cells_counted, le-leb 1 c.args.k (omega arith))
