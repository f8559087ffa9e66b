-- `good_target` meets its contract: by `OE 0`, and by whether the target is in the table.
-- Assumes nothing.
use mathlib.Core.Bool.{false}
use native.Mathlib.Omega.{arith}
use Rattle.program.specs.Cells.{no_target}
use Rattle.image.specs.Code.{labelled}
use Rattle.image.specs.Check.{good_target}
use Rattle.cells.proofs.Judged.good_target.Goals as goal

pub returns-then-operation-target : goal.returns-then-operation-target
unfolding good_target no_target
returns-then-operation-target c = rw c.if-operation-target.true

pub returns-in-Some : goal.returns-in-Some
unfolding good_target no_target
returns-in-Some c =
    let found = c.in-Some.ensures.lookup in
    rw (c.if-operation-target.false, found.4 (omega arith) false) (c.args.self.now.marked.each _ (omega (arith, c.args.self.now.marked.long, found.3.0)))

pub returns-in-None : goal.returns-in-None
unfolding good_target no_target labelled
returns-in-None c = rw (c.if-operation-target.false, c.is_label_target.ensures)
