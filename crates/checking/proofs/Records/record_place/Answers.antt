-- `record_place` meets its contract: by whether the record is a label's.
-- Assumes nothing.
use borrow.Author.Tests.{lt-ltb, le-ltb}
use Rattle.image.specs.Layout.{label_place, variable_place}
use Rattle.image.specs.Check.{record_place}
use Rattle.checking.proofs.Records.record_place.Goals as goal

pub returns-then-k-self : goal.returns-then-k-self
unfolding record_place label_place
returns-then-k-self c = let r = c.args.self.now in rw (c.label_place.ensures, ← r.cells_counted, ← r.labels_counted, lt-ltb _ _ c.if-k-self.true)

pub returns : goal.returns
unfolding record_place variable_place
returns c = let r = c.args.self.now in rw (c.variable_place.ensures, ← r.cells_counted, ← r.labels_counted, le-ltb _ _ c.if-k-self.false)
