-- `bad_start` meets its contract: two fields of the record at its place.
-- Assumes nothing.
use Rattle.image.specs.Layout.{variable_place, start_value}
use Rattle.image.specs.Check.{bad_start}
use Rattle.cells.specs.Code.{literal_bits}
use Rattle.checking.proofs.Records.bad_start.Goals as goal

pub returns : goal.returns
unfolding bad_start start_value variable_place literal_bits
returns c = let r = c.args.self.now in rw (c.is_literal.ensures, c.read4.ensures, c.read2.ensures, c.variable_place-place.ensures, ← r.cells_counted, ← r.labels_counted)
