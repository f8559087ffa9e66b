-- `write_image` meets its contract.
-- Assumes nothing.
use native.Mathlib.Omega.{arith}
use Rattle.translation.proofs.Whole.{few, places_near, image_done}
use Rattle.translation.proofs.write_image.Goals as goal

pub overflow_cast-cells : goal.overflow_cast-cells
overflow_cast-cells c =
    omega (arith, (few c.args.s.now c.args.counts c.requires.counted c.requires.clear).0)

pub overflow_cast-labels : goal.overflow_cast-labels
overflow_cast-labels c =
    omega (arith, (few c.args.s.now c.args.counts c.requires.counted c.requires.clear).1)

pub overflow_cast-variables : goal.overflow_cast-variables
overflow_cast-variables c =
    omega (arith, (few c.args.s.now c.args.counts c.requires.counted c.requires.clear).2)

pub emit_lines-requires : goal.emit_lines-requires
emit_lines-requires c = record {
  faultless = record { short = c.requires.short; clear = c.requires.clear };
  arranged = c.requires.arranged;
  within = places_near c.args.s.now c.args.counts c.requires.counted c.label_place.result c.variable_place.result c.requires.clear c.label_place.ensures c.variable_place.ensures;
}

pub returns : goal.returns
returns c =
    image_done c.args.s.now c.args.counts c.requires.counted c.label_place.result c.variable_place.result c.variable_place-trailer.result c.args.buffer.now _ _ c.requires.has_room
    c.label_place.ensures c.variable_place.ensures c.variable_place-trailer.ensures c.emit_lines.ensures c.write_trailer.ensures
