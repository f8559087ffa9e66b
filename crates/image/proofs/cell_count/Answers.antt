-- `cell_count` meets its contract: a field of the trailer.
-- Assumes nothing.
use native.Mathlib.Omega.{arith}
use Rattle.image.specs.Layout.{cell_count}
use Rattle.image.proofs.Laws.{trailer_room}
use Rattle.image.proofs.cell_count.Goals as goal

pub overflow_add-trailer_place : goal.overflow_add-trailer_place
overflow_add-trailer_place c = omega (arith, trailer_room _ c.trailer_place.ensures)

pub returns : goal.returns
unfolding cell_count
returns c = rw (← c.trailer_place.ensures) c.read2.ensures
