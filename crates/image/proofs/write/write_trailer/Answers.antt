-- `write::write_trailer` meets its contract: six fields as two numbers.
-- Assumes nothing.
use mathlib.Core.Path.{refl, sym}
use native.Mathlib.Omega.{arith}
use Rattle.numbers.proofs.Laws.{sets_out}
use Rattle.image.specs.Layout.{trailer_bytes, image_length}
use Rattle.image.proofs.Laws.{twice_written, trailer_halves}
use Rattle.image.proofs.write.write_trailer.Goals as goal

pub returns-then-b-at : goal.returns-then-b-at
returns-then-b-at c = let a = c.args in sym (sets_out a.b.now a.at (trailer_bytes a.cells a.labels a.variables) c.if-b-at.true)

pub overflow_cast-whole : goal.overflow_cast-whole
unfolding image_length
overflow_cast-whole c = omega (arith, c.image_length-whole.ensures)

pub returns : goal.returns
returns c =
    let a = c.args in
    rw (← trailer_halves a.cells a.labels a.variables c.label_place-first_label.ensures c.image_length-whole.ensures
    c.eight_bytes-front.ensures c.four_bytes.ensures c.eight_bytes-back.ensures c.four_bytes-2.ensures)
    (twice_written a.b.now a.at c.eight_bytes-front.result c.eight_bytes-back.result refl refl c.write.ensures c.write-2.ensures)
