-- `state_of` meets its contract: each part of the machine in its place.
-- Assumes nothing.
use Rattle.numbers.proofs.Kit.{back32, fit32}
use Rattle.bench.specs.Answers.{state_of}
use Rattle.bench.proofs.answers.state_of.Goals as goal

pub returns : goal.returns
unfolding state_of
returns c =
    rw (back32 (fit32 c.motion_value.result c.motion_value.type_inv), c.motion_value.ensures, c.motion_number.ensures, c.places_of-places.ensures)
