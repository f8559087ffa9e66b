-- `write::second_half` meets its contract: its parts, one behind the other.
-- Assumes nothing.
use Rattle.image.specs.Code.{second_half}
use Rattle.image.proofs.write.second_half.Goals as goal

pub returns : goal.returns
unfolding second_half
returns c = rw (c.eight_bytes.ensures, c.four_bytes.ensures, c.operand_number.ensures)
