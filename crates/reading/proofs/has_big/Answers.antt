-- `has_big` meets its contract.
-- Assumes nothing.
use Rattle.reading.specs.Code.{any_big}
use Rattle.reading.proofs.Values.{big_start}
use Rattle.reading.proofs.has_big.Goals as goal

pub returns : goal.returns
unfolding any_big
returns c = rw (c.is_big.ensures, c.is_big-2.ensures, c.is_big-3.ensures, big_start c.args.parts.start)
