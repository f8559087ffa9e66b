-- `four` meets its contract: byte by byte.
-- Assumes nothing.
use native.Mathlib.Omega.{arith}
use Rattle.events.proofs.Scripts.{four_bytes}
use Rattle.events.proofs.script.four.Goals as goal

pub returns : goal.returns
returns c = omega (arith, c.from_le_bytes.ensures, four_bytes c.args.from c.args.s.now)
