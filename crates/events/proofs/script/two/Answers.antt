-- `two` meets its contract: byte by byte.
-- Assumes nothing.
use native.Mathlib.Omega.{arith}
use Rattle.events.proofs.Scripts.{two_bytes}
use Rattle.events.proofs.script.two.Goals as goal

pub returns : goal.returns
returns c = omega (arith, c.from_le_bytes.ensures, two_bytes c.args.from c.args.s.now)
