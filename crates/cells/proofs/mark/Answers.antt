-- `mark` meets its contract: past the end nothing is set.
-- Assumes nothing.
use mathlib.Core.Path.{sym}
use lib.Seq.{set_out}
use Rattle.cells.proofs.mark.Goals as goal

pub returns-else-place-marks : goal.returns-else-place-marks
returns-else-place-marks c = sym (set_out _ _ _ c.if-place-marks.false)
