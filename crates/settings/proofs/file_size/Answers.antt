-- `file_size` meets its contract: eight bytes for each chosen name, and the trailer.
-- Assumes nothing.
use mathlib.Core.Path.{sym}
use native.Mathlib.Omega.{arith}
use Rattle.settings.proofs.Stored.{file_long}
use Rattle.settings.proofs.file_size.Goals as goal

pub returns : goal.returns
returns c = (
  λ g. rw (c.size.ensures.0, c.size-2.ensures.0, c.size-3.ensures.0, c.size-4.ensures.0) (sym (file_long g c.args.which)),
  omega (arith, c.size.ensures.1, c.size-2.ensures.1, c.size-3.ensures.1, c.size-4.ensures.1),
)
