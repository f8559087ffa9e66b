-- `says_of` meets its contract: the table is that of the definition.
-- Assumes nothing.
use mathlib.Core.Path.{◌≡◌}
use Prim.Native.Nat.{ℕ, ◌<◌}
use lib.ListN.{get_or}
use Rattle.numbers.proofs.Lists.{within}
use Rattle.reading.specs.Code.{say_table, says_of}
use Rattle.reading.specs.declared.Says.{Says}
use Rattle.reading.specs.declared.Says.TheVariants as F
use Rattle.reading.proofs.says_of.Goals as goal

-- What stands past the end of the table counts for nothing.
found : (form : ℕ) (d : Says) → form < 21 → get_or say_table form d ≡ says_of form
unfolding says_of say_table
found form d h = within say_table form d F.Label h

pub returns : goal.returns
unfolding say_table
returns c = found c.args.form _ c.requires
