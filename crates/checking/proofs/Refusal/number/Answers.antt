-- `Refusal::number` meets its contract: by the refusal.
-- Assumes nothing.
use mathlib.Core.Path.{◌≡◌, refl}
use Prim.Native.Nat.{◌+◌}
use denote.Enum.Declared.{tag_of}
use Rattle.checking.specs.contracts.Refusal.{the_type}
use Rattle.checking.specs.declared.Refusal.{Refusal}
use Rattle.checking.specs.declared.Refusal.TheVariants.{BadLength, BadEdition, BadTrailer, BadCells, BadRecords}
use Rattle.checking.specs.Code.{number_of}
use Rattle.checking.proofs.Refusal.number.Goals as goal

numbered : (r : Refusal) → tag_of the_type r + 21 ≡ number_of r
unfolding number_of
numbered BadLength = refl
numbered BadEdition = refl
numbered BadTrailer = refl
numbered BadCells = refl
numbered BadRecords = refl

pub returns : goal.returns
returns c = numbered c.args.self
