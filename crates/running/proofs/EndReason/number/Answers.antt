-- `EndReason::number` meets its contract: by the reason.
-- Assumes nothing.
use mathlib.Core.Path.{◌≡◌, refl}
use Prim.Native.Nat.{◌+◌}
use denote.Enum.Declared.{tag_of}
use Rattle.running.specs.contracts.EndReason.{the_type}
use Rattle.running.specs.declared.EndReason.{EndReason}
use Rattle.running.specs.declared.EndReason.TheVariants.{PastTheLast, Stopped, BudgetUsed}
use Rattle.running.specs.Code.{reason_number}
use Rattle.running.proofs.EndReason.number.Goals as goal

numbered : (r : EndReason) → tag_of the_type r + 1 ≡ reason_number r
unfolding reason_number
numbered PastTheLast = refl
numbered Stopped = refl
numbered BudgetUsed = refl

pub returns : goal.returns
returns c = numbered c.args.self
