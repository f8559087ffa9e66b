-- `bad_names` meets its contract: the loop searches the records, and a bad key is a bad name. The invariant: none was found before,
-- and the names passed are marked.
-- Assumes nothing.
use mathlib.Core.Bool.{false}
use mathlib.Core.Path.{◌≡◌}
use Prim.Native.Nat.{◌≤◌}
use Rattle.numbers.specs.Tests.{any_below}
use Rattle.cells.specs.Code.{Marked}
use Rattle.checking.specs.Code.{key_at}
use Rattle.image.specs.Check.{bad_name}
use Rattle.checking.proofs.Records.bad_names.Given as goal

abbrev pub invariant-loop-k : goal.invariant-loop-k
invariant-loop-k l = let s = l.self.image.now in (l.k ≤ l.k-end) × (any_below l.k (bad_name s) ≡ false) × Marked 23296 (key_at s) l.k l.seen
