-- `Machine::with_start` meets its contract: past the last variable nothing is set.
-- Assumes nothing.
use mathlib.Core.Path.{◌≡◌}
use Prim.Native.Nat.{◌+◌}
use native.Mathlib.Omega.{arith}
use borrow.Author.Rules.{rules}
use lib.Seq.{set_out}
use lib.ListN.{length}
use Rattle.machine.proofs.Machine.with_start.Goals as goal

pub returns-then-k-ge-MOST_USERS : goal.returns-then-k-ge-MOST_USERS
returns-then-k-ge-MOST_USERS c =
    let a = c.args in
    let l : length a.self.variables ≡ 64 = search rules in
    rw (set_out a.self.variables (32 + a.k) a.value (omega arith))
