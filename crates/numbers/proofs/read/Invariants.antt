-- `read` meets its contract. The loop's invariant: n is the number of the bytes that were passed, from the highest down.
-- Assumes nothing.
use mathlib.Core.Path.{◌≡◌}
use Prim.Native.Nat.{◌+◌, ◌-◌}
use Rattle.numbers.specs.Bytes.{field}
use Rattle.numbers.proofs.read.Given as goal

abbrev pub invariant-loop-i : goal.invariant-loop-i
invariant-loop-i l = l.n ≡ field (l.width - l.i) (l.from + l.i) l.s
