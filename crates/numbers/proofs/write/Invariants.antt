-- `write` meets its contract. The loop's invariant: what is still to be written, over what stands there, gives the whole.
-- Assumes nothing.
use mathlib.Core.Path.{◌≡◌}
use Prim.Native.Nat.{◌+◌, ◌-◌}
use lib.Seq.{sets}
use Rattle.numbers.specs.Bytes.{bytes}
use Rattle.numbers.proofs.write.Given as goal

abbrev pub invariant-loop-i : goal.invariant-loop-i
invariant-loop-i l = sets l.b l.i (bytes (l.at + l.width - l.i) l.m) ≡ sets l.initial.b l.at (bytes l.width l.n)
