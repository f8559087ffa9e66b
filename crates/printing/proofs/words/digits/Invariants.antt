-- `digits` meets its contract. The loop's invariant: the digits that are left, in front of the word so far, give the whole.
-- Assumes nothing.
use Prim.Native.Nat.{◌-◌}
use Rattle.printing.proofs.Packed.{Gathering}
use Rattle.printing.proofs.words.digits.Given as goal

abbrev pub invariant-loop-count : goal.invariant-loop-count
invariant-loop-count l = Gathering l.n l.least l.count l.word l.rest

abbrev pub decreases-loop-count : goal.decreases-loop-count
decreases-loop-count l = 5 - l.count
