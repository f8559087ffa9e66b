-- `under` meets its contract: the invariant: the pairs that are left give what all of them give.
-- Assumes nothing.
use mathlib.Core.Path.{◌≡◌}
use lib.IntN.{ℤ}
use Rattle.settings.specs.Layout.{pairs_of}
use Rattle.settings.specs.Sets.{under, has}
use Rattle.settings.proofs.Loops.{rest}
use Rattle.settings.proofs.under.Given as goal

abbrev pub invariant-loop-i : goal.invariant-loop-i
invariant-loop-i l = record {
  shown : (z : ℤ) → under l.v (rest l.s l.count l.i) z ≡ under l.v (pairs_of l.s) z;
  found : has l.v (rest l.s l.count l.i) ≡ has l.v (pairs_of l.s);
}
