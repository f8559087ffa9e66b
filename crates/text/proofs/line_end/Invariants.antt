-- `line_end` meets its contract. The loop's invariant: what is left of the line from here gives the whole.
-- Assumes nothing.
use Prim.Native.Nat.{◌+◌}
use lib.ListN.{drop}
use mathlib.Core.Path.{◌≡◌}
use Rattle.text.specs.Code.{line_length}
use Rattle.text.proofs.line_end.Given as goal

abbrev pub invariant-loop-end : goal.invariant-loop-end
invariant-loop-end l = l.end + line_length (drop l.end l.s) ≡ l.at + line_length (drop l.at l.s)
