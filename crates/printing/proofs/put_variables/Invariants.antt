-- `put_variables` meets its contract. The loop's invariant: the lines that are left, put from here on, give the whole.
-- Assumes nothing.
use Prim.Native.Nat.{◌-◌}
use Rattle.printing.specs.Code.{variable_texts}
use Rattle.printing.proofs.Pages.{Putting}
use Rattle.printing.proofs.put_variables.Given as goal

abbrev pub invariant-loop-k : goal.invariant-loop-k
invariant-loop-k l = Putting (variable_texts l.image 0 l.k-end) l.initial.page 0 (variable_texts l.image l.k l.k-end) l.page l.at

abbrev pub decreases-loop-k : goal.decreases-loop-k
decreases-loop-k l = l.k-end - l.k
