-- `put_variables` meets its contract. The loop's invariant: the lines that are left, put from here on, give the whole.
-- Assumes nothing.
use native.Mathlib.Omega.{arith}
use Rattle.printing.proofs.Pages.{putting}
use Rattle.printing.proofs.Pieces.{variable_next, variables_put}
use Rattle.printing.proofs.put_variables.Goals as goal

pub loop-k-init : goal.loop-k-init
loop-k-init c = putting _ _ _

pub loop-k-preserved : goal.loop-k-preserved
loop-k-preserved c =
    variable_next _ _ _ _ (omega arith) c.variable_line.ensures c.loop-k.invariant c.put-at.ensures

pub shape_of-page : goal.shape_of-page
shape_of-page c = c.loop-k.invariant.size

pub returns : goal.returns
returns c = variables_put _ _ _ c.variable_count-k-end.ensures (omega arith) c.loop-k.invariant
