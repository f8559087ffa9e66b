-- `hold_or_wait` meets its contract: by the kind of the operand.
-- Assumes nothing.
use mathlib.Core.Path.{◌≡◌}
use borrow.Author.Rules.{rules}
use mir.Val.{to_z, of_z}
use mir.Syntax.{w32}
use Rattle.acting.specs.Code.{holding_by}
use Rattle.program.proofs.Results.{got32}
use Rattle.acting.proofs.doing.hold_or_wait.Goals as goal

pub returns-in-Nothing : goal.returns-in-Nothing
unfolding holding_by
returns-in-Nothing c = rw c.in-Nothing.is c.waiting.ensures

pub returns-in-Literal : goal.returns-in-Literal
unfolding holding_by
returns-in-Literal c =
    let e : to_z w32 (of_z w32 c.in-Literal.z) ≡ c.in-Literal.z = search rules in
    rw c.in-Literal.is (simp e at c.holding.ensures)

pub returns-in-Variable : goal.returns-in-Variable
unfolding holding_by
returns-in-Variable c =
    let x = c.read in
    rw c.in-Variable.is (simp (got32 _ _ x.type_inv x.ensures) at c.holding-in-Variable.ensures)
