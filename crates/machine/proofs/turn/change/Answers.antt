-- `change` meets its contract: the effect, then EF.
-- Assumes nothing.
use mathlib.Core.Path.{◌≡◌, sym, ap, ◌∙◌}
use mathlib.Core.List.{List}
use lib.IntN.{ℤ, pos}
use lib.ListN.{set, get_or}
use mir.Syntax.{w32}
use mir.Val.{to_z, of_z}
use Rattle.program.proofs.Results.{held, failed}
use Rattle.machine.specs.Turn.{clearing}
use Rattle.machine.proofs.Turns.{cleared_already}
use borrow.Author.Rules.{rules}
use Rattle.machine.proofs.turn.change.Goals as goal

pub returns-then-vars-flag-eq0 : goal.returns-then-vars-flag-eq0
returns-then-vars-flag-eq0 c =
    let after = c.apply in
    let same : to_z w32 (of_z w32 (get_or after.new.vars 15 (pos 0))) ≡ get_or after.new.vars 15 (pos 0) = search rules in
    cleared_already _ after.new.vars (sym same ∙ ap (to_z w32) c.if-vars-flag-eq0.true) ∙ ap (clearing _) after.ensures

pub returns-then-clears : goal.returns-then-clears
unfolding clearing
returns-then-clears c = rw (held c.clears.ensures c.if-clears.true) (ap (λ (x : List ℤ). set x 15 (pos 0)) c.apply.ensures)

pub returns : goal.returns
unfolding clearing
returns c = rw (failed c.clears.ensures c.if-clears.false) c.apply.ensures
