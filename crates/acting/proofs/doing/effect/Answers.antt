-- `effect` meets its contract: each arm by the number of its operation.
-- Assumes nothing.
use mathlib.Core.Path.{ap, ◌∙◌}
use Rattle.numbers.proofs.Kit.{tests}
use Rattle.program.specs.Cells.{same, statement_by, statement_of}
use Rattle.effects.specs.Effects.{effect}
use Rattle.acting.proofs.Statements.{by_number_lem, printing_by_lem, does_set, does_set_with, does_count_up, does_count_down, does_branch, does_call, does_return, does_end, does_hold, does_arm, does_move_to, does_move_by, does_slew}
use Rattle.acting.proofs.doing.effect.Goals as goal

pub returns-in-1 : goal.returns-in-1
returns-in-1 c = by_number_lem _ _ _ _ _ c.in-1.is (c.set.ensures ∙ does_set _ _ _ _)

pub returns-in-2 : goal.returns-in-2
returns-in-2 c = by_number_lem _ _ _ _ _ c.in-2.is (c.set_with.ensures ∙ does_set_with _ _ _ _)

pub returns-in-3 : goal.returns-in-3
returns-in-3 c = by_number_lem _ _ _ _ _ c.in-3.is (c.count.ensures ∙ does_count_up _ _ _ _)

pub returns-in-4 : goal.returns-in-4
returns-in-4 c = by_number_lem _ _ _ _ _ c.in-4.is (c.count-in-4.ensures ∙ does_count_down _ _ _ _)

pub returns-in-5 : goal.returns-in-5
returns-in-5 c = by_number_lem _ _ _ _ _ c.in-5.is (c.branch-vars.ensures ∙ does_branch _ _ _ _)

pub returns-in-6 : goal.returns-in-6
returns-in-6 c = by_number_lem _ _ _ _ _ c.in-6.is (c.call.ensures ∙ does_call _ _ _ _)

pub returns-in-7 : goal.returns-in-7
returns-in-7 c = by_number_lem _ _ _ _ _ c.in-7.is (c.returning.ensures ∙ does_return _ _ _ _)

pub returns-in-8 : goal.returns-in-8
returns-in-8 c = by_number_lem _ _ _ _ _ c.in-8.is (does_end _ _ _ _)

pub returns-in-9 : goal.returns-in-9
returns-in-9 c = by_number_lem _ _ _ _ _ c.in-9.is (c.hold_or_wait.ensures ∙ does_hold _ _ _ _)

pub returns-in-10 : goal.returns-in-10
returns-in-10 c = by_number_lem _ _ _ _ _ c.in-10.is (c.arm.ensures ∙ does_arm _ _ _ _)

pub returns-in-11 : goal.returns-in-11
returns-in-11 c = by_number_lem _ _ _ _ _ c.in-11.is (c.move_to.ensures ∙ does_move_to _ _ _ _)

pub returns-in-12 : goal.returns-in-12
returns-in-12 c = by_number_lem _ _ _ _ _ c.in-12.is (c.move_by.ensures ∙ does_move_by _ _ _ _)

pub returns-in-13 : goal.returns-in-13
returns-in-13 c = by_number_lem _ _ _ _ _ c.in-13.is (c.slew.ensures ∙ does_slew _ _ _ _)

pub returns-in_default : goal.returns-in_default
unfolding statement_by statement_of
returns-in_default c =
    let a = c.args in
    c.print.ensures ∙ printing_by_lem a.vars.now a.kept a.hold a.cell.left ∙ ap (effect same same a.vars.now a.kept a.hold) (search tests)
