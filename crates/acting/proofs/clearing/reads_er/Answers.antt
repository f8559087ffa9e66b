-- `reads_er` meets its contract: each arm by the number of its operation.
-- Assumes nothing.
use mathlib.Core.Path.{refl}
use Rattle.numbers.specs.Tests.{any_of}
use Rattle.numbers.proofs.Kit.{tests}
use Rattle.program.specs.Statements.{operands}
use Rattle.program.specs.Cells.{statement_by}
use Rattle.acting.proofs.Reading.{asks_arm, asks_left, reads_none, reads_by, reads_both, reads_branch, reads_call}
use Rattle.acting.proofs.clearing.reads_er.Goals as goal

pub returns-then-hold-first : goal.returns-then-hold-first
returns-then-hold-first c = reads_none _ c.is_er-first.ensures c.is_er-second.ensures _ c.if-hold-first.true

pub returns-in-2 : goal.returns-in-2
returns-in-2 c = reads_both _ c.is_er-first.ensures c.is_er-second.ensures _ c.if-hold-first.false c.in-2.is

pub returns-in-3 : goal.returns-in-3
unfolding statement_by operands any_of
returns-in-3 c = reads_by _ c.is_er-first.ensures c.is_er-second.ensures _ c.if-hold-first.false _ c.in-3.is refl

pub returns-in-4 : goal.returns-in-4
unfolding statement_by operands any_of
returns-in-4 c = reads_by _ c.is_er-first.ensures c.is_er-second.ensures _ c.if-hold-first.false _ c.in-4.is refl

pub returns-in-5 : goal.returns-in-5
returns-in-5 c = reads_branch _ c.is_er-first.ensures c.is_er-second.ensures _ c.if-hold-first.false c.in-5.is

pub returns-in-6 : goal.returns-in-6
returns-in-6 c = reads_call _ c.is_er-first.ensures c.is_er-second.ensures _ c.if-hold-first.false c.in-6.is

pub returns-in-7 : goal.returns-in-7
unfolding statement_by operands any_of
returns-in-7 c = reads_by _ c.is_er-first.ensures c.is_er-second.ensures _ c.if-hold-first.false _ c.in-7.is refl

pub returns-in-8 : goal.returns-in-8
unfolding statement_by operands any_of
returns-in-8 c = reads_by _ c.is_er-first.ensures c.is_er-second.ensures _ c.if-hold-first.false _ c.in-8.is refl

pub returns-in-10 : goal.returns-in-10
returns-in-10 c =
    let a = c.is_er-first.ensures in
    let b = c.is_er-second.ensures in
    reads_by _ a b _ c.if-hold-first.false _ c.in-10.is (asks_arm _ a b)

pub returns-in_default : goal.returns-in_default
returns-in_default c =
    let a = c.is_er-first.ensures in
    let b = c.is_er-second.ensures in
    reads_by _ a b _ c.if-hold-first.false _ refl
    (asks_left _ a b _ (search tests) (search tests) (search tests) (search tests) (search tests) (search tests) (search tests) (search tests))
