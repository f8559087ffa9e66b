-- `go_on` meets its contract. The invariant: what is left to run from here, behind the records in the buffer, gives the whole.
-- Assumes nothing.
use mathlib.Core.Path.{◌∙◌}
use native.Mathlib.Omega.{arith}
use Rattle.running.proofs.Scripts.{few_events}
use Rattle.running.proofs.Turns.{stepped_by}
use Rattle.running.proofs.Courses.{underway, past_last, budget_used, stopped, goes_on}
use Rattle.running.proofs.go_on.Goals as goal

pub loop-machine-init : goal.loop-machine-init
loop-machine-init c = let p = c.requires in underway _ _ p.2 p.3

pub later-left-requires : goal.later-left-requires
later-left-requires c =
    (few_events _ c.requires.0, c.loop-machine.invariant.within)

pub turn-turned-requires : goal.turn-turned-requires
turn-turned-requires c =
    let p = c.requires in
    let due = c.later-left.ensures in
    (omega (arith, c.if-cells-machine.false), c.loop-machine.invariant.inputs, p.1, (omega (arith, due.order), omega (arith, due.order, due.within)), few_events _ p.0)

pub write_record-bytes-requires : goal.write_record-bytes-requires
write_record-bytes-requires c =
    omega (arith, c.requires.4, c.if-last-turns.false, c.loop-machine.invariant.most, c.loop-machine.invariant.size)

pub overflow_add-turns : goal.overflow_add-turns
overflow_add-turns c =
    record { fits = omega (arith, c.if-last-turns.false, c.ranges.last.fits) }

pub loop-machine-smaller : goal.loop-machine-smaller
loop-machine-smaller c = omega (arith, c.if-last-turns.false)

pub loop-machine-preserved : goal.loop-machine-preserved
loop-machine-preserved c =
    let taken = stepped_by c.requires.1 c.loop-machine.invariant.inputs c.later-left.ensures c.cell_at-cell.ensures c.turn-turned.ensures in
    goes_on c.loop-machine.invariant c.cell_count-cells.ensures c.requires.4 c.if-cells-machine.false c.if-last-turns.false
    taken c.write_record-bytes.ensures.0 c.write_record-bytes.ensures.1 c.if-turned.false

pub shape_of-records-then-cells-machine : goal.shape_of-records-then-cells-machine
shape_of-records-then-cells-machine c = c.loop-machine.invariant.size

pub returns-then-cells-machine : goal.returns-then-cells-machine
returns-then-cells-machine c = past_last c.loop-machine.invariant c.cell_count-cells.ensures c.if-cells-machine.true

pub shape_of-records-then-last-turns : goal.shape_of-records-then-last-turns
shape_of-records-then-last-turns c = c.loop-machine.invariant.size

pub returns-then-last-turns : goal.returns-then-last-turns
returns-then-last-turns c = budget_used c.loop-machine.invariant c.cell_count-cells.ensures c.if-cells-machine.false c.if-last-turns.true

pub shape_of-records-then-turned : goal.shape_of-records-then-turned
shape_of-records-then-turned c =
    c.write_record-bytes.auto.b ∙ c.loop-machine.invariant.size

pub returns-then-turned : goal.returns-then-turned
returns-then-turned c =
    let taken = stepped_by c.requires.1 c.loop-machine.invariant.inputs c.later-left.ensures c.cell_at-cell.ensures c.turn-turned.ensures in
    stopped c.loop-machine.invariant c.cell_count-cells.ensures c.requires.4 c.if-cells-machine.false c.if-last-turns.false
    taken c.write_record-bytes.ensures.0 c.write_record-bytes.ensures.1 c.if-turned.true
