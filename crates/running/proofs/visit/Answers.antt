-- `visit` meets its contract. The invariant: the places still to come, behind those in the buffer, give the whole.
-- Assumes nothing.
use mathlib.Core.Path.{◌≡◌, ◌∙◌}
use native.Mathlib.Omega.{arith}
use Rattle.running.proofs.Scripts.{few_events}
use Rattle.running.proofs.Turns.{stepped_by}
use Rattle.running.proofs.Visits.{passing, visited_past, visited_spent, visited_stopped, passes_on}
use Rattle.running.proofs.visit.Goals as goal

pub loop-taken-init : goal.loop-taken-init
loop-taken-init c = passing c.started-machine.ensures

pub shape_of-visits-then-cells-machine : goal.shape_of-visits-then-cells-machine
shape_of-visits-then-cells-machine c = c.loop-taken.invariant.size

pub returns-then-cells-machine : goal.returns-then-cells-machine
returns-then-cells-machine c = visited_past c.loop-taken.invariant c.cell_count-cells.ensures c.if-cells-machine.true

pub later-rest-requires : goal.later-rest-requires
later-rest-requires c =
    (few_events _ c.requires.0, c.loop-taken.invariant.within)

pub turn-turned-requires : goal.turn-turned-requires
turn-turned-requires c =
    let p = c.requires in
    let due = c.later-rest.ensures in
    (omega (arith, c.if-cells-machine.false), c.loop-taken.invariant.inputs, p.1, (due.order, due.within), few_events _ p.0)

pub overflow_cast-result-then-turned : goal.overflow_cast-result-then-turned
overflow_cast-result-then-turned c =
    record { fits = omega (arith, c.loop-taken-test.true, c.ranges.budget.fits) }

pub shape_of-visits-then-turned : goal.shape_of-visits-then-turned
shape_of-visits-then-turned c = c.write.auto.b ∙ c.loop-taken.invariant.size

pub returns-then-turned : goal.returns-then-turned
returns-then-turned c =
    let stepped = stepped_by c.requires.1 c.loop-taken.invariant.inputs c.later-rest.ensures c.cell_at-cell.ensures c.turn-turned.ensures in
    visited_stopped c.loop-taken.invariant c.cell_count-cells.ensures c.requires.2 c.if-cells-machine.false c.loop-taken-test.true
    stepped c.write.ensures c.if-turned.true

pub loop-taken-smaller : goal.loop-taken-smaller
loop-taken-smaller c = omega (arith, c.loop-taken-test.true)

pub loop-taken-preserved : goal.loop-taken-preserved
loop-taken-preserved c =
    let stepped = stepped_by c.requires.1 c.loop-taken.invariant.inputs c.later-rest.ensures c.cell_at-cell.ensures c.turn-turned.ensures in
    passes_on c.loop-taken.invariant c.cell_count-cells.ensures c.requires.2 c.if-cells-machine.false c.loop-taken-test.true
    stepped c.write.ensures c.if-turned.false

pub shape_of-visits : goal.shape_of-visits
shape_of-visits c = c.loop-taken.invariant.size

pub returns : goal.returns
returns c =
    let l = c.loop-taken in
    let e : l.taken ≡ c.args.budget = omega (arith, l.invariant.turns) in
    rw e at (visited_spent l.invariant c.cell_count-cells.ensures (omega arith))
