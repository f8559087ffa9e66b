-- `digits` meets its contract. The loop's invariant: the digits that are left, in front of the word so far, give the whole.
-- Assumes nothing.
use native.Mathlib.Omega.{arith}
use Rattle.printing.proofs.Packed.{gathering, gathering_small, gathered_small, gathering_more, gathered_here, gathered_five}
use Rattle.printing.proofs.words.digits.Goals as goal

pub loop-count-init : goal.loop-count-init
loop-count-init c = gathering _ _

pub returns-then-rest-least : goal.returns-then-rest-least
returns-then-rest-least c =
    let g = c.loop-count.invariant in
    let p = c.requires in
    (gathered_here g p.1 c.if-rest-least.true, gathered_small g)

pub overflow_mul-word : goal.overflow_mul-word
overflow_mul-word c = omega (arith, gathering_small c.loop-count.invariant (omega arith))

pub overflow_add-word-in-loop-count : goal.overflow_add-word-in-loop-count
overflow_add-word-in-loop-count c = omega (arith, gathering_small c.loop-count.invariant (omega arith))

pub loop-count-preserved : goal.loop-count-preserved
loop-count-preserved c = gathering_more c.loop-count.invariant c.if-rest-least.false (omega arith)

pub returns : goal.returns
returns c =
    let g = c.loop-count.invariant in
    let p = c.requires in
    (gathered_five g p.0 p.2 (omega arith), gathered_small g)
