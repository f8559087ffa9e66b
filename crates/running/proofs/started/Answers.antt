-- `started` meets its contract. The invariant: the machine has the start values passed.
-- Assumes nothing.
use mathlib.Core.Path.{◌∙◌}
use native.Mathlib.Omega.{arith}
use Rattle.numbers.proofs.Kit.{back32, fit32}
use Rattle.running.proofs.Scripts.{started_more, started_all}
use Rattle.running.proofs.started.Goals as goal

pub loop-k-init : goal.loop-k-init
loop-k-init c = (omega arith, c.fresh-machine.ensures)

pub loop-k-preserved : goal.loop-k-preserved
loop-k-preserved c =
    let l = c.loop-k in
    let n = c.variable_count-count in (
      omega arith,
      started_more _ l.k (omega (arith, n.ensures, c.loop-k-test.true)) l.invariant.1
          (back32 (fit32 _ c.start_value.type_inv) ∙ c.start_value.ensures) c.with_start-machine.ensures,
    )

pub returns : goal.returns
returns c =
    let l = c.loop-k in
    started_all _ l.k (omega (arith, c.variable_count-count.ensures, c.loop-k-test.false)) l.invariant.1
