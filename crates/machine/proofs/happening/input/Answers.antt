-- `input` meets its contract: the four inputs are still 0 or 1 after the store.
-- Assumes nothing.
use mathlib.Core.Path.{◌≡◌}
use Prim.Native.Nat.{◌+◌, ◌-◌}
use native.Mathlib.Omega.{arith}
use Rattle.numbers.proofs.Kit.{back32}
use Rattle.program.proofs.Results.{got32}
use Rattle.machine.specs.Happens.{input}
use Rattle.machine.proofs.Inputs.{inputs_set}
use Rattle.machine.proofs.happening.input.Goals as goal

pub all_inputs-sum-requires : goal.all_inputs-sum-requires
all_inputs-sum-requires c =
    rw (back32 c.ranges.value) (inputs_set c.requires.0 _ _ (λ k l e. c.requires.2))

pub returns : goal.returns
unfolding input
returns c =
    let b = back32 c.ranges.value in
    let h = c.requires.1.0 in
    let e : 16 + c.args.number - 1 ≡ 15 + c.args.number = omega arith in
    simp (e, b, got32 _ _ c.all_inputs-sum.type_inv (simp (e, b) at c.all_inputs-sum.ensures))
