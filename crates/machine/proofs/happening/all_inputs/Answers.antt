-- `all_inputs` meets its contract: each input is at most 1, so that the sum is small.
-- Assumes nothing.
use mathlib.Core.Path.{◌∙◌}
use Prim.Native.Nat.{◌≤◌}
use native.Mathlib.Omega.{arith}
use mir.Facts.{to_z_pos}
use mir.Syntax.{w32}
use Rattle.machine.proofs.Inputs.{input_small, inputs_sum}
use Rattle.machine.proofs.happening.all_inputs.Goals as goal

-- each input is at most 1
few : (c : goal.After-bit-i4) → (c.bit-i1.result ≤ 1) × (c.bit-i2.result ≤ 1) × (c.bit-i3.result ≤ 1) × (c.bit-i4.result ≤ 1)
few c =
    let h = c.requires in
    (input_small h 0 _ (omega arith) c.bit-i1.ensures, input_small h 1 _ (omega arith) c.bit-i2.ensures, input_small h 2 _ (omega arith) c.bit-i3.ensures, input_small h 3 _ (omega arith) c.bit-i4.ensures)

pub bit-i1-requires : goal.bit-i1-requires
bit-i1-requires c = c.requires.each 0 (omega arith)

pub bit-i2-requires : goal.bit-i2-requires
bit-i2-requires c = c.requires.each 1 (omega arith)

pub bit-i3-requires : goal.bit-i3-requires
bit-i3-requires c = c.requires.each 2 (omega arith)

pub bit-i4-requires : goal.bit-i4-requires
bit-i4-requires c = c.requires.each 3 (omega arith)

pub overflow_mul-result : goal.overflow_mul-result
overflow_mul-result c = let f = few c in record { fits = omega arith }

pub overflow_add-result : goal.overflow_add-result
overflow_add-result c = let f = few c in record { fits = omega arith }

pub overflow_mul-result-2 : goal.overflow_mul-result-2
overflow_mul-result-2 c = let f = few c in record { fits = omega arith }

pub overflow_add-result-2 : goal.overflow_add-result-2
overflow_add-result-2 c = let f = few c in record { fits = omega arith }

pub overflow_mul-result-3 : goal.overflow_mul-result-3
overflow_mul-result-3 c = let f = few c in record { fits = omega arith }

pub overflow_add-result-3 : goal.overflow_add-result-3
overflow_add-result-3 c = let f = few c in record { fits = omega arith }

pub overflow_cast-result : goal.overflow_cast-result
overflow_cast-result c = let f = few c in record { sfits = omega arith }

pub returns : goal.returns
returns c =
    let f = few c in
    to_z_pos w32 (omega arith) ∙ inputs_sum _ _ _ _ _ c.bit-i1.ensures c.bit-i2.ensures c.bit-i3.ensures c.bit-i4.ensures
