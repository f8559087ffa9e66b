-- `write::two_bytes` meets its contract: by the law for two numbers.
-- Assumes nothing.
use mathlib.Core.Path.{◌≡◌}
use Prim.Native.Nat.{◌+◌, ◌*◌, ◌^◌}
use native.Mathlib.Omega.{arith}
use Rattle.numbers.proofs.Laws.{bytes_two}
use Rattle.image.proofs.write.two_bytes.Goals as goal

pub returns : goal.returns
returns c =
    let a = c.args in
    let e : c.from_le_bytes.result ≡ a.low + 256 ^ 1 * a.high = omega (arith, c.from_le_bytes.ensures) in
    rw e (bytes_two 1 1 a.low a.high (omega arith))
