-- `write_pair` meets its contract: nothing for a name that is not chosen, else its number, zeros and value in eight bytes.
-- Assumes nothing.
use mathlib.Core.Path.{◌≡◌, refl, ap, ◌∙◌}
use mathlib.Core.Bool.{true, false}
use mathlib.Core.List.{◌++◌}
use Prim.Native.Nat.{ℕ}
use native.Mathlib.Omega.{arith}
use Rattle.numbers.specs.Bits.{digits32}
use Rattle.numbers.specs.Bytes.{bytes}
use Rattle.numbers.proofs.Kit.{back32}
use Rattle.settings.proofs.Stored.{bytes_not, bytes_one}
use Rattle.settings.proofs.write_pair.Goals as goal

pub returns-then-not-chosen : goal.returns-then-not-chosen
returns-then-not-chosen c =
    let a = c.args in
    let e : a.chosen ≡ false = c.if-not-chosen.true in
    rw (bytes_not a.v a.value e, e) (omega arith, omega arith, refl)

pub returns : goal.returns
returns c =
    let a = c.args in
    let e : a.chosen ≡ true = c.if-not-chosen.false in
    let digits = c.digits.ensures ∙ ap digits32 (back32 c.ranges.value) in
    let b = c.eight_bytes.ensures ∙ ap (λ (k : ℕ). bytes 4 a.v ++ bytes 4 k) digits in
    rw (bytes_one a.v a.value c.eight_bytes.result e c.requires.1 b, e) (refl, omega arith, c.write.ensures)
