-- `write` meets its contract. The loop's invariant: what is still to be written, over what stands there, gives the whole.
-- Assumes nothing.
use mathlib.Core.Path.{◌≡◌, sym, ◌∙◌}
use Prim.Native.Nat.{◌+◌, ◌-◌}
use native.Mathlib.Omega.{arith}
use Rattle.numbers.proofs.Laws.{write_more, write_end}
use Rattle.numbers.proofs.write.Goals as goal

pub loop-i-preserved : goal.loop-i-preserved
loop-i-preserved c =
    let a = c.args in
    let l = c.loop-i in
    let k : a.at + a.width - (l.i + 1) ≡ a.at + a.width - l.i - 1 = omega arith in
    rw k (sym (write_more _ l.m l.b l.i (omega (arith, c.min-end.ensures, c.saturating_add.ensures))) ∙ l.invariant)

pub returns : goal.returns
returns c =
    let l = c.loop-i in
    sym (write_end _ l.m l.b l.i (λ h. omega (arith, c.min-end.ensures, c.saturating_add.ensures))) ∙ l.invariant
