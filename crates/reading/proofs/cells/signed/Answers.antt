-- `signed` meets its contract.
-- Assumes nothing.
use native.Mathlib.Omega.{arith}
use mathlib.Core.Path.{◌≡◌, sym, ◌∙◌}
use lib.IntN.{pos}
use mir.Syntax.{w32}
use mir.Val.{to_z}
use mir.Facts.{to_z_pos, to_z-of_z}
use Rattle.reading.proofs.Values.{small_big, small_is, opposite, meaning_below, meaning_above}
use Rattle.reading.proofs.cells.signed.Goals as goal

pub returns-then-size : goal.returns-then-size
returns-then-size c = let a = c.args in small_big a.negative a.size c.if-size.true

pub overflow_sub-result : goal.overflow_sub-result
overflow_sub-result c =
    let a = c.args in
    rw (to_z_pos w32 {n = a.size} (omega arith)) (opposite a.size c.if-size.false).0

pub returns-then-negative : goal.returns-then-negative
returns-then-negative c =
    let a = c.args in
    let h = c.if-size.false in
    let e : to_z w32 a.size ≡ pos a.size = to_z_pos w32 (omega arith) in
    let o = opposite a.size h in
    rw (e, to_z-of_z {w = w32} o.0) (o.1 ∙ meaning_below a.negative a.size c.if-negative.true ∙ sym (small_is a.negative a.size h))

pub returns : goal.returns
returns c =
    let a = c.args in
    to_z_pos w32 (omega arith) ∙ meaning_above a.negative a.size c.if-negative.false ∙ sym (small_is a.negative a.size c.if-size.false)
