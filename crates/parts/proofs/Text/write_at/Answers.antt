-- What is written byte by byte is what `sets` says of them all.
-- Assumes nothing.
use Rattle.std.proofs.Common.{refl, ◌-◌, ◌∙◌, sym, take, drop}
use native.Mathlib.Omega.{arith}
use Rattle.std.proofs.lemmas.List.{length-drop, length-take}
use Rattle.parts.proofs.Written.{none_written, one_written, all_written}
use Rattle.parts.proofs.Text.write_at.Goals as goal

pub loop-i-init : goal.loop-i-init
loop-i-init g c = (none_written (take c.args.self.now.held c.args.self.now.bytes) c.args.at c.args.values.now, refl)

pub loop-i-preserved : goal.loop-i-preserved
loop-i-preserved g c =
    let l = c.loop-i in
    let i = l.invariant in
    let t = c.loop-i-test.true in
    (one_written l.self.held c.args.at l.i l.self.bytes c.args.values.now l.auto.i (omega (arith, t, c.min-end.ensures, i.1)) (omega (arith, t, l.auto.i, c.min-end.ensures, c.saturating_add.ensures)) ∙ i.0, i.1)

pub returns : goal.returns
returns g c =
    let l = c.loop-i in
    let i = l.invariant in
    let d = length-drop (l.i - c.args.at) c.args.values.now in
    let h = length-take l.self.held l.self.bytes in
    sym (all_written (take l.self.held l.self.bytes) l.i (drop (l.i - c.args.at) c.args.values.now) (λ more. omega (arith, more, d, h, i.1, l.auto.i, c.loop-i-test.false, c.min-end.ensures, c.saturating_add.ensures))) ∙ i.0
