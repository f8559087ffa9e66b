-- `write_pairs` meets its contract: the pairs of the four names, each behind those before it.
-- Assumes nothing.
use mathlib.Core.Path.{◌∙◌}
use native.Mathlib.Omega.{arith}
use mir.Val.{SFits}
use mir.Syntax.{w32}
use Rattle.numbers.proofs.Kit.{fit32, back32}
use Rattle.settings.proofs.Stored.{all_long, all_stored}
use Rattle.settings.proofs.write_pairs.Goals as goal

pub returns : goal.returns
returns c =
    let g = c.args.g in
    let which = c.args.which in
    let a = c.write_pair-d.ensures in
    let d = c.write_pair-vi.ensures in
    let vi = c.write_pair-vm.ensures in
    let vm = c.write_pair.ensures in
    let fa : SFits w32 g.a = fit32 _ c.well_formed.1.0.1.1.0.1 in
    let fd : SFits w32 g.d = fit32 _ c.well_formed.1.0.1.1.1.0.1 in
    let fi : SFits w32 g.vi = fit32 _ c.well_formed.1.0.1.1.1.1.0.1 in
    let fm : SFits w32 g.vm = fit32 _ c.well_formed.1.0.1.1.1.1.1.0.1 in (
      omega (arith, all_long g which, a.0, d.0, vi.0, vm.0),
      omega (arith, a.1, d.1, vi.1, vm.1),
      all_stored g which _ _ _ _ _ _ _ _ (a.0 ∙ omega arith) d.0 vi.0
          (rw (back32 fa) at a.2) (rw (back32 fd) at d.2) (rw (back32 fi) at vi.2) (rw (back32 fm) at vm.2),
    )
