-- `is_any_outside` meets its contract: the pairs of the four names, one behind the other.
-- Assumes nothing.
use mir.Val.{SFits}
use mir.Syntax.{w32}
use Rattle.numbers.proofs.Kit.{fit32, back32}
use Rattle.numbers.proofs.Tests.{any_append}
use Rattle.settings.specs.Calls.{chosen_pairs, outside}
use Rattle.settings.proofs.is_any_outside.Goals as goal

pub returns : goal.returns
unfolding chosen_pairs
returns c =
    let g = c.args.g in
    let fa : SFits w32 g.a = fit32 _ c.well_formed.0.1.1.0.1 in
    let fd : SFits w32 g.d = fit32 _ c.well_formed.0.1.1.1.0.1 in
    let fi : SFits w32 g.vi = fit32 _ c.well_formed.0.1.1.1.1.0.1 in
    let fm : SFits w32 g.vm = fit32 _ c.well_formed.0.1.1.1.1.1.0.1 in
    rw (
      c.is_outside-a.ensures,
      c.is_outside-d.ensures,
      c.is_outside-vi.ensures,
      c.is_outside-vm.ensures,
      back32 fa,
      back32 fd,
      back32 fi,
      back32 fm,
      any_append outside,
      any_append outside,
      any_append outside,
    )
