-- `are_within` meets its contract: the four tests.
-- Assumes nothing.
use mir.Val.{SFits}
use mir.Syntax.{w32}
use Rattle.numbers.proofs.Kit.{fit32, back32}
use Rattle.settings.specs.Sets.{all_in}
use Rattle.settings.proofs.are_within.Goals as goal

pub returns : goal.returns
unfolding all_in
returns c =
    let g = c.args.g in
    let fa : SFits w32 g.a = fit32 _ c.well_formed.0.1.1.0.1 in
    let fd : SFits w32 g.d = fit32 _ c.well_formed.0.1.1.1.0.1 in
    let fi : SFits w32 g.vi = fit32 _ c.well_formed.0.1.1.1.1.0.1 in
    let fm : SFits w32 g.vm = fit32 _ c.well_formed.0.1.1.1.1.1.0.1 in
    rw (
      c.is_within-a.ensures,
      c.is_within-d.ensures,
      c.is_within-start.ensures,
      c.is_within-top.ensures,
      back32 fa,
      back32 fd,
      back32 fi,
      back32 fm,
      back32 c.ranges.vi,
      back32 c.ranges.vm,
    )
