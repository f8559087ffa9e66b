-- `field_sum` meets its contract: four fields, each of which adds no more than it weighs; values are the same where their bits are.
-- Assumes nothing.
use mir.Val.{SFits}
use mir.Syntax.{w32}
use Rattle.numbers.proofs.Kit.{fit32, same_bits}
use Rattle.comparing.specs.Differences.{field_sum}
use Rattle.comparing.proofs.field_sum.Goals as goal

pub returns : goal.returns
unfolding field_sum
returns c =
    let f : SFits w32 c.args.a.value = fit32 _ c.well_formed.0.1.1.1.1.1.1.0.1 in
    let g : SFits w32 c.args.b.value = fit32 _ c.well_formed.1.0.1.1.1.1.1.1.0.1 in
    rw (c.weight-turn.ensures.0, c.weight-kind.ensures.0, c.weight-number.ensures.0, c.weight-value.ensures.0, same_bits _ _ f g)
