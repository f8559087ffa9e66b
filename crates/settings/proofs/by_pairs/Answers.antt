-- `by_pairs` meets its contract: each value by its number.
-- Assumes nothing.
use mathlib.Core.Path.{◌∙◌}
use mir.Val.{SFits}
use mir.Syntax.{w32}
use Rattle.numbers.proofs.Kit.{fit32, back32}
use Rattle.program.proofs.Results.{got32}
use Rattle.settings.specs.Sets.{by_pairs}
use Rattle.settings.proofs.by_pairs.Goals as goal

pub returns : goal.returns
unfolding by_pairs
returns c =
    let g = c.args.given in
    let fa : SFits w32 g.a = fit32 _ c.well_formed.1.0.1.1.0.1 in
    let fd : SFits w32 g.d = fit32 _ c.well_formed.1.0.1.1.1.0.1 in
    let fi : SFits w32 g.vi = fit32 _ c.well_formed.1.0.1.1.1.1.0.1 in
    let fm : SFits w32 g.vm = fit32 _ c.well_formed.1.0.1.1.1.1.1.0.1 in
    rw (
      got32 _ _ c.unwrap_or.type_inv (c.unwrap_or.ensures ∙ c.under.ensures.shown _),
      got32 _ _ c.unwrap_or-2.type_inv (c.unwrap_or-2.ensures ∙ c.under-2.ensures.shown _),
      got32 _ _ c.unwrap_or-3.type_inv (c.unwrap_or-3.ensures ∙ c.under-3.ensures.shown _),
      got32 _ _ c.unwrap_or-4.type_inv (c.unwrap_or-4.ensures ∙ c.under-4.ensures.shown _),
      back32 fa,
      back32 fd,
      back32 fi,
      back32 fm,
    )
