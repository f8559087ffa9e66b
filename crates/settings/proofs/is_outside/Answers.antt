-- `is_outside` meets its contract: a name that is not chosen has no pair.
-- Assumes nothing.
use mathlib.Core.Path.{sym, ap, ◌∙◌}
use mathlib.Core.Bool.{not}
use Rattle.numbers.proofs.Kit.{back32}
use Rattle.program.specs.Variables.{in_range, range_of}
use Rattle.settings.specs.Sets.{own_range}
use Rattle.settings.proofs.Stored.{outside_not, outside_one}
use Rattle.settings.proofs.is_outside.Goals as goal

pub returns-then-not-chosen : goal.returns-then-not-chosen
returns-then-not-chosen c = sym (outside_not _ _ c.if-not-chosen.true)

pub returns : goal.returns
unfolding own_range range_of
returns c =
    ap not (c.is_within.ensures ∙ ap (in_range (own_range c.args.v)) (back32 c.ranges.value)) ∙ sym (outside_one _ _ c.if-not-chosen.false)
