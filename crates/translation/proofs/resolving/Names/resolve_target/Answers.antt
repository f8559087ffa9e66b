-- `Names::resolve_target` meets its contract.
-- Assumes nothing.
use mathlib.Core.Path.{◌∙◌}
use Rattle.translation.specs.Resolving.{place_in}
use Rattle.translation.proofs.Writing.{target_none, target_placed}
use Rattle.translation.proofs.resolving.Names.resolve_target.Goals as goal

pub returns-then-target : goal.returns-then-target
returns-then-target c = target_none (place_in c.args.self.rows.now) _ c.if-target.true

pub returns : goal.returns
returns c = c.place_of.ensures ∙ target_placed (place_in c.args.self.rows.now) c.args.target c.if-target.false
