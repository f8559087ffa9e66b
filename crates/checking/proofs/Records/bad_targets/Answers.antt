-- `bad_targets` meets its contract: a search over the label records.
-- Assumes nothing.
use mathlib.Core.Path.{refl, ◌∙◌}
use borrow.Author.Tests.{tests}
use Rattle.std.proofs.Common.{rules}
use Rattle.image.specs.Check.{bad_target}
use Rattle.numbers.proofs.Searches.{found_below}
use Rattle.checking.proofs.Records.bad_targets.Goals as goal

pub returns : goal.returns
returns c =
    let r = c.args.self.now in
    found_below (bad_target r.image.now) r.labels refl c.any.ensures.ran (λ x b q k. search (rules, tests))
    ∙ rw r.labels_counted
