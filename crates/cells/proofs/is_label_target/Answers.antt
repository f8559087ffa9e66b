-- `is_label_target` meets its contract: a search over the label records.
-- Assumes nothing.
use mathlib.Core.Path.{refl, ◌∙◌}
use borrow.Author.Tests.{tests}
use lib.Dec.{eqb}
use Rattle.std.proofs.Common.{rules}
use Rattle.image.specs.Code.{labelled, target_of}
use Rattle.image.specs.Layout.{label_target, label_place}
use Rattle.numbers.proofs.Searches.{found_below}
use Rattle.cells.proofs.is_label_target.Goals as goal

pub returns : goal.returns
unfolding labelled label_target label_place target_of
returns c =
    found_below (λ k. eqb (target_of c.cell_count-cells.result c.args.s.now k) c.args.target) c.label_count.result refl c.any.ensures.ran (λ x b q k. search (rules, tests))
    ∙ rw (c.label_count.ensures, c.cell_count-cells.ensures)
