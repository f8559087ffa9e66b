-- `bad_cells` meets its contract: a search over the cells.
-- Assumes nothing.
use mathlib.Core.Path.{refl, ◌∙◌}
use borrow.Author.Tests.{tests}
use Rattle.std.proofs.Common.{rules}
use Rattle.image.specs.Check.{bad_cell, bad_cells}
use Rattle.numbers.proofs.Searches.{found_below}
use Rattle.cells.proofs.bad_cells.Goals as goal

pub returns : goal.returns
unfolding bad_cells
returns c =
    found_below (bad_cell c.args.s.now) c.cell_count.result refl c.any.ensures.ran (λ x b q k. search (rules, tests))
    ∙ rw c.cell_count.ensures
