-- `has_layout` meets its contract: the code's table is that of the layouts.
-- Assumes nothing.
use mathlib.Core.Path.{refl, ap, ◌∙◌}
use mathlib.Core.Bool.{Bool}
use mathlib.Core.List.{List, map}
use Prim.Native.Nat.{ℕ}
use borrow.Author.Tests.{tests}
use Rattle.std.proofs.Common.{rules}
use Rattle.std.proofs.lemmas.Iterator.{YieldsList-from_slice}
use Rattle.std.proofs.lemmas.Iterator.Search.{any_from_yields_List}
use Rattle.std.specs.Slice.Iter.{iter_rest}
use Rattle.numbers.specs.Tests.{any_of}
use Rattle.image.specs.Check.{layouts}
use Rattle.cells.specs.Code.{use_of, fits_of}
use Rattle.cells.proofs.Searches.{any_row}
use Rattle.cells.proofs.has_layout.Goals as goal

pub returns : goal.returns
unfolding layouts use_of
returns c =
    let fitting = fits_of c.args.variables c.args.aimed c.args.f in
    any_from_yields_List (λ u. fitting (use_of u)) _ _ c.any.result c.any.ensures.ran (YieldsList-from_slice (iter_rest c.iter.result) refl) (λ x b q k. search (rules, tests))
    ∙ any_row use_of fitting (iter_rest c.iter.result)
    ∙ ap (λ (rows : List (ℕ × Bool × ℕ × Bool × Bool × Bool)). any_of fitting (map use_of rows)) c.iter.ensures.rest
