-- `place_in` meets its contract: the first row with the key.
-- Assumes nothing.
use mathlib.Core.Path.{◌∙◌}
use Prim.Native.Nat.{ℕ}
use mathlib.Core.List.{List}
use lib.Dec.{eqb}
use mir.Syntax.{w16}
use borrow.Author.Tests.{tests}
use Rattle.std.proofs.Common.{rules}
use Rattle.std.specs.Int.{from_le_bytes}
use Rattle.std.proofs.lemmas.Iterator.{YieldsList-from_slice}
use Rattle.std.proofs.lemmas.Iterator.Search.{position_from_yields_List}
use Rattle.program.proofs.Places.{place_found}
use Rattle.program.proofs.names.place_in.Goals as goal

pub returns : goal.returns
returns c =
    position_from_yields_List (λ (row : List ℕ). eqb (from_le_bytes w16 row) c.args.key) _ _ _ c.position.ensures.ran (YieldsList-from_slice c.args.table.now cc) (λ x b q k. search (rules, tests))
    ∙ place_found c.args.key c.args.table.now
