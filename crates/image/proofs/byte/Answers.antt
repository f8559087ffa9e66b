-- `byte` meets its contract: a field of one byte is that byte.
-- Assumes nothing.
use mathlib.Core.Path.{◌≡◌, sym, ◌∙◌}
use borrow.Author.Rules.{rules}
use lib.ListN.{get_or}
use Rattle.numbers.proofs.Laws.{field_one}
use Rattle.image.proofs.byte.Goals as goal

pub returns : goal.returns
returns c =
    let e : c.unwrap_or.result ≡ get_or c.args.s.now c.args.place 0 = search rules in
    e ∙ sym (field_one _ _)
