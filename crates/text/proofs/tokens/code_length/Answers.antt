-- `code_length` meets its contract.
-- Assumes nothing.
use lib.ListN.{length}
use mathlib.Core.Path.{ap, ◌∙◌}
use Rattle.std.specs.Prelude.{unwrap_or}
use Rattle.text.proofs.Scanning.{code_position}
use Rattle.text.proofs.tokens.code_length.Goals as goal

pub returns : goal.returns
returns c =
    let l = c.args.l.now in
    c.unwrap_or.ensures ∙ ap (λ o. unwrap_or o (length l)) c.comment_start.ensures ∙ code_position l
