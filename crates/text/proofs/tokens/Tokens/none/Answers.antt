-- `Tokens::none` meets its contract.
-- Assumes nothing.
use Rattle.text.proofs.tokens.Tokens.none.Goals as goal

pub returns : goal.returns
returns c = rw c.none.ensures
