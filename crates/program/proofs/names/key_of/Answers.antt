-- `key_of` meets its contract: the row at its place.
-- Assumes nothing.
use mathlib.Core.Path.{sym, ap, ◌∙◌}
use borrow.Author.Tests.{ltb-true, ltb-false}
use mir.Syntax.{w16}
use Rattle.std.specs.Int.{from_le_bytes}
use Rattle.program.proofs.Places.{key_at_lem, no_key_lem}
use Rattle.program.proofs.names.key_of.Goals as goal

pub returns-in-Some : goal.returns-in-Some
returns-in-Some c =
    let found = c.in-Some.ensures.lookup in
    let at = c.saturating_sub.ensures in
    c.from_le_bytes.ensures ∙ ap (from_le_bytes w16) found.1 ∙ key_at_lem _ _ _ (ltb-true _ _ (sym found.0)) ∙ rw at

pub returns-in-None : goal.returns-in-None
returns-in-None c =
    let at = c.saturating_sub.ensures in
    no_key_lem _ _ (ltb-false _ _ (sym c.in-None.ensures.lookup.0)) ∙ rw at
