-- `declared` meets its contract.
-- Assumes nothing.
use mathlib.Core.Path.{sym, ◌∙◌}
use Rattle.reading.specs.Code.{declared_by}
use Rattle.reading.proofs.Parts.{key_spelt, reserved_spelt}
use Rattle.reading.proofs.declared.Goals as goal

pub returns-then-is_reserved : goal.returns-then-is_reserved
unfolding declared_by
returns-then-is_reserved c = rw (sym (c.is_reserved.ensures ∙ reserved_spelt _) ∙ c.if-is_reserved.true)

pub returns : goal.returns
unfolding declared_by
returns c = rw (sym (c.is_reserved.ensures ∙ reserved_spelt _) ∙ c.if-is_reserved.false, key_spelt)
