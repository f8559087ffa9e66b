-- `write_entry` meets its contract: nothing for a sum of 0, else both numbers in eight bytes.
-- Assumes nothing.
use mathlib.Core.Path.{refl, ap, ◌∙◌}
use native.Mathlib.Omega.{arith}
use borrow.Author.Tests.{eq-eqb, ne_eqb}
use lib.Seq.{sets}
use Rattle.comparing.specs.Differences.{weight, entry_bytes}
use Rattle.comparing.proofs.write_entry.Goals as goal

pub returns-then-sum-eq0 : goal.returns-then-sum-eq0
unfolding weight
returns-then-sum-eq0 c = rw (eq-eqb _ _ c.if-sum-eq0.true) (omega arith, refl)

pub returns : goal.returns
unfolding weight entry_bytes
returns c =
    rw (ne_eqb _ _ c.if-sum-eq0.false) (refl, c.write.ensures ∙ ap (sets _ _) c.eight_bytes.ensures)
