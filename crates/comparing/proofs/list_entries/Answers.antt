-- `list_entries` meets its contract: the first buffer is bad, the second, the list is too short, or it is written.
-- Assumes nothing.
use mathlib.Core.Path.{refl, sym, ap, ◌∙◌}
use native.Mathlib.Omega.{arith}
use Rattle.comparing.specs.Calls.{compare_answered}
use Rattle.comparing.proofs.Buffers.{good}
use Rattle.comparing.proofs.Cases.{number_51, number_52, number_53, number_0, gives_refused, gives_accepted}
use Rattle.comparing.proofs.Entries.{laid_over}
use Rattle.comparing.proofs.list_entries.Goals as goal

pub returns-then-is_bad : goal.returns-then-is_bad
returns-then-is_bad c =
    gives_refused _ _ _ (number_51 _ _ _ (sym c.is_bad.ensures ∙ c.if-is_bad.true)) (λ z. omega arith) refl refl

pub returns-then-is_bad-2 : goal.returns-then-is_bad-2
returns-then-is_bad-2 c =
    gives_refused _ _ _ (number_52 _ _ _ (sym c.is_bad.ensures ∙ c.if-is_bad.false) (sym c.is_bad-2.ensures ∙ c.if-is_bad-2.true)) (λ z. omega arith) refl refl

pub invariant_of-sides : goal.invariant_of-sides
invariant_of-sides c =
    record { short = ((good _ (sym c.is_bad.ensures ∙ c.if-is_bad.false)).most, (good _ (sym c.is_bad-2.ensures ∙ c.if-is_bad-2.false)).most) }

pub returns-then-list-entries : goal.returns-then-list-entries
returns-then-list-entries c =
    gives_refused _ _ _
    (number_53 _ _ _ (sym c.is_bad.ensures ∙ c.if-is_bad.false) (sym c.is_bad-2.ensures ∙ c.if-is_bad-2.false) (omega (arith, c.count-entries.ensures.0, c.if-list-entries.true)))
    (λ z. omega arith) refl refl

pub returns : goal.returns
returns c =
    let room = c.if-list-entries.false in
    gives_accepted _ _ _
    (number_0 _ _ _ (sym c.is_bad.ensures ∙ c.if-is_bad.false) (sym c.is_bad-2.ensures ∙ c.if-is_bad-2.false) (omega (arith, c.count-entries.ensures.0, room)))
    (ap (compare_answered 0) c.count-entries.ensures.0)
    (c.write.ensures ∙ laid_over _ _ _ (omega (arith, c.count-entries.ensures.0, room)))
