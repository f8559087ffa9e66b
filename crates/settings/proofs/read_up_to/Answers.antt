-- `read_up_to` meets its contract: refused by its length, its edition, its layout or the finished set, or accepted.
-- Assumes nothing.
use mathlib.Core.Path.{◌≡◌, refl, sym, ap, ◌∙◌}
use mathlib.Core.Bool.{false, ◌&&◌, ◌||◌}
use Prim.Native.Nat.{ℕ, ◌≤◌}
use native.Mathlib.Omega.{arith}
use borrow.Author.Rules.{rules}
use borrow.Author.Tests.{ltb-false}
use lib.Dec.{leb, ltb}
use Rattle.numbers.proofs.Kit.{back32}
use Rattle.numbers.proofs.Truth.{neither}
use Rattle.settings.specs.Calls.{shown}
use Rattle.settings.proofs.Cases.{number_41, number_42, number_43, number_44, number_0, gives_refused, gives_accepted}
use Rattle.settings.proofs.Loops.{within_tested}
use Rattle.settings.proofs.read_up_to.Goals as goal

-- a file that is no shorter and no longer than it may be
long : {s : ℕ} → (ltb s 8 || ltb 40 s) ≡ false → (8 ≤ s) × (s ≤ 65535)
long {s} e = let n = neither (ltb s 8) (ltb 40 s) e in omega (arith, ltb-false s 8 n.0, ltb-false 40 s n.1)

-- the test of the edition, by the edition of the file
known : (last : ℕ) {e f : ℕ} → e ≡ f → (leb 1 f && leb f last) ≡ (leb 1 e && leb e last)
known last e = ap (λ (k : ℕ). leb 1 k && leb k last) (sym e)

pub returns-then-s : goal.returns-then-s
returns-then-s c = gives_refused _ _ _ (number_41 _ _ _ c.if-s.true) (λ z. omega arith) refl

pub returns-then-not-edition-last : goal.returns-then-not-edition-last
returns-then-not-edition-last c =
    gives_refused _ _ _ (number_42 _ _ _ c.if-s.false (known c.args.last c.edition-edition.ensures ∙ c.if-not-edition-last.true)) (λ z. omega arith) refl

pub returns-then-not-is_laid_out : goal.returns-then-not-is_laid_out
returns-then-not-is_laid_out c =
    gives_refused _ _ _
    (number_43 _ _ _ c.if-s.false (known c.args.last c.edition-edition.ensures ∙ c.if-not-edition-last.false) (sym c.is_laid_out.ensures ∙ c.if-not-is_laid_out.true))
    (λ z. omega arith) refl

pub returns-then-not-are_within : goal.returns-then-not-are_within
returns-then-not-are_within c =
    let tested =
    within_tested c.are_within.ensures (back32 (search rules)) (back32 (search rules)) c.finished-settings.ensures in
    gives_refused _ _ _
    (number_44 _ _ _ c.if-s.false (known c.args.last c.edition-edition.ensures ∙ c.if-not-edition-last.false) (sym c.is_laid_out.ensures ∙ c.if-not-is_laid_out.false)
    (tested ∙ c.if-not-are_within.true))
    (λ z. omega arith) refl

pub returns : goal.returns
returns c =
    let tested =
    within_tested c.are_within.ensures (back32 (search rules)) (back32 (search rules)) c.finished-settings.ensures in
    gives_accepted _ _ _
    (number_0 _ _ _ c.if-s.false (known c.args.last c.edition-edition.ensures ∙ c.if-not-edition-last.false) (sym c.is_laid_out.ensures ∙ c.if-not-is_laid_out.false)
    (tested ∙ c.if-not-are_within.false))
    (ap (shown 0) c.finished-settings.ensures)
