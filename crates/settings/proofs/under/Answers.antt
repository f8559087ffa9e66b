-- `under` meets its contract: the invariant: the pairs that are left give what all of them give.
-- Assumes nothing.
use mathlib.Core.Path.{sym, ap, ◌∙◌}
use mathlib.Core.List.{List}
use native.Mathlib.Omega.{arith}
use borrow.Author.Rules.{rules}
use Rattle.numbers.proofs.Kit.{back32}
use Rattle.settings.specs.Sets.{under, has}
use Rattle.settings.specs.declared.Pair.{Pair}
use Rattle.settings.proofs.Loops.{rest_all, under_here, under_next, under_end, has_here, has_next, has_end}
use Rattle.settings.proofs.under.Goals as goal

pub loop-i-init : goal.loop-i-init
loop-i-init c =
    let all = rest_all c.args.s.now _ c.pair_count-count.ensures in
    record {
      shown = λ z. ap (λ (ps : List Pair). under c.args.v ps z) all;
      found = ap (has c.args.v) all;
    }

pub returns-then-is_of : goal.returns-then-is_of
returns-then-is_of c =
    let l = c.loop-i in
    let e = c.pair_at-p.ensures in
    let f = c.is_of.ensures in
    let t = c.if-is_of.true in
    record {
      shown = λ z. back32 (search rules) ∙ sym (under_here _ _ l.i _ c.loop-i-test.true e f z t) ∙ l.invariant.shown z;
      found = sym (has_here _ _ l.i _ c.loop-i-test.true e f t) ∙ l.invariant.found;
    }

pub loop-i-preserved : goal.loop-i-preserved
loop-i-preserved c =
    let l = c.loop-i in
    let e = c.pair_at-p.ensures in
    let f = c.is_of.ensures in
    let t = c.if-is_of.false in
    record {
      shown = λ z. sym (under_next _ _ l.i _ c.loop-i-test.true e f z t) ∙ l.invariant.shown z;
      found = sym (has_next _ _ l.i _ c.loop-i-test.true e f t) ∙ l.invariant.found;
    }

pub returns : goal.returns
returns c =
    let l = c.loop-i in
    record {
      shown = λ z. sym (under_end _ _ l.i _ z (omega arith)) ∙ l.invariant.shown z;
      found = sym (has_end _ _ l.i _ (omega arith)) ∙ l.invariant.found;
    }
