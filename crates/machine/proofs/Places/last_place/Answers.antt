-- `Places::last_place` meets its contract: past the last place stands an unused one.
-- Assumes nothing.
use mathlib.Core.Path.{◌≡◌, sym, ◌∙◌}
use Prim.Native.Nat.{◌-◌}
use native.Mathlib.Omega.{arith}
use borrow.Author.Rules.{rules}
use lib.ListN.{length}
use Rattle.numbers.proofs.Kit.{length_held, array_out}
use Rattle.numbers.proofs.Lists.{within}
use Rattle.machine.specs.Turn.{unused, last_place}
use Rattle.machine.proofs.Places.last_place.Goals as goal

pub returns-then-last-ge-MOST : goal.returns-then-last-ge-MOST
unfolding last_place
returns-then-last-ge-MOST c =
    c.by_call.ensures
    ∙ sym (array_out _ c.args.self.all 8 _ _ (search (rules, length_held)) c.if-last-ge-MOST.true)

pub returns : goal.returns
unfolding last_place
returns c =
    let n : length c.args.self.all ≡ 8 = search (rules, length_held) in
    let k = c.if-last-ge-MOST.false in
    within c.args.self.all (c.args.self.kept - 1) _ unused (omega arith)
