-- `Places::calls_only` meets its contract: the first i places are changed; once all eight are, a change leaves them.
-- Assumes nothing.
use mathlib.Core.Path.{◌≡◌, refl, sym, ap, ◌∙◌}
use mathlib.Core.List.{List}
use Prim.Native.Nat.{ℕ, suc, ◌+◌, ◌%◌, ◌<◌}
use native.Mathlib.Nat.{mod-eq_of_lt, mod-lt}
use native.Mathlib.Omega.{arith}
use borrow.Author.Rules.{rules}
use lib.ListN.{length, get_or, set}
use lib.Seq.{set-get_or}
use Rattle.numbers.proofs.Kit.{length_held}
use Rattle.numbers.proofs.Truth.{if_below}
use Rattle.numbers.proofs.Lists.{changed_first, changed_more, changed_all, changed_at}
use Rattle.machine.specs.declared.Place.{Place}
use Rattle.machine.specs.Turn.{as_call, calls_only}
use Rattle.machine.proofs.Places.calls_only.Goals as goal

-- One place more.
changed_next : (l : List Place) (d : Place) (i : ℕ) → length l ≡ 8
    → set (changed_first as_call i l) (i % 8) (as_call (get_or (changed_first as_call i l) (i % 8) d)) ≡ changed_first as_call (suc i) l
changed_next l d i n =
    if_below i 8
    (λ h. rw (mod-eq_of_lt h) (changed_more as_call l i d (omega arith)))
    (λ h.
    let j = i % 8 in
    let k : j < length l = let m = mod-lt i {m = 8} (omega arith) in omega arith in
    let same : as_call (get_or (changed_first as_call i l) j d) ≡ get_or (changed_first as_call i l) j d = rw (changed_at as_call l i j d (omega arith) k) in
    ap (set (changed_first as_call i l) j) same ∙ set-get_or (changed_first as_call i l) j d ∙ changed_all as_call l i (omega arith) ∙ sym (changed_all as_call l (suc i) (omega arith)))

pub loop-i-init : goal.loop-i-init
loop-i-init c = let n : length c.args.self.all ≡ 8 = search (rules, length_held) in (refl, n, omega arith, refl)

pub loop-i-preserved : goal.loop-i-preserved
loop-i-preserved c =
    let at = c.loop-i in
    let all = c.args.self.all in
    let more : suc at.i ≡ at.i + 1 = omega arith in
    (rw (c.as_call.ensures, at.invariant.0, ← more) (changed_next all _ at.i at.invariant.1), at.invariant.1, omega arith, at.invariant.3)

pub returns : goal.returns
unfolding calls_only
returns c =
    let at = c.loop-i in
    let e : at.i ≡ c.args.self.kept = omega arith in
    rw (at.invariant.0, at.invariant.3, e)
