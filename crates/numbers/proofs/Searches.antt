-- A search over the numbers below a bound.
-- Assumes nothing.
use mathlib.Core.Path.{◌≡◌, refl, sym, ap, ◌∙◌}
use mathlib.Core.Bool.{Bool, false, ◌||◌, or_assoc, or-false}
use mathlib.Core.List.{List, [], ◌∷◌, map}
use Prim.Native.Nat.{ℕ, zero, suc, ◌+◌, ◌-◌}
use native.Mathlib.Omega.{arith}
use Rattle.std.proofs.Common.{true}
use Rattle.std.specs.declared.ops.Range.{Range}
use Rattle.std.specs.Fn.{Called}
use Rattle.std.specs.Iterator.{YieldsThen}
use Rattle.std.specs.List.{list_any, range_with_len, FoldsTo}
use Rattle.std.specs.Option.{MatchOption}
use Rattle.std.specs.Prelude.{Option}
use Rattle.std.proofs.iter.Yields.{nat_range_steps}
use Rattle.std.proofs.lemmas.Iterator.{YieldsList-from_range}
use Rattle.std.proofs.lemmas.Iterator.Search.{any_from_yields_List}
use denote.Param.Members.{Mut}
use Rattle.numbers.specs.Tests.{any_of, any_below}

-- The numbers below a, and n from a on.
any_from : (p : ℕ → Bool) (a n : ℕ) → (any_below a p || list_any p (range_with_len a n)) ≡ any_below (a + n) p
unfolding any_below
any_from p a zero = let e : a + 0 ≡ a = omega arith in rw (e, or-false)
any_from p a (suc n) =
    let e : a + suc n ≡ suc a + n = omega arith in
    let f : a + 1 ≡ suc a = omega arith in
    rw (e, f) (sym (or_assoc (any_below a p) (p a) (list_any p (range_with_len (suc a) n))) ∙ any_from p (suc a) n)

pub any_range : (p : ℕ → Bool) (n : ℕ) → list_any p (range_with_len 0 n) ≡ any_below n p
unfolding any_below
any_range p n = let e : 0 + n ≡ n = omega arith in any_from p 0 n ∙ ap (λ (k : ℕ). any_below k p) e

-- What `any` finds over the numbers below a bound.
pub found_below : {F : Type 0} {g : Mut F (ℕ × Unit {0}) Bool} {s u : Range ℕ} {f : F} {r : Bool} (p : ℕ → Bool) (n : ℕ) → s ≡ record { start = 0; end = n }
    → (xs : List ℕ) × (o : Option ℕ) × (j : F) × YieldsThen nat_range_steps s xs o u × FoldsTo (λ q x h. Called g q (x, tt) false h) f xs j
    × MatchOption o (r ≡ false) (λ x. (r ≡ true) × ((h : F) × Called g j (x, tt) true h))
    → ((x : ℕ) (b : Bool) (q : F) → Called g f (x, tt) b q → (q ≡ f) × (b ≡ p x)) → r ≡ any_below n p
found_below {u} {f} {r} p n e ran test =
    let whole : n - 0 ≡ n = omega arith in
    any_from_yields_List p u f r ran (YieldsList-from_range 0 n n e whole) test ∙ any_range p n
