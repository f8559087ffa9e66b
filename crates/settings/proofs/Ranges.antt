-- The test of the ranges of a set says exactly what Q-5 7 says of the four values.
-- Assumes nothing.
use mathlib.Core.Path.{◌≡◌, refl, sym, ◌∙◌}
use mathlib.Core.Bool.{Bool, true, ◌&&◌, and-eq-true_iff}
use mathlib.Core.Logic.{◌↔◌}
use Prim.Native.Nat.{zero, suc}
use native.Mathlib.Omega.{arith}
use borrow.Author.Tests.{le-leb, ltb-true}
use lib.Dec.{leb-zero, leb-suc-zero, leb-suc-suc}
use lib.IntN.{ℤ, pos, negsuc, suc_ℤ, pred_ℤ, ◌+ℤ◌, ◌-ℤ◌, +ℤ_one, -ℤ_one}
use lib.Signed.{lt_z, le_z}
use Rattle.numbers.specs.Tests.{between}
use Rattle.numbers.proofs.Kit.{le_z_trans}
use Rattle.program.specs.Variables.{range_of}
use Rattle.settings.specs.Sets.{all_in, in_ranges}
use Rattle.settings.specs.Requests.{KeepsRanges}
use Rattle.settings.specs.declared.Settings.{Settings}

-- At most one less than a number, and at least one more, is below and above it.
below_pred : (x y : ℤ) → le_z x (pred_ℤ y) ≡ lt_z x y
below_pred (pos a) (pos zero) = sym (leb-suc-zero a)
below_pred (pos a) (pos (suc b)) = sym (leb-suc-suc a b)
below_pred (pos a) (negsuc b) = refl
below_pred (negsuc a) (pos zero) = leb-zero a
below_pred (negsuc a) (pos (suc b)) = refl
below_pred (negsuc a) (negsuc b) = refl

suc_below : (x y : ℤ) → le_z (suc_ℤ x) y ≡ lt_z x y
suc_below (pos a) (pos b) = refl
suc_below (pos a) (negsuc b) = refl
suc_below (negsuc zero) (pos b) = leb-zero b
suc_below (negsuc (suc a)) (pos b) = refl
suc_below (negsuc zero) (negsuc b) = sym (leb-suc-zero b)
suc_below (negsuc (suc a)) (negsuc b) = sym (leb-suc-suc b a)

less_below : (x y : ℤ) → le_z x (y -ℤ pos 1) ≡ lt_z x y
less_below x y = rw (-ℤ_one y) (below_pred x y)

more_below : (x y : ℤ) → le_z (x +ℤ pos 1) y ≡ lt_z x y
more_below x y = rw (+ℤ_one x) (suc_below x y)

-- What is below is at most.
below_most : (x y : ℤ) → lt_z x y ≡ true → le_z x y ≡ true
below_most (pos a) (pos b) h = le-leb a b (omega (arith, ltb-true a b h))
below_most (pos a) (negsuc b) h = h
below_most (negsuc a) (pos b) h = refl
below_most (negsuc a) (negsuc b) h = le-leb b a (omega (arith, ltb-true b a h))

-- Tests that hold together.
two : (s t : Bool) → (s && t) ≡ true → (s ≡ true) × (t ≡ true)
two s t = (and-eq-true_iff s t).0

six : (a d p q r s : Bool) → ((a && d) && ((p && q) && (r && s))) ≡ true
    → (a ≡ true) × (d ≡ true) × (p ≡ true) × (q ≡ true) × (r ≡ true) × (s ≡ true)
six a d p q r s e =
    let t = two (a && d) ((p && q) && (r && s)) e in
    let first = two a d t.0 in
    let last = two (p && q) (r && s) t.1 in
    let vi = two p q last.0 in
    let vm = two r s last.1 in
    (first.0, first.1, vi.0, vi.1, vm.0, vm.1)

-- The tests of a set, with VI and VM as the set itself has them.
unfolded : (g : Settings) → in_ranges g
    ≡ ((between (pos 1) (pos 2147483647) g.a && between (pos 1) (pos 2147483647) g.d)
    && ((le_z (pos 1) g.vi && lt_z g.vi g.vm) && (lt_z g.vi g.vm && le_z g.vm (pos 2560000))))
unfolding all_in in_ranges range_of
unfolded g = rw (less_below g.vi g.vm, more_below g.vi g.vm) refl

-- Both ways, value by value.
pub keeps_exactly : (g : Settings) → (in_ranges g ≡ true) ↔ KeepsRanges g
keeps_exactly g = (to, from) where
  to : in_ranges g ≡ true → KeepsRanges g
  to e =
      let t =
      six (between (pos 1) (pos 2147483647) g.a) (between (pos 1) (pos 2147483647) g.d)
      (le_z (pos 1) g.vi) (lt_z g.vi g.vm) (lt_z g.vi g.vm) (le_z g.vm (pos 2560000)) (sym (unfolded g) ∙ e) in
      let most : le_z g.vi g.vm ≡ true = below_most g.vi g.vm t.3 in
      record {
        a = t.0;
        d = t.1;
        vi = rw (t.2, le_z_trans g.vi g.vm (pos 2560000) most t.5);
        vm = rw (le_z_trans (pos 1) g.vi g.vm t.2 most, t.5);
        below = t.3;
      }

  from : KeepsRanges g → in_ranges g ≡ true
  from k =
      unfolded g
      ∙ rw (
        k.a,
        k.d,
        (two (le_z (pos 1) g.vi) (le_z g.vi (pos 2560000)) k.vi).0,
        (two (le_z (pos 1) g.vm) (le_z g.vm (pos 2560000)) k.vm).1,
        k.below,
      )
