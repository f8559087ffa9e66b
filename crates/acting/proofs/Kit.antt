-- Results that are 1 or are not, numbers that fit 32 bits, and the divisor.
-- Assumes nothing.
use mathlib.Core.Path.{◌≡◌, refl, sym, ◌∙◌}
use mathlib.Core.Bool.{Bool, true, false, cond, ◌&&◌, and-eq-true_iff}
use Prim.Native.Nat.{ℕ, ◌^◌, ◌<◌, ◌≤◌}
use native.Mathlib.Omega.{arith}
use borrow.Author.Tests.{eq-eqb, ne_eqb, eqb-true, leb-true}
use lib.Dec.{T, eqb, leb}
use lib.IntN.{ℤ, pos, negsuc, nat_abs}
use lib.Signed.{mag, non_neg}
use mir.Syntax.{w32, w64}
use mir.Val.{Fits, SFits, to_z, of_z, hbits}
use mir.Facts.{to_z-of_z, sfits_lit}
use Rattle.numbers.specs.Tests.{eq_z}
use Rattle.numbers.proofs.Kit.{fit32, back32, same_bits, within32}
use Rattle.program.specs.Variables.{in_range, literals, hold_range}
use Rattle.program.specs.Statements.{Plus, Minus, Times, Divided, BitAnd, BitOr, BitXor}
use Rattle.program.specs.Cells.{operator_of}
use Rattle.effects.specs.Effects.{zero_divisor}

-- A callee's result is 1, or is not.
module _ (r z : ℤ) (h : mag r < 2 ^ hbits w32) (e : r ≡ z) where
  one : eqb (of_z w32 r) 1 ≡ eq_z z (pos 1)
  one = rw (← e) (same_bits r (pos 1) (fit32 r h) (sfits_lit tt))

  pub is_one : of_z w32 r ≡ 1 → eq_z z (pos 1) ≡ true
  is_one t = sym one ∙ eq-eqb (of_z w32 r) 1 t

  pub not_one : (of_z w32 r ≡ 1 → ⊥) → eq_z z (pos 1) ≡ false
  not_one t = sym one ∙ ne_eqb (of_z w32 r) 1 t

-- What is in the range of a literal is in 32 bits: `as i32`, and read back.
module _ {z : ℤ} (f : SFits w64 z) (h : in_range literals z ≡ true) where
  pub narrow : SFits w32 (to_z w64 (of_z w64 z))
  narrow = rw (to_z-of_z {w = w64} f) (within32 (negsuc 2147483646) (pos 2147483647) z refl refl h)

  pub narrowed : to_z w32 (of_z w32 (to_z w64 (of_z w64 z))) ≡ z
  narrowed = back32 narrow ∙ to_z-of_z {w = w64} f

-- `x as u32` of a hold's turns.
positive : (z : ℤ) → in_range hold_range z ≡ true → T (non_neg z) × Fits w32 (nat_abs z) × (1 ≤ nat_abs z)
positive (pos n) h =
    let b = (and-eq-true_iff (leb 1 n) (leb n 65000)).0 h in
    let lo = leb-true 1 n b.0 in
    let hi = leb-true n 65000 b.1 in
    (tt, record { fits = omega arith }, lo)
positive (negsuc n) h = let e : ◌≡◌ {A = ℕ} 0 1 = cc in absurd (omega arith)

module _ {z : ℤ} (f : SFits w32 z) (h : in_range hold_range z ≡ true) where
  pub turns_fit : T (non_neg (to_z w32 (of_z w32 z))) × Fits w32 (nat_abs (to_z w32 (of_z w32 z)))
  turns_fit = rw (back32 f) (let p = positive z h in (p.0, p.1))

  pub turns_some : 1 ≤ nat_abs (to_z w32 (of_z w32 z))
  turns_some = rw (back32 f) (positive z h).2

-- A zero divisor, by the number of the operator; the bits of y are 0 exactly for 0.
not_divided : (a b c e f : Bool) (y : ℤ)
    → zero_divisor (cond a Plus (cond b Minus (cond c Times (cond false Divided (cond e BitAnd (cond f BitOr BitXor)))))) y ≡ false
unfolding zero_divisor
not_divided true b c e f y = refl
not_divided false true c e f y = refl
not_divided false false true e f y = refl
not_divided false false false true f y = refl
not_divided false false false false true y = refl
not_divided false false false false false y = refl

pub divisor_test : (n : ℕ) (y : ℤ) → zero_divisor (operator_of n) y ≡ (eqb n 4 && eq_z y (pos 0))
unfolding operator_of zero_divisor
divisor_test n y = pick (eqb n 4) refl
  where
    pick : (t : Bool) → eqb n 4 ≡ t → zero_divisor (operator_of n) y ≡ (t && eq_z y (pos 0))
    pick true e = rw (eqb-true n 4 e)
    pick false e = rw e (not_divided (eqb n 1) (eqb n 2) (eqb n 3) (eqb n 5) (eqb n 6) y)
