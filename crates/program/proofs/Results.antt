-- What a caller of a function with a signed result needs: the result, read back from its bits, is what the callee ensures; and tests, by what is tested.
-- Assumes nothing.
use mathlib.Core.Path.{◌≡◌, sym, ◌∙◌}
use mathlib.Core.Bool.{Bool, true, false}
use Prim.Native.Nat.{◌^◌, ◌<◌}
use lib.Dec.{eqb}
use lib.IntN.{ℤ, pos}
use lib.Signed.{mag}
use mir.Syntax.{w32, w64}
use mir.Val.{SFits, to_z, of_z, hbits}
use mir.Facts.{to_z-of_z, sfits_lit}
use Rattle.numbers.specs.Tests.{eq_z}
use Rattle.numbers.proofs.Kit.{fit32, fit64, back32, back64, same_bits}
use Rattle.program.specs.declared.Range.{Range}
use Rattle.program.specs.Variables.{in_range}

module _ (r z : ℤ) where
  pub got32 : mag r < 2 ^ hbits w32 → r ≡ z → to_z w32 (of_z w32 r) ≡ z
  got32 h e = back32 (fit32 r h) ∙ e

  pub got64 : mag r < 2 ^ hbits w64 → r ≡ z → to_z w64 (of_z w64 r) ≡ z
  got64 h e = to_z-of_z {w = w64} (fit64 r h) ∙ e

  -- After `as i64`.
  pub widened : mag r < 2 ^ hbits w32 → r ≡ z → to_z w64 (of_z w64 (to_z w32 (of_z w32 r))) ≡ z
  widened h e = back64 (fit32 r h) ∙ e

-- A test of a callee that led to an answer, in the words of what the callee ensures.
module _ {b t : Bool} (e : b ≡ t) where
  pub held : b ≡ true → t ≡ true
  held h = sym e ∙ h

  pub failed : b ≡ false → t ≡ false
  failed h = sym e ∙ h

-- A test of range, by what the range and the value are.
pub tested : {r s : Range} {z x : ℤ} {b : Bool} → b ≡ in_range r z → r ≡ s → z ≡ x → b ≡ in_range s x
tested e f g = rw (← f, ← g) e

-- A signed number that is 0, by its bits.
pub zero_test : (y : ℤ) → SFits w32 y → eqb (of_z w32 y) 0 ≡ eq_z y (pos 0)
zero_test y f = same_bits y (pos 0) f (sfits_lit tt)
