-- The size and the sign of a literal, as the code makes a number of them.
-- Assumes nothing.
use mathlib.Core.Path.{◌≡◌, refl, sym, ap, ◌∙◌}
use mathlib.Core.Bool.{Bool, true, false, not, and-true}
use Prim.Native.Nat.{ℕ, zero, suc, ◌-◌, ◌≤◌, ◌<◌}
use native.Mathlib.Omega.{arith}
use borrow.Author.Tests.{lt-ltb, le-ltb, ltb-true, ltb-false, leb-true, leb-false}
use lib.Dec.{leb, ltb}
use lib.IntN.{pos, negsuc, neg_ℤ, ◌-ℤ◌, sub_ℕ}
use mir.Syntax.{w32}
use mir.Val.{SFits}
use Rattle.text.specs.Faults.{too_big, big_value}
use Rattle.forms.specs.Code.{meaning, value_of, start_of}
use Rattle.reading.specs.Code.{small_of}
use Rattle.forms.specs.declared.Value.{Value}
use Rattle.forms.specs.declared.Value.TheVariants as Val

not_leb : (a b : ℕ) → not (leb a b) ≡ ltb b a
not_leb a b = pick (leb a b) refl
  where
    pick : (t : Bool) → leb a b ≡ t → not t ≡ ltb b a
    pick true e = sym (le-ltb b a (leb-true a b e))
    pick false e = sym (lt-ltb b a (leb-false a b e))

ltb_step : (a b : ℕ) → ltb a b ≡ ltb (suc a) (suc b)
ltb_step a b = pick (ltb a b) refl
  where
    pick : (t : Bool) → ltb a b ≡ t → t ≡ ltb (suc a) (suc b)
    pick true e = sym (lt-ltb (suc a) (suc b) (omega (arith, ltb-true a b e)))
    pick false e = sym (le-ltb (suc a) (suc b) (omega (arith, ltb-false a b e)))

-- A literal is too big by its size alone.
pub big_size : (negative : Bool) (size : ℕ) → too_big (meaning negative size) ≡ ltb 2147483647 size
unfolding too_big meaning
big_size false s = not_leb s 2147483647
big_size true zero = refl
big_size true (suc s) = ap not (and-true (leb s 2147483646)) ∙ not_leb s 2147483646 ∙ ltb_step 2147483646 s

pub small_big : (negative : Bool) (size : ℕ) → 2147483647 < size → pos 0 ≡ small_of (meaning negative size)
unfolding small_of
small_big n s h = rw (big_size n s, lt-ltb 2147483647 s h)

pub small_is : (negative : Bool) (size : ℕ) → size ≤ 2147483647 → small_of (meaning negative size) ≡ meaning negative size
unfolding small_of
small_is n s h = rw (big_size n s, le-ltb 2147483647 s h)

below_zero : (v : ℕ) → sub_ℕ 0 (suc v) ≡ negsuc v
below_zero v = let e : suc v - suc 0 ≡ v = omega arith in simp (lt-ltb 0 (suc v) (omega arith), e)

-- 0 less a number that fits is its opposite, and fits.
pub opposite : (v : ℕ) → v ≤ 2147483647 → SFits w32 (pos 0 -ℤ pos v) × (pos 0 -ℤ pos v ≡ neg_ℤ (pos v))
opposite zero h = (record { sfits = omega arith }, refl)
opposite (suc v) h = (record { sfits = rw (below_zero v) (omega arith) }, below_zero v)

pub meaning_below : (negative : Bool) (size : ℕ) → negative ≡ true → neg_ℤ (pos size) ≡ meaning negative size
unfolding meaning
meaning_below n s e = rw e

pub meaning_above : (negative : Bool) (size : ℕ) → negative ≡ false → pos size ≡ meaning negative size
unfolding meaning
meaning_above n s e = rw e

-- A start value is as big as the literal that it is.
pub big_start : (v : Value) → big_value (value_of v) ≡ too_big (start_of v)
unfolding big_value value_of start_of too_big
big_start (Val.Literal n s) = refl
big_start (Val.Variable k) = refl
