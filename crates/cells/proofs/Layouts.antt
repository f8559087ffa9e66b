-- A cell's fields fit a layout where those at its place do.
-- Assumes nothing.
use mathlib.Core.Path.{◌≡◌, refl, ap}
use mathlib.Core.Bool.{Bool, true, false, cond, ◌&&◌, not}
use mathlib.Core.List.{List}
use Prim.Native.Nat.{ℕ, ◌+◌, ◌*◌, ◌/◌, ◌%◌}
use borrow.Author.Tests.{eqb-true}
use lib.Dec.{eqb}
use Rattle.numbers.specs.Bytes.{field}
use Rattle.numbers.specs.Tests.{any_of}
use Rattle.image.specs.Layout.{variable_count}
use Rattle.image.specs.Check.{Use, layouts, good_written, good_selector, good_operand, good_target, fits, bad_cell}
use Rattle.cells.specs.Code.{fields_at, fits_of}
use Rattle.cells.specs.declared.Fields.{Fields}

-- A test behind that of two numbers may take either.
either_number : (m n : ℕ) (p : ℕ → Bool) → (eqb m n && p m) ≡ (eqb m n && p n)
either_number m n p = tested (eqb m n) refl where
  tested : (t : Bool) → eqb m n ≡ t → (t && p m) ≡ (t && p n)
  tested true e = ap p (eqb-true m n e)
  tested false e = refl

-- A target that is used or not.
aimed_target : (s : List ℕ) (operation target : ℕ) (used : Bool) → cond used (good_target s operation true target) (eqb target 0) ≡ good_target s operation used target
unfolding good_target
aimed_target s operation target true = refl
aimed_target s operation target false = refl

-- A cell's fields fit a layout where those at its place do; its target is judged by its own operation.
module _ (s : List ℕ) (k : ℕ) where
  abbrev aimed : Bool
  aimed = good_target s (field 1 (16 * k) s) true (field 2 (16 * k + 12) s)

  layout_fits : (u : Use) → fits_of (variable_count s) aimed (fields_at s k) u ≡ fits s (16 * k) u
  unfolding fits_of fields_at fits
  layout_fits u =
      rw (aimed_target s (field 1 (16 * k) s) (field 2 (16 * k + 12) s) u.target)
      (either_number (field 1 (16 * k) s) u.operation (λ o.
      good_written (variable_count s) u.writes (field 1 (16 * k + 1) s)
      && (good_selector u.selectors (field 1 (16 * k + 2) s)
      && (good_operand (variable_count s) u.left (field 1 (16 * k + 3) s % 4) (field 4 (16 * k + 4) s)
      && (good_operand (variable_count s) u.right (field 1 (16 * k + 3) s / 4) (field 4 (16 * k + 8) s)
      && (good_target s o u.target (field 2 (16 * k + 12) s) && eqb (field 2 (16 * k + 14) s) 0))))))

  pub layouts_fit : any_of (fits_of (variable_count s) aimed (fields_at s k)) layouts ≡ any_of (fits s (16 * k)) layouts
  unfolding any_of layouts
  layouts_fit = simp layout_fits

  -- What a cell's fields, its target and the layouts were found to be.
  pub cell_judged_by : {variables : ℕ} {f : Fields} {a fit : Bool} → variables ≡ variable_count s → f ≡ fields_at s k → a ≡ good_target s f.operation true f.target
      → fit ≡ any_of (fits_of variables a f) layouts → not fit ≡ bad_cell s k
  unfolding bad_cell fields_at
  cell_judged_by v e t h = rw (h, t, e, v, layouts_fit)
