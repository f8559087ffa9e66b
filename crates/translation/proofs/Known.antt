-- In a text without a fault the rows of its names have the places and the numbers of the paper.
-- Assumes nothing.
use mathlib.Core.Path.{◌≡◌, refl, sym, ap, ◌∙◌}
use mathlib.Core.Bool.{Bool, true, false, cond, ◌&&◌, not, and-true}
use mathlib.Core.List.{List}
use Prim.Native.Nat.{ℕ, ◌≤◌}
use native.Mathlib.Omega.{arith}
use borrow.Author.Tests.{not-false}
use lib.Dec.{eqb}
use lib.ListN.{length}
use Rattle.numbers.specs.Tests.{any_of}
use Rattle.numbers.proofs.Truth.{neither}
use Rattle.program.specs.Names.{Name, paper_variable}
use Rattle.program.specs.Code.{key, name_of}
use Rattle.program.specs.Cells.{cell_of}
use Rattle.program.specs.Statements.{Statement, operands}
use Rattle.program.specs.declared.Operand.{Operand}
use Rattle.program.specs.declared.Operand.TheVariants as O
use Rattle.text.specs.Forms.{Acts}
use Rattle.text.specs.Faults.{big_value, said, makes_label, makes_variable, first_makes, undeclared, unknown_variable, unknown_value, place_of, number_of}
use Rattle.text.proofs.Filled.{Named}
use Rattle.reading.specs.Code.{in_cell, said_by, aims_at, in_operand, placed, written, operand_with, resolved}
use Rattle.reading.proofs.Heard.{undeclared_asked}
use Rattle.rows.specs.Rows.{Row, kind, row_at, arranged}
use Rattle.names.proofs.Arranging.{sought, near}
use Rattle.translation.specs.Resolving.{place_in, number_in, Low}

module _ (s : List ℕ) where
  abbrev R : List Row
  R = arranged (said s)

  pub low : length s ≤ 16384 → Low R
  low h = record { each = λ w. omega (arith, near s w) }

  pub place_known : (w : Name) → first_makes makes_label w (said s) ≡ true → place_in R w ≡ place_of (said s) w
  unfolding place_in
  place_known w h = let q = sought s w in q.placed (q.label ∙ h)

  number_known : (w : Name) → unknown_variable (said s) w ≡ false → number_in R w ≡ number_of (said s) w
  unfolding number_in number_of unknown_variable
  number_known w h = pick (first_makes makes_variable w (said s)) refl
    where
      pick : (b : Bool) → first_makes makes_variable w (said s) ≡ b → number_in R w ≡ number_of (said s) w
      pick true e =
          let q = sought s w in
          let two : eqb (kind (row_at R w)) 2 ≡ true = q.variable ∙ e in
          rw two (q.numbered two)
      pick false e =
          let none : eqb (kind (row_at R w)) 2 ≡ false = (sought s w).variable ∙ e in
          let paper : eqb (paper_variable w) 0 ≡ false = sym (and-true (eqb (paper_variable w) 0)) ∙ (rw e at h) in
          rw (none, paper)

  -- A target, a variable that is written, an operand.
  target_known : (k : ℕ) → (aims_at k && not (first_makes makes_label (name_of k) (said s))) ≡ false → placed (place_in R) k ≡ placed (place_of (said s)) k
  target_known k h = pick (aims_at k) h
    where
      pick : (b : Bool) → (b && not (first_makes makes_label (name_of k) (said s))) ≡ false → cond b (place_in R (name_of k)) k ≡ cond b (place_of (said s) (name_of k)) k
      pick true e = place_known (name_of k) (not-false _ e)
      pick false e = refl

  written_known : (k : ℕ) → (not (eqb k 0) && unknown_variable (said s) (name_of k)) ≡ false → written (number_in R) k ≡ written (number_of (said s)) k
  written_known k h = pick (eqb k 0) h
    where
      pick : (b : Bool) → (not b && unknown_variable (said s) (name_of k)) ≡ false → cond b 0 (number_in R (name_of k)) ≡ cond b 0 (number_of (said s) (name_of k))
      pick true e = refl
      pick false e = number_known (name_of k) e

  operand_known : (o : Operand) → in_operand (unknown_value (said s)) o ≡ false → operand_with (number_in R) o ≡ operand_with (number_of (said s)) o
  unfolding unknown_value
  operand_known O.Nothing h = refl
  operand_known (O.Literal z) h = refl
  operand_known (O.Variable k) h = ap O.Variable (number_known (name_of k) h)

  -- The cell of a statement whose names are declared.
  pub cell_known : (t : Statement Name) → Named t → any_of big_value (operands t) ≡ false → undeclared (said s) (Acts t) ≡ false
      → resolved (place_in R) (number_in R) (cell_of key key t) ≡ resolved (place_of (said s)) (number_of (said s)) (cell_of key key t)
  unfolding in_cell said_by
  cell_known t n f h =
      let c = cell_of key key t in
      let a = neither (aims_at c.target && not (first_makes makes_label (name_of c.target) (said s))) _ (sym (undeclared_asked (said s) (Acts t) (n, f)) ∙ h) in
      let b = neither (not (eqb c.written 0) && unknown_variable (said s) (name_of c.written)) _ a.1 in
      let d = neither (in_operand (unknown_value (said s)) c.left) (in_operand (unknown_value (said s)) c.right) b.1 in
      rw (target_known c.target a.0, written_known c.written b.0, operand_known c.left d.0, operand_known c.right d.1)
