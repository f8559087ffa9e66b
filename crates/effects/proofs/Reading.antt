-- Q-2: which statements clear EF, and which do not.
-- Assumes nothing.
use mathlib.Core.Path.{◌≡◌, refl}
use mathlib.Core.Bool.{true, false, ◌&&◌, ◌||◌, and-false, or-false, false≢true}
use mathlib.Core.List.{List}
use mathlib.Core.Logic.{◌↔◌}
use Prim.Native.Nat.{ℕ, ◌<◌}
use native.Mathlib.Omega.{arith}
use borrow.Author.Tests.{ne_eqb}
use lib.Dec.{T, eqb}
use lib.IntN.{ℤ}
use Rattle.numbers.specs.Tests.{any_of}
use Rattle.numbers.proofs.Truth.{is_true}
use Rattle.program.specs.declared.Operand.{Operand}
use Rattle.program.specs.Variables.{in_range, hold_range}
use Rattle.program.specs.Statements.{Value, Literal, Variable, Condition, Statement, BR, CL, Hold, compared, operands}
use Rattle.program.specs.Cells.{same, operand_of, cell_of, value_of}
use Rattle.program.proofs.Statements.{ReadBy, none, one, two, cell_has}
use Rattle.effects.specs.declared.Effect.{Effect}
use Rattle.effects.specs.declared.Effect.TheVariants.{Fails, Stores, Passes, Goes, Calls, Returns, Ends, Stays, Holds, Arms, Disarms, Moves, Slews, Prints}
use Rattle.effects.specs.Effects.{holding, value, holds, branching, calling_if, effect}
use Rattle.effects.specs.Deeds.{Deed, in_error, clears, is_er, reads_er, deed}

module _ {R : Type 0} (place number : R → ℕ) (vars : List ℤ) (kept : ℕ) where
  -- Q-2 3: no later turn of a hold clears EF.
  pub later_clears_nothing : (hold : ℕ) (s : Statement R) → 0 < hold → clears (deed place number vars kept hold s) ≡ false
  unfolding clears reads_er
  later_clears_nothing hold s h = rw (ne_eqb hold 0 (λ e. omega arith))

  -- Q-2 3: a condition that does not hold is read all the same, with all places kept too.
  pub untrue_clears : (n : R) (c : Condition R) → holds place number vars kept 0 c ≡ false → T (any_of (is_er number) (compared c))
      → (clears (deed place number vars kept 0 (BR n c)) ≡ true) × (clears (deed place number vars kept 0 (CL n c)) ≡ true)
  unfolding clears in_error reads_er effect branching calling_if operands
  untrue_clears n c f t = let e = is_true (any_of (is_er number) (compared c)) t in (rw (f, e), rw (f, e))

  -- Q-2 3: the first turn of `H x` does, where x is ER and in the range.
  pub first_clears : (x : Value R) → is_er number x ≡ true → in_range hold_range (value place number vars kept 0 x) ≡ true
      → clears (deed place number vars kept 0 (Hold x)) ≡ true
  unfolding clears in_error reads_er effect holding operands any_of
  first_clears x e r = rw (e, r)

-- Q-2 4: a statement in error clears nothing, whatever it reads.
pub error_clears_nothing : (d : Deed) {error : ℕ} → d.effect ≡ Fails error → clears d ≡ false
unfolding clears in_error
error_clears_nothing d e = rw e (and-false d.reads)

-- Q-2 4: an effect is an error exactly if it fails with some number.
fails_so : (e : Effect) → in_error e ≡ true → (error : ℕ) × (e ≡ Fails error)
unfolding in_error
fails_so (Fails error) t = (error, refl)
fails_so (Stores v z) t = absurd (false≢true t)
fails_so Passes t = absurd (false≢true t)
fails_so (Goes cell) t = absurd (false≢true t)
fails_so (Calls cell) t = absurd (false≢true t)
fails_so Returns t = absurd (false≢true t)
fails_so Ends t = absurd (false≢true t)
fails_so Stays t = absurd (false≢true t)
fails_so (Holds turns) t = absurd (false≢true t)
fails_so (Arms cell) t = absurd (false≢true t)
fails_so Disarms t = absurd (false≢true t)
fails_so (Moves target kind z) t = absurd (false≢true t)
fails_so (Slews z) t = absurd (false≢true t)
fails_so (Prints v z) t = absurd (false≢true t)

fails_then : (e : Effect) → (error : ℕ) × (e ≡ Fails error) → in_error e ≡ true
unfolding in_error
fails_then e h = rw h.1

pub in_error_lem : (e : Effect) → (in_error e ≡ true) ↔ ((error : ℕ) × (e ≡ Fails error))
in_error_lem e = (fails_so e, fails_then e)

-- Q-2 3: the operands of a statement are the left and the right field of its cell.
module _ {R : Type 0} (place number : R → ℕ) where
  pub er_field : (x : Value R) → is_er number x ≡ is_er same (value_of (operand_of place number x))
  unfolding is_er value_of operand_of
  er_field (Literal z) = refl
  er_field (Variable v) = refl

  er_fields : {xs : List (Value R)} {l r : Operand} → ReadBy place number xs l r → any_of (is_er number) xs ≡ (is_er same (value_of l) || is_er same (value_of r))
  unfolding any_of value_of is_er
  er_fields none = refl
  er_fields (one x) = rw (er_field x)
  er_fields (two x y) = rw (er_field x, er_field y, or-false (is_er same (value_of (operand_of place number y))))

  pub reads_fields : (hold : ℕ) (s : Statement R)
      → reads_er number hold s ≡ (eqb hold 0 && (is_er same (value_of (cell_of place number s).left) || is_er same (value_of (cell_of place number s).right)))
  unfolding reads_er
  reads_fields hold s = rw (er_fields (cell_has place number s).read)
