-- The effect of a cell's statement, by the cell's operation: what the code of each operation gives.
-- Assumes nothing.
use mathlib.Core.Path.{◌≡◌, refl, sym, ap, ◌∙◌}
use mathlib.Core.Bool.{Bool, true, false, cond}
use mathlib.Core.List.{List}
use Prim.Native.Nat.{ℕ}
use lib.Dec.{eqb}
use lib.IntN.{ℤ, pos, ◌+ℤ◌, ◌-ℤ◌}
use Rattle.program.specs.declared.Cell.{Cell}
use Rattle.program.specs.declared.Operand.{Operand}
use Rattle.program.specs.declared.Operand.TheVariants as O
use Rattle.program.specs.Statements.{Value, Literal, Variable, Condition, Always, Compare, OE, Disarm, PR}
use Rattle.program.specs.Cells.{same, no_target, operator_of, value_of, condition_of, hold_of, statement_by, statement_of}
use Rattle.effects.specs.declared.Effect.{Effect}
use Rattle.effects.specs.declared.Effect.TheVariants.{Passes, Goes, Ends, Arms, Disarms}
use Rattle.effects.specs.Effects.{read, storing, storing_result, storing_with, calling, returning, moving, slewing, value, holds, printing, branching, calling_if, effect}
use Rattle.acting.specs.Code.{seen, met, holding_by, printing_by}

module _ (vars : List ℤ) (kept hold : ℕ) where
  -- An operand and a condition are read alike whatever is kept or held.
  value_alike : (x : Value ℕ) → value same same vars kept hold x ≡ value same same vars 0 0 x
  unfolding value
  value_alike (Literal z) = refl
  value_alike (Variable v) = refl

  holds_alike : (c : Condition ℕ) → holds same same vars kept hold c ≡ holds same same vars 0 0 c
  unfolding holds
  holds_alike Always = refl
  holds_alike (Compare x c y) = rw (value_alike x, value_alike y)

  branching_cond : (n : ℕ) (t : Bool) → cond t (Goes n) Passes ≡ branching same same vars kept hold n t
  unfolding branching
  branching_cond n true = refl
  branching_cond n false = refl

  calling_cond : (n : ℕ) (t : Bool) → cond t (calling kept n) Passes ≡ calling_if same same vars kept hold n t
  unfolding calling_if
  calling_cond n true = refl
  calling_cond n false = refl

  holding_by_lem : (o : Operand) → holding_by o vars hold ≡ effect same same vars kept hold (hold_of o)
  unfolding holding_by effect hold_of value
  holding_by_lem O.Nothing = refl
  holding_by_lem (O.Literal z) = refl
  holding_by_lem (O.Variable v) = refl

  arming : (n : ℕ) (t : Bool) → cond t Disarms (Arms n) ≡ effect same same vars kept hold (cond t Disarm (OE n))
  unfolding effect
  arming n true = refl
  arming n false = refl

  pub printing_by_lem : (o : Operand) → printing_by o vars ≡ effect same same vars kept hold (PR (value_of o))
  unfolding printing_by effect printing value_of
  printing_by_lem O.Nothing = refl
  printing_by_lem (O.Literal z) = refl
  printing_by_lem (O.Variable v) = refl

  module _ (c : Cell) where
    -- An answer for one operation is the answer for the cell.
    pub by_number_lem : (n : ℕ) {e : Effect} → c.operation ≡ n → e ≡ effect same same vars kept hold (statement_by n c)
        → e ≡ effect same same vars kept hold (statement_of c)
    unfolding statement_of
    by_number_lem n k e = e ∙ sym (ap (λ (o : ℕ). effect same same vars kept hold (statement_by o c)) k)

    pub does_set : storing vars c.written (seen vars c.left) ≡ effect same same vars kept hold (statement_by 1 c)
    unfolding statement_by effect
    does_set = rw (value_alike (value_of c.left))

    pub does_set_with : storing_with vars c.written (operator_of c.selector) (seen vars c.left) (seen vars c.right) ≡ effect same same vars kept hold (statement_by 2 c)
    unfolding statement_by effect
    does_set_with = rw (value_alike (value_of c.left), value_alike (value_of c.right))

    pub does_count_up : storing_result vars c.written (read vars c.written +ℤ pos 1) ≡ effect same same vars kept hold (statement_by 3 c)
    unfolding statement_by effect
    does_count_up = refl

    pub does_count_down : storing_result vars c.written (read vars c.written -ℤ pos 1) ≡ effect same same vars kept hold (statement_by 4 c)
    unfolding statement_by effect
    does_count_down = refl

    pub does_branch : cond (met vars c) (Goes c.target) Passes ≡ effect same same vars kept hold (statement_by 5 c)
    unfolding statement_by effect
    does_branch = rw (holds_alike (condition_of c)) (branching_cond c.target (met vars c))

    pub does_call : cond (met vars c) (calling kept c.target) Passes ≡ effect same same vars kept hold (statement_by 6 c)
    unfolding statement_by effect
    does_call = rw (holds_alike (condition_of c)) (calling_cond c.target (met vars c))

    pub does_return : returning kept ≡ effect same same vars kept hold (statement_by 7 c)
    unfolding statement_by effect
    does_return = refl

    pub does_end : Ends ≡ effect same same vars kept hold (statement_by 8 c)
    unfolding statement_by effect
    does_end = refl

    pub does_hold : holding_by c.left vars hold ≡ effect same same vars kept hold (statement_by 9 c)
    unfolding statement_by
    does_hold = holding_by_lem c.left

    pub does_arm : cond (eqb c.target no_target) Disarms (Arms c.target) ≡ effect same same vars kept hold (statement_by 10 c)
    unfolding statement_by
    does_arm = arming c.target (eqb c.target no_target)

    pub does_move_to : moving vars (seen vars c.left) 2 (seen vars c.left) ≡ effect same same vars kept hold (statement_by 11 c)
    unfolding statement_by effect
    does_move_to = simp (value_alike (value_of c.left))

    pub does_move_by : moving vars (read vars 5 +ℤ seen vars c.left) 3 (seen vars c.left) ≡ effect same same vars kept hold (statement_by 12 c)
    unfolding statement_by effect
    does_move_by = simp (value_alike (value_of c.left))

    pub does_slew : slewing (seen vars c.left) ≡ effect same same vars kept hold (statement_by 13 c)
    unfolding statement_by effect
    does_slew = rw (value_alike (value_of c.left))
