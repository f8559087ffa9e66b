-- A statement's cell does what the statement does, whatever its references are, where no label has the place that stands for none.
-- Assumes nothing.
use mathlib.Core.Path.{◌≡◌, refl, sym}
use mathlib.Core.Bool.{Bool, true, false, cond}
use mathlib.Core.List.{List, [], ◌∷◌}
use Prim.Native.Nat.{ℕ}
use borrow.Author.Tests.{ne_eqb}
use lib.Dec.{eqb}
use lib.IntN.{ℤ}
use Rattle.numbers.specs.Tests.{any_of}
use Rattle.numbers.proofs.Truth.{of_both}
use Rattle.program.specs.Statements.{Value, Literal, Variable, Always, Compare, Statement, Set, SetWith, IC, DC, BR, CL, RT, E, H, Hold, OE, Disarm, MA, MR, SL, PR, Comparison, compared, operands}
use Rattle.program.specs.Cells.{same, cell, operand_of, jump_of, cell_of, value_of, condition_of, hold_of, statement_by, statement_of, no_target, comparison_number}
use Rattle.program.proofs.Selectors.{operator_back, comparison_back, comparison_some}
use Rattle.effects.specs.declared.Effect.TheVariants.{Arms}
use Rattle.effects.specs.Effects.{value, holds, printing, branching, calling_if, effect}
use Rattle.effects.specs.Deeds.{is_er, reads_er, deed}
use Rattle.effects.proofs.Reading.{er_field}

module _ {R : Type 0} (place number : R → ℕ) (vars : List ℤ) (kept hold : ℕ) where
  value_cell : (x : Value R) → value same same vars kept hold (value_of (operand_of place number x)) ≡ value place number vars kept hold x
  unfolding value value_of operand_of
  value_cell (Literal z) = refl
  value_cell (Variable v) = refl

  print_cell : (x : Value R) → printing same same vars kept hold (value_of (operand_of place number x)) ≡ printing place number vars kept hold x
  unfolding printing value_of operand_of
  print_cell (Literal z) = refl
  print_cell (Variable v) = refl

  hold_cell : (x : Value R) → hold_of (operand_of place number x) ≡ Hold (value_of (operand_of place number x))
  unfolding hold_of value_of operand_of
  hold_cell (Literal z) = refl
  hold_cell (Variable v) = refl

  arm_cell : (n : ℕ) → (n ≡ no_target → ⊥) → effect same same vars kept hold (cond (eqb n no_target) Disarm (OE n)) ≡ Arms n
  unfolding effect
  arm_cell n far = rw (ne_eqb n no_target far)

  branch_cell : (n : R) (b : Bool) → branching same same vars kept hold (place n) b ≡ branching place number vars kept hold n b
  unfolding branching
  branch_cell n true = refl
  branch_cell n false = refl

  call_cell : (n : R) (b : Bool) → calling_if same same vars kept hold (place n) b ≡ calling_if place number vars kept hold n b
  unfolding calling_if
  call_cell n true = refl
  call_cell n false = refl

  condition_cell : (o n : ℕ) (c : Comparison) (x y : Value R)
      → holds same same vars kept hold (condition_of (cell o 0 (comparison_number c) (operand_of place number x) (operand_of place number y) n)) ≡ holds place number vars kept hold (Compare x c y)
  unfolding condition_of holds
  condition_cell o n c x y = rw (comparison_some c, comparison_back c) (rw (value_cell x, value_cell y))

  held_cell : (x : Value R) → effect same same vars kept hold (hold_of (operand_of place number x)) ≡ effect place number vars kept hold (Hold x)
  unfolding effect
  held_cell x = rw (hold_cell x) (rw (value_cell x))

  effect_cell : ((n : R) → place n ≡ no_target → ⊥) → (s : Statement R)
      → effect same same vars kept hold (statement_of (cell_of place number s)) ≡ effect place number vars kept hold s
  unfolding effect statement_of statement_by cell_of jump_of condition_of hold_of no_target holds
  effect_cell far (Set v x) = rw (value_cell x)
  effect_cell far (SetWith v x o y) = rw (operator_back o, value_cell x, value_cell y)
  effect_cell far (IC v) = refl
  effect_cell far (DC v) = refl
  effect_cell far (BR n Always) = branch_cell n true
  effect_cell far (BR n (Compare x c y)) = rw (condition_cell 5 (place n) c x y) (branch_cell n (holds place number vars kept hold (Compare x c y)))
  effect_cell far (CL n Always) = call_cell n true
  effect_cell far (CL n (Compare x c y)) = rw (condition_cell 6 (place n) c x y) (call_cell n (holds place number vars kept hold (Compare x c y)))
  effect_cell far RT = refl
  effect_cell far E = refl
  effect_cell far H = refl
  effect_cell far (Hold x) = held_cell x
  effect_cell far (OE n) = arm_cell (place n) (far n)
  effect_cell far Disarm = refl
  effect_cell far (MA x) = rw (value_cell x)
  effect_cell far (MR x) = rw (value_cell x)
  effect_cell far (SL x) = rw (value_cell x)
  effect_cell far (PR x) = print_cell x

  -- Q-2 3, Q-2 5: it reads ER exactly if the statement does.
  abbrev asks : {P : Type 0} → (P → ℕ) → List (Value P) → Bool
  asks by xs = any_of (is_er by) xs

  back : (x : Value R) → is_er same (value_of (operand_of place number x)) ≡ is_er number x
  back x = sym (er_field place number x)

  asks_hold : (x : Value R) → asks same (operands (hold_of (operand_of place number x))) ≡ asks number (x ∷ [])
  unfolding any_of operands
  asks_hold x = rw (hold_cell x) (rw (back x))

  asks_cell : (s : Statement R) → asks same (operands (statement_of (cell_of place number s))) ≡ asks number (operands s)
  unfolding any_of operands compared statement_of statement_by cell_of jump_of condition_of hold_of no_target
  asks_cell (Set v x) = rw (back x)
  asks_cell (SetWith v x o y) = rw (back x, back y)
  asks_cell (IC v) = refl
  asks_cell (DC v) = refl
  asks_cell (BR n Always) = refl
  asks_cell (BR n (Compare x c y)) = rw (comparison_some c) (rw (back x, back y))
  asks_cell (CL n Always) = refl
  asks_cell (CL n (Compare x c y)) = rw (comparison_some c) (rw (back x, back y))
  asks_cell RT = refl
  asks_cell E = refl
  asks_cell H = refl
  asks_cell (Hold x) = asks_hold x
  asks_cell (OE n) = of_both (λ (t : Statement ℕ). asks same (operands t) ≡ false) (eqb (place n) no_target) refl refl
  asks_cell Disarm = refl
  asks_cell (MA x) = rw (back x)
  asks_cell (MR x) = rw (back x)
  asks_cell (SL x) = rw (back x)
  asks_cell (PR x) = rw (back x)

  pub deed_cell : ((n : R) → place n ≡ no_target → ⊥) → (s : Statement R) → deed same same vars kept hold (statement_of (cell_of place number s)) ≡ deed place number vars kept hold s
  unfolding reads_er
  deed_cell far s = rw (effect_cell far s, asks_cell s)
