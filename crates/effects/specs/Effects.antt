-- Document 01, "One turn": what each statement does, by what it reads.
-- Assumes nothing.
use Rattle.std.specs.Prelude.{Bool, true, false, cond, not, List, ℕ, ◌-◌, ltb, ℤ, pos, nat_abs, ◌+ℤ◌, ◌-ℤ◌, ◌*ℤ◌, get_or}
use Rattle.std.specs.Int.Signed.{quot_z, le_z, lt_z}
use Rattle.numbers.specs.Bits.{and32, or32, xor32}
use Rattle.numbers.specs.Tests.{eq_z}
use Rattle.program.specs.Variables.{in_range, literals, hold_range, slew_range, range_of}
use Rattle.program.specs.Statements.{Value, Literal, Variable, Operator, Plus, Minus, Times, Divided, BitAnd, BitOr, BitXor, Comparison, Equal, Unequal, Less, AtMost, Greater, AtLeast, Condition, Always, Compare, Statement, Set, SetWith, IC, DC, BR, CL, RT, E, H, Hold, OE, Disarm, MA, MR, SL, PR}
use Rattle.effects.specs.declared.Effect.{Effect}
use Rattle.effects.specs.declared.Effect.TheVariants.{Fails, Stores, Passes, Goes, Calls, Returns, Ends, Stays, Holds, Arms, Disarms, Moves, Slews, Prints}
use Rattle.effects.specs.Errors.{result_error, divisor_zero, value_outside, no_place_free, no_place_kept, still_moving}

-- The value of a variable by its number.
unfoldable pub read : List ℤ → ℕ → ℤ
read vars v = get_or vars v (pos 0)

-- Turn 21 (103), Variables 2: a value goes to a variable if it is in the variable's range; VI and VM are tested before the store.
unfoldable pub storing : List ℤ → ℕ → ℤ → Effect
storing vars v z = cond (in_range (range_of v (read vars 8) (read vars 9)) z) (Stores v z) (Fails value_outside)

-- Turn 21 (101), Turn 22, Q-6 2 (109), Q-6 3: a result outside the literal range comes before the variable's range.
unfoldable pub storing_result : List ℤ → ℕ → ℤ → Effect
storing_result vars v z = cond (in_range literals z) (storing vars v z) (Fails (result_error z))

-- Text 17, Turn 9, Turn 10: what each operator gives; a quotient is cut toward zero.
unfoldable pub operate : Operator → ℤ → ℤ → ℤ
operate Plus x y = x +ℤ y
operate Minus x y = x -ℤ y
operate Times x y = x *ℤ y
operate Divided x y = quot_z x y
operate BitAnd x y = and32 x y
operate BitOr x y = or32 x y
operate BitXor x y = xor32 x y

-- Turn 21 (102): a divisor that is 0.
unfoldable pub zero_divisor : Operator → ℤ → Bool
zero_divisor Plus y = false
zero_divisor Minus y = false
zero_divisor Times y = false
zero_divisor Divided y = eq_z y (pos 0)
zero_divisor BitAnd y = false
zero_divisor BitOr y = false
zero_divisor BitXor y = false

-- Turn 21 (102), Turn 22: a zero divisor comes before both.
unfoldable pub storing_with : List ℤ → ℕ → Operator → ℤ → ℤ → Effect
storing_with vars v o x y = cond (zero_divisor o y) (Fails divisor_zero) (storing_result vars v (operate o x y))

-- Text 17: what each comparison asks.
unfoldable pub compares : Comparison → ℤ → ℤ → Bool
compares Equal x y = eq_z x y
compares Unequal x y = not (eq_z x y)
compares Less x y = lt_z x y
compares AtMost x y = le_z x y
compares Greater x y = lt_z y x
compares AtLeast x y = le_z y x

-- Turn 21 (104): a call with eight places kept.
unfoldable pub calling : ℕ → ℕ → Effect
calling kept cell = cond (ltb kept 8) (Calls cell) (Fails no_place_free)

-- Turn 14, Turn 21 (105): a return with none kept.
unfoldable pub returning : ℕ → Effect
returning kept = cond (ltb 0 kept) Returns (Fails no_place_kept)

-- Turn 16: a bare `H` keeps its cell for as long as the axis moves.
unfoldable pub waiting : List ℤ → Effect
waiting vars = cond (eq_z (read vars 14) (pos 1)) Stays Passes

-- Turn 17: the first turn of `H x` reads x and leaves x - 1 turns; each later one leaves one less.
unfoldable pub holding : ℕ → ℤ → Effect
holding hold x =
    cond (ltb 0 hold) (Holds (hold - 1))
    (cond (in_range hold_range x) (Holds (nat_abs x - 1)) (Fails value_outside))

-- Turn 19, Turn 21 (106, 101), Turn 22, Q-6 2 (109), Q-6 3: a move to a target, recorded by this kind and value.
unfoldable pub moving : List ℤ → ℤ → ℕ → ℤ → Effect
moving vars target kind value =
    cond (eq_z (read vars 14) (pos 1)) (Fails still_moving)
    (cond (in_range literals target) (Moves target kind value) (Fails (result_error target)))

-- Turn 20, Turn 21 (103).
unfoldable pub slewing : ℤ → Effect
slewing x = cond (in_range slew_range x) (Slews x) (Fails value_outside)

-- What one statement does: `place` is asked only where a statement jumps, calls or arms, `number` where it reads or writes a variable.
module _ {R : Type 0} (place number : R → ℕ) (vars : List ℤ) (kept hold : ℕ) where
  -- Text 16: the value of an operand.
  unfoldable pub value : Value R → ℤ
  value (Literal z) = z
  value (Variable v) = read vars (number v)

  -- Turn 12: a condition that holds, or none at all.
  unfoldable pub holds : Condition R → Bool
  holds Always = true
  holds (Compare x c y) = compares c (value x) (value y)

  -- Events 4, Events 5: a PR is recorded with the number of its variable; a literal has none, so 0.
  unfoldable pub printing : Value R → Effect
  printing (Literal z) = Prints 0 z
  printing (Variable v) = Prints (number v) (read vars (number v))

  -- Turn 12, Turn 13: BR goes to its label's place and CL calls it, if the condition holds.
  unfoldable pub branching : R → Bool → Effect
  branching n true = Goes (place n)
  branching n false = Passes

  unfoldable pub calling_if : R → Bool → Effect
  calling_if n true = calling kept (place n)
  calling_if n false = Passes

  -- Turn 8, Turn 12 to 20: the effect of a statement.
  unfoldable pub effect : Statement R → Effect
  effect (Set v x) = storing vars (number v) (value x)
  effect (SetWith v x o y) = storing_with vars (number v) o (value x) (value y)
  effect (IC v) = storing_result vars (number v) (read vars (number v) +ℤ pos 1)
  effect (DC v) = storing_result vars (number v) (read vars (number v) -ℤ pos 1)
  effect (BR n c) = branching n (holds c)
  effect (CL n c) = calling_if n (holds c)
  effect RT = returning kept
  effect E = Ends
  effect H = waiting vars
  effect (Hold x) = holding hold (value x)
  effect (OE n) = Arms (place n)
  effect Disarm = Disarms
  effect (MA x) = moving vars (value x) 2 (value x)
  effect (MR x) = moving vars (read vars 5 +ℤ value x) 3 (value x)
  effect (SL x) = slewing (value x)
  effect (PR x) = printing x
