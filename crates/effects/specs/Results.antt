-- Document 02, "Over or under": the exact result of a statement, and what 101 and 109 say of it.
-- Assumes nothing.
use Rattle.std.specs.Prelude.{◌≡◌, Bool, true, false, cond, List, [], ◌∷◌, ◌↔◌, ℕ, T, ℤ, pos, negsuc, ◌+ℤ◌, ◌-ℤ◌}
use Rattle.std.specs.Int.Signed.{lt_z}
use Rattle.numbers.specs.Tests.{any_of, eq_z}
use Rattle.program.specs.Statements.{Value, Operator, Plus, Minus, Times, Divided, BitAnd, BitOr, BitXor, Statement, Set, SetWith, IC, DC, BR, CL, RT, E, H, Hold, OE, Disarm, MA, MR, SL, PR}
use Rattle.effects.specs.declared.Effect.{Effect}
use Rattle.effects.specs.declared.Effect.TheVariants.{Fails}
use Rattle.effects.specs.Effects.{read, operate, zero_divisor, value}

-- Text 13, Q-6 2: below the literal range; above it.
abbrev pub below : ℤ → Bool
below z = lt_z z (negsuc 2147483646)

abbrev pub above : ℤ → Bool
above z = lt_z (pos 2147483647) z

-- Text 17, Q-6 2: the bit operators.
unfoldable pub bitwise : Operator → Bool
bitwise Plus = false
bitwise Minus = false
bitwise Times = false
bitwise Divided = false
bitwise BitAnd = true
bitwise BitOr = true
bitwise BitXor = true

-- Q-6 2, Turn 22: the exact result that a statement comes to, if it comes to one: that of an operator unless a zero divisor ends it before (102), of IC
-- and of DC, and where a move goes unless the axis still moves (106).
module _ {R : Type 0} (place number : R → ℕ) (vars : List ℤ) (kept hold : ℕ) where
  abbrev worth : Value R → ℤ
  worth x = value place number vars kept hold x

  abbrev aim : ℤ → List ℤ
  aim target = cond (eq_z (read vars 14) (pos 1)) [] (target ∷ [])

  unfoldable pub results : Statement R → List ℤ
  results (Set v x) = []
  results (SetWith v x o y) = cond (zero_divisor o (worth y)) [] (operate o (worth x) (worth y) ∷ [])
  results (IC v) = (read vars (number v) +ℤ pos 1) ∷ []
  results (DC v) = (read vars (number v) -ℤ pos 1) ∷ []
  results (BR n c) = []
  results (CL n c) = []
  results RT = []
  results E = []
  results H = []
  results (Hold x) = []
  results (OE n) = []
  results Disarm = []
  results (MA x) = aim (worth x)
  results (MR x) = aim (read vars 5 +ℤ worth x)
  results (SL x) = []
  results (PR x) = []

-- Q-6 2: of an effect and the exact result, if any: it is error 109 exactly if the result is below the literal range, and 101 exactly if it is above.
pub record OverOrUnder (results : List ℤ) (e : Effect) : Type 0 where
  pub under : (e ≡ Fails 109) ↔ T (any_of below results)
  pub over : (e ≡ Fails 101) ↔ T (any_of above results)

-- Q-6 2: an effect that is neither of the two.
pub record Neither (e : Effect) : Type 0 where
  pub not_under : e ≡ Fails 109 → ⊥
  pub not_over : e ≡ Fails 101 → ⊥
