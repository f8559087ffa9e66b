-- Document 01, "One turn", and document 02, "Reading ER clears EF": what a statement does in a turn.
-- Assumes nothing.
use Rattle.std.specs.Prelude.{Bool, true, false, ◌&&◌, not, List, ℕ, eqb, ℤ}
use Rattle.numbers.specs.Tests.{any_of}
use Rattle.program.specs.Statements.{Value, Literal, Variable, Statement, operands}
use Rattle.effects.specs.declared.Effect.{Effect}
use Rattle.effects.specs.declared.Effect.TheVariants.{Fails, Stores, Passes, Goes, Calls, Returns, Ends, Stays, Holds, Arms, Disarms, Moves, Slews, Prints}
use Rattle.effects.specs.Effects.{effect}

-- Turn 7, Q-2 3: the effect of a statement, and whether it reads ER.
pub record Deed : Type 0 where
  pub effect : Effect
  pub reads : Bool

-- Turn 21, Q-2 4: an effect that is an error.
unfoldable pub in_error : Effect → Bool
in_error (Fails error) = true
in_error (Stores v z) = false
in_error Passes = false
in_error (Goes cell) = false
in_error (Calls cell) = false
in_error Returns = false
in_error Ends = false
in_error Stays = false
in_error (Holds turns) = false
in_error (Arms cell) = false
in_error Disarms = false
in_error (Moves target kind z) = false
in_error (Slews z) = false
in_error (Prints v z) = false

-- Turn 11, Q-2 3, Q-2 4: a statement that reads ER clears EF, but not where it is in error.
unfoldable pub clears : Deed → Bool
clears d = d.reads && not (in_error d.effect)

module _ {R : Type 0} (number : R → ℕ) where
  -- Q-2 3: an operand that is ER (10).
  unfoldable pub is_er : Value R → Bool
  is_er (Literal z) = false
  is_er (Variable v) = eqb (number v) 10

  -- Q-2 3, Turn 17: a statement reads ER where an operand of it is ER; in the later turns of `H x`, while turns are to come, x is not read.
  unfoldable pub reads_er : ℕ → Statement R → Bool
  reads_er hold s = eqb hold 0 && any_of is_er (operands s)

-- Turn 7: what a statement does, of a text by its names and of an image by its numbers.
abbrev pub deed : {R : Type 0} → (R → ℕ) → (R → ℕ) → List ℤ → ℕ → ℕ → Statement R → Deed
deed place number vars kept hold s = record { effect = effect place number vars kept hold s; reads = reads_er number hold s }
