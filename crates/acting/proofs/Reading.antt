-- Whether a cell's statement reads ER, by the cell's operation and its two operands; effects that are no error.
-- Assumes nothing.
use mathlib.Core.Path.{◌≡◌, refl, sym, ap, ◌∙◌}
use mathlib.Core.Bool.{Bool, true, false, cond, ◌&&◌, ◌||◌, not, and-true, and-false, or-false, true≢false}
use Prim.Native.Nat.{ℕ}
use borrow.Author.Tests.{not-false}
use lib.Dec.{eqb}
use Rattle.numbers.specs.Tests.{any_of}
use Rattle.numbers.proofs.Truth.{neither, of_both}
use Rattle.program.specs.declared.Cell.{Cell}
use Rattle.program.specs.declared.Operand.{Operand}
use Rattle.program.specs.declared.Operand.TheVariants as O
use Rattle.program.specs.Statements.{Always, Compare, Statement, compared, operands}
use Rattle.program.specs.Cells.{same, no_target, comparison_of, value_of, condition_of, hold_of, statement_by, statement_of}
use Rattle.effects.specs.declared.Effect.{Effect}
use Rattle.effects.specs.declared.Effect.TheVariants.{Fails, Stores, Passes, Goes, Calls, Returns, Ends, Stays, Holds, Arms, Disarms, Moves, Slews, Prints}
use Rattle.effects.specs.Deeds.{in_error, is_er, reads_er}

-- Whether an operand of a statement is ER.
abbrev pub asks : Statement ℕ → Bool
asks s = any_of (is_er same) (operands s)

-- By the tests of the code: a hold runs, or neither operand is ER.
nothing_read : (h a b t : Bool) → (not h || not (a || b)) ≡ true → (a ≡ false → b ≡ false → t ≡ false) → false ≡ (h && t)
nothing_read true true b t e f = absurd (true≢false (sym e))
nothing_read true false true t e f = absurd (true≢false (sym e))
nothing_read true false false t e f = sym (f refl refl)
nothing_read false a b t e f = refl

asks_hold : (o : Operand) → asks (hold_of o) ≡ is_er same (value_of o)
unfolding hold_of operands any_of value_of is_er
asks_hold O.Nothing = refl
asks_hold (O.Literal z) = refl
asks_hold (O.Variable v) = or-false (eqb v 10)

-- Of a cell whose left and right operands are ER or not.
module _ (c : Cell) {a b : Bool} (ea : a ≡ is_er same (value_of c.left)) (eb : b ≡ is_er same (value_of c.right)) where
  compared_by : (t : Bool) → any_of (is_er same) (compared (cond t Always (Compare (value_of c.left) (comparison_of c.selector) (value_of c.right)))) ≡ (not t && (a || b))
  unfolding compared any_of
  compared_by true = refl
  compared_by false = rw (← ea, ← eb, or-false b)

  asks_condition : any_of (is_er same) (compared (condition_of c)) ≡ (not (eqb c.selector 0) && (a || b))
  unfolding condition_of
  asks_condition = compared_by (eqb c.selector 0)

  asks_both : asks (statement_by 2 c) ≡ (a || b)
  unfolding statement_by operands any_of
  asks_both = rw (← ea, ← eb, or-false b)

  asks_branch : asks (statement_by 5 c) ≡ (not (eqb c.selector 0) && (a || b))
  unfolding statement_by operands
  asks_branch = asks_condition

  asks_call : asks (statement_by 6 c) ≡ (not (eqb c.selector 0) && (a || b))
  unfolding statement_by operands
  asks_call = asks_condition

  pub asks_arm : asks (statement_by 10 c) ≡ false
  unfolding statement_by operands any_of
  asks_arm = of_both (λ (s : Statement ℕ). asks s ≡ false) (eqb c.target no_target) refl refl

  -- Of the other operations the left operand alone.
  one_operand : (is_er same (value_of c.left) || false) ≡ a
  one_operand = or-false (is_er same (value_of c.left)) ∙ sym ea

  pub asks_left : (o : ℕ) → eqb o 2 ≡ false → eqb o 3 ≡ false → eqb o 4 ≡ false → eqb o 5 ≡ false → eqb o 6 ≡ false → eqb o 7 ≡ false → eqb o 8 ≡ false → eqb o 10 ≡ false
      → asks (statement_by o c) ≡ a
  unfolding statement_by operands any_of
  asks_left o e2 e3 e4 e5 e6 e7 e8 e10 =
      rw (e2, e3, e4, e5, e6, e7, e8, e10)
      (of_both P (eqb o 1) one_operand
      (of_both P (eqb o 9) (asks_hold c.left ∙ sym ea)
      (of_both P (eqb o 11) one_operand (of_both P (eqb o 12) one_operand (of_both P (eqb o 13) one_operand one_operand)))))
    where
      P : Statement ℕ → Type 0
      P s = asks s ≡ a

  -- Where neither is ER, none is.
  asks_none : a ≡ false → b ≡ false → (o : ℕ) → asks (statement_by o c) ≡ false
  unfolding statement_by operands any_of
  asks_none p q o =
      of_both P (eqb o 1) (one_operand ∙ p)
      (of_both P (eqb o 2) (asks_both ∙ two)
      (of_both P (eqb o 3) refl
      (of_both P (eqb o 4) refl
      (of_both P (eqb o 5) (asks_condition ∙ three)
      (of_both P (eqb o 6) (asks_condition ∙ three)
      (of_both P (eqb o 7) refl
      (of_both P (eqb o 8) refl
      (of_both P (eqb o 9) (asks_hold c.left ∙ sym ea ∙ p)
      (of_both P (eqb o 10) asks_arm
      (of_both P (eqb o 11) (one_operand ∙ p) (of_both P (eqb o 12) (one_operand ∙ p) (of_both P (eqb o 13) (one_operand ∙ p) (one_operand ∙ p)))))))))))))
    where
      P : Statement ℕ → Type 0
      P s = asks s ≡ false

      two : (a || b) ≡ false
      two = rw (p, q)

      three : (not (eqb c.selector 0) && (a || b)) ≡ false
      three = rw two (and-false (not (eqb c.selector 0)))

  module _ (hold : ℕ) where
    pub reads_none : (not (eqb hold 0) || not (a || b)) ≡ true → false ≡ reads_er same hold (statement_of c)
    unfolding reads_er statement_of
    reads_none e = nothing_read (eqb hold 0) a b _ e (λ p q. asks_none p q c.operation)

    -- Where no hold runs and one of them is, by the operation.
    module _ (some : (not (eqb hold 0) || not (a || b)) ≡ false) where
      one_of : (a || b) ≡ true
      one_of = not-false (a || b) (neither (not (eqb hold 0)) (not (a || b)) some).1

      pub reads_by : (n : ℕ) {t : Bool} → c.operation ≡ n → asks (statement_by n c) ≡ t → t ≡ reads_er same hold (statement_of c)
      unfolding reads_er statement_of
      reads_by n k e =
          rw (not-false (eqb hold 0) (neither (not (eqb hold 0)) (not (a || b)) some).0)
          (sym e ∙ sym (ap (λ (o : ℕ). asks (statement_by o c)) k))

      pub reads_both : c.operation ≡ 2 → true ≡ reads_er same hold (statement_of c)
      reads_both k = reads_by 2 k (asks_both ∙ one_of)

      conditional : (not (eqb c.selector 0) && (a || b)) ≡ not (eqb c.selector 0)
      conditional = rw one_of (and-true (not (eqb c.selector 0)))

      pub reads_branch : c.operation ≡ 5 → not (eqb c.selector 0) ≡ reads_er same hold (statement_of c)
      reads_branch k = reads_by 5 k (asks_branch ∙ conditional)

      pub reads_call : c.operation ≡ 6 → not (eqb c.selector 0) ≡ reads_er same hold (statement_of c)
      reads_call k = reads_by 6 k (asks_call ∙ conditional)

-- An effect that is no error.
pub no_error : (does : Effect) → ((error : ℕ) → does ≡ Fails error → ⊥) → in_error does ≡ false
unfolding in_error
no_error (Fails error) h = absurd (h error refl)
no_error (Stores v z) h = refl
no_error Passes h = refl
no_error (Goes cell) h = refl
no_error (Calls cell) h = refl
no_error Returns h = refl
no_error Ends h = refl
no_error Stays h = refl
no_error (Holds turns) h = refl
no_error (Arms cell) h = refl
no_error Disarms h = refl
no_error (Moves target kind z) h = refl
no_error (Slews z) h = refl
no_error (Prints v z) h = refl
