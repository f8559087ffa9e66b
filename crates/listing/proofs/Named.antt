-- A statement with the names of a listing has the places and numbers that it had, and names nothing that is not declared.
-- Assumes nothing.
use mathlib.Core.Path.{◌≡◌, refl, ap, ◌∙◌}
use mathlib.Core.Bool.{Bool, true, false, ◌&&◌, not}
use mathlib.Core.List.{List}
use Prim.Native.Nat.{ℕ, ◌-◌, ◌≤◌, ◌<◌}
use native.Mathlib.Omega.{arith}
use borrow.Author.Tests.{ne_eqb, lt-ltb, le-ltb}
use lib.Dec.{T, eqb}
use Rattle.numbers.specs.Tests.{first_below, Each}
use Rattle.program.specs.Names.{Name, paper_variable}
use Rattle.program.specs.Variables.{present, read_only}
use Rattle.program.specs.Statements.{Value, Literal, Variable, Condition, Always, Compare, Statement, Set, SetWith, IC, DC, BR, CL, RT, E, H, Hold, OE, Disarm, MA, MR, SL, PR, operands, compared, writes, targets}
use Rattle.program.specs.Cells.{same, operand_of, jump_of, cell_of, statement_of}
use Rattle.numbers.proofs.Tests.{each_then, each_none, first_found}
use Rattle.numbers.proofs.Truth.{is_false}
use Rattle.program.proofs.Ranges.{by_present}
use Rattle.program.proofs.Statements.{Refers, refers_then}
use Rattle.text.specs.Forms.{Line}
use Rattle.text.specs.Faults.{first_makes, makes_label, makes_variable, unknown_variable, unknown_value, unknown_in, undeclared, read_only_written, place_of, number_of}
use Rattle.image.specs.Layout.{cell_count, label_count, variable_count, cell_at, label_target}
use Rattle.printing.specs.Listing.{variable_name, label_name}
use Rattle.listing.specs.Listed.{value_named, condition_named, statement_named, listed_lines}
use Rattle.listing.proofs.Accepted.{Accepted}
use Rattle.listing.proofs.Recorded.{Recorded, name_of_variable}
use Rattle.listing.proofs.Resolved.{Written, Read, Aimed, Resolved, stands}
use Rattle.listing.proofs.Renamed.{refers_named}
use Rattle.listing.proofs.Order.{cell_line}
use Rattle.listing.proofs.Declaring.{label_declared, variable_declared}
use Rattle.program.proofs.Keys.{user_no_paper, free_user}
use Rattle.listing.proofs.Placed.{target_placed, paper_numbered, variable_numbered}

module _ (s : List ℕ) (a : Accepted s) (r : Recorded s) where
  abbrev xs : List Line
  xs = listed_lines s

  -- ---- places and numbers

  operand_same : (x : Value ℕ) → Read s x → operand_of (place_of xs) (number_of xs) (value_named s x) ≡ operand_of same same x
  unfolding operand_of value_named
  operand_same (Literal z) h = refl
  operand_same (Variable v) h = rw (variable_numbered s a r v h)

  jump_same : (o n : ℕ) (c : Condition ℕ) → Aimed s n → Each (Read s) (compared c) → jump_of (place_of xs) (number_of xs) o (label_name s n) (condition_named s c) ≡ jump_of same same o n c
  unfolding jump_of condition_named compared
  jump_same o n Always h g = rw (target_placed s r n h)
  jump_same o n (Compare x c y) h g = rw (target_placed s r n h, operand_same x g.0, operand_same y g.1.0)

  cell_same : (st : Statement ℕ) → Resolved s st → cell_of (place_of xs) (number_of xs) (statement_named s st) ≡ cell_of same same st
  unfolding cell_of statement_named operands writes targets
  cell_same (Set v x) h = rw (variable_numbered s a r v h.sets.0.0, operand_same x h.reads.0)
  cell_same (SetWith v x o y) h = rw (variable_numbered s a r v h.sets.0.0, operand_same x h.reads.0, operand_same y h.reads.1.0)
  cell_same (IC v) h = rw (variable_numbered s a r v h.sets.0.0)
  cell_same (DC v) h = rw (variable_numbered s a r v h.sets.0.0)
  cell_same (BR n c) h = jump_same 5 n c h.aims.0 h.reads
  cell_same (CL n c) h = jump_same 6 n c h.aims.0 h.reads
  cell_same RT h = refl
  cell_same E h = refl
  cell_same H h = refl
  cell_same (Hold x) h = rw (operand_same x h.reads.0)
  cell_same (OE n) h = rw (target_placed s r n h.aims.0)
  cell_same Disarm h = refl
  cell_same (MA x) h = rw (operand_same x h.reads.0)
  cell_same (MR x) h = rw (operand_same x h.reads.0)
  cell_same (SL x) h = rw (operand_same x h.reads.0)
  cell_same (PR x) h = rw (operand_same x h.reads.0)

  pub cell_again : (k : ℕ) → k < cell_count s → cell_of (place_of xs) (number_of xs) (statement_named s (statement_of (cell_at s k))) ≡ cell_at s k
  cell_again k h = let t = stands s k (a.layout k h) in cell_same (statement_of (cell_at s k)) t.resolved ∙ t.again

  -- ---- what is declared

  -- A variable of the paper's, or one of the user's by its record.
  by_kind : (v : ℕ) (Q : Type 0) → T (present (variable_count s) v)
      → (paper_variable (variable_name s v) ≡ v → 1 ≤ v → Q)
      → (paper_variable (variable_name s v) ≡ 0 → first_makes makes_variable (variable_name s v) xs ≡ true → Q) → Q
  unfolding variable_name
  by_kind v Q t f g =
      by_present (variable_count s) v t
      (λ l m. f (rw (lt-ltb v 32 (omega arith)) (paper_numbered (v - 1) (omega arith) ∙ omega arith)) l)
      (λ l m. g (rw (le-ltb v 32 l) (user_no_paper (name_of_variable s (v - 32)) (free_user _ (a.variable_name (v - 32) (omega arith)))))
      (rw (le-ltb v 32 l) (variable_declared s r (v - 32) (omega arith))))

  known_variable : (v : ℕ) → T (present (variable_count s) v) → unknown_variable xs (variable_name s v) ≡ false
  unfolding unknown_variable
  known_variable v t =
      by_kind v ((eqb (paper_variable (variable_name s v)) 0 && not (first_makes makes_variable (variable_name s v) xs)) ≡ false) t
      (λ e l. rw (e, ne_eqb v 0 (λ z. omega arith)))
      (λ e m. rw (e, m))

  known_value : (x : Value ℕ) → Read s x → unknown_value xs (value_named s x) ≡ false
  unfolding unknown_value value_named
  known_value (Literal z) h = refl
  known_value (Variable v) h = known_variable v h

  known_label : (n : ℕ) → Aimed s n → first_makes makes_label (label_name s n) xs ≡ true
  unfolding label_name
  known_label n h =
      let p : ℕ → Bool = λ k. eqb (label_target s k) n in
      label_declared s r (first_below (label_count s) p) (first_found p (label_count s) h)

  writable : (v : ℕ) → Written s v → read_only (paper_variable (variable_name s v)) ≡ false
  writable v h =
      by_kind v (read_only (paper_variable (variable_name s v)) ≡ false) h.0
      (λ e l. rw e (is_false (read_only v) h.1))
      (λ e m. rw e)

  -- What is read is known, what is written is known and not read-only, what is named is a label.
  known : (st : Statement ℕ) → Resolved s st
      → Refers (λ x. unknown_value xs x ≡ false) (λ v. (unknown_variable xs v ≡ false) × (read_only (paper_variable v) ≡ false)) (λ n. not (first_makes makes_label n xs) ≡ false)
      (statement_named s st)
  known st h =
      refers_named s (λ x. unknown_value xs x ≡ false) (λ v. (unknown_variable xs v ≡ false) × (read_only (paper_variable v) ≡ false)) (λ n. not (first_makes makes_label n xs) ≡ false) st
      (refers_then known_value (λ v w. (known_variable v w.0, writable v w)) (λ n t. ap not (known_label n t)) st h)

  module _ (k : ℕ) (h : k < cell_count s) where
    abbrev here : Statement Name
    here = statement_named s (statement_of (cell_at s k))

    known_here : Refers (λ x. unknown_value xs x ≡ false) (λ v. (unknown_variable xs v ≡ false) × (read_only (paper_variable v) ≡ false)) (λ n. not (first_makes makes_label n xs) ≡ false) here
    known_here = known (statement_of (cell_at s k)) (stands s k (a.layout k h)).resolved

    pub cell_declared : undeclared xs (cell_line s k) ≡ false
    unfolding undeclared unknown_in
    cell_declared =
        rw (
          each_none (λ n. not (first_makes makes_label n xs)) (targets here) known_here.aims,
          each_none (unknown_variable xs) (writes here) (each_then _ _ (λ v w. w.0) (writes here) known_here.sets),
          each_none (unknown_value xs) (operands here) known_here.reads,
        )

    pub cell_writes : read_only_written (cell_line s k) ≡ false
    unfolding read_only_written
    cell_writes = each_none (λ v. read_only (paper_variable v)) (writes here) (each_then _ _ (λ v w. w.1) (writes here) known_here.sets)
