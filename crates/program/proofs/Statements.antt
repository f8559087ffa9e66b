-- What is said of a statement by its parts, and its cell by the same parts.
-- Assumes nothing.
use mathlib.Core.List.{List, [], ◌∷◌}
use Prim.Native.Nat.{ℕ, ◌≤◌}
use native.Mathlib.Omega.{arith}
use lib.Dec.{lit≤}
use Rattle.numbers.specs.Tests.{Each}
use Rattle.numbers.proofs.Tests.{each_then}
use Rattle.program.specs.declared.Cell.{Cell}
use Rattle.program.specs.declared.Operand.{Operand}
use Rattle.program.specs.declared.Operand.TheVariants as O
use Rattle.program.specs.Statements.{Value, Always, Compare, Statement, Set, SetWith, IC, DC, BR, CL, RT, E, H, Hold, OE, Disarm, MA, MR, SL, PR, compared, operands, writes, targets}
use Rattle.program.specs.Cells.{no_target, operand_of, jump_of, cell_of}
use Rattle.program.proofs.Selectors.{operator_range, comparison_range}

-- Each operand that a statement reads is such, each variable that it writes, each label that it names.
pub record Refers {R : Type 0} (Reads : Value R → Type 0) (Sets Aims : R → Type 0) (s : Statement R) : Type 0 where
  pub reads : Each Reads (operands s)
  pub sets : Each Sets (writes s)
  pub aims : Each Aims (targets s)

-- What follows for each part follows for the statement.
pub refers_then : {R : Type 0} {Reads Reads' : Value R → Type 0} {Sets Sets' Aims Aims' : R → Type 0}
    → ((x : Value R) → Reads x → Reads' x) → ((v : R) → Sets v → Sets' v) → ((n : R) → Aims n → Aims' n)
    → (s : Statement R) → Refers Reads Sets Aims s → Refers Reads' Sets' Aims' s
refers_then {Reads} {Reads'} {Sets} {Sets'} {Aims} {Aims'} f g h s r =
    record {
      reads = each_then Reads Reads' f (operands s) r.reads;
      sets = each_then Sets Sets' g (writes s) r.sets;
      aims = each_then Aims Aims' h (targets s) r.aims;
    }

-- The fields of a statement's cell, each by a part of the statement, or not used.
module _ {R : Type 0} (place number : R → ℕ) where
  pub data ReadBy : List (Value R) → Operand → Operand → Type 0 where
    none : ReadBy [] O.Nothing O.Nothing
    one : (x : Value R) → ReadBy (x ∷ []) (operand_of place number x) O.Nothing
    two : (x y : Value R) → ReadBy (x ∷ y ∷ []) (operand_of place number x) (operand_of place number y)

  pub data WrittenBy : List R → ℕ → Type 0 where
    unwritten : WrittenBy [] 0
    wrote : (v : R) → WrittenBy (v ∷ []) (number v)

  pub data AimedBy : List R → ℕ → Type 0 where
    unaimed : AimedBy [] 0
    disarmed : AimedBy [] no_target
    aimed : (n : R) → AimedBy (n ∷ []) (place n)

  pub record Has (s : Statement R) (c : Cell) : Type 0 where
    pub operation : c.operation ≤ 14
    pub selector : c.selector ≤ 7
    pub read : ReadBy (operands s) c.left c.right
    pub written : WrittenBy (writes s) c.written
    pub target : AimedBy (targets s) c.target

  parts : {s : Statement R} {c : Cell} → c.operation ≤ 14 → c.selector ≤ 7 → ReadBy (operands s) c.left c.right → WrittenBy (writes s) c.written
      → AimedBy (targets s) c.target → Has s c
  parts o c x v n = record { operation = o; selector = c; read = x; written = v; target = n }

  pub cell_has : (s : Statement R) → Has s (cell_of place number s)
  unfolding operands writes targets compared cell_of jump_of
  cell_has (Set v x) = parts (lit≤ tt) (lit≤ tt) (one x) (wrote v) unaimed
  cell_has (SetWith v x o y) = parts (lit≤ tt) (operator_range o).1 (two x y) (wrote v) unaimed
  cell_has (IC v) = parts (lit≤ tt) (lit≤ tt) none (wrote v) unaimed
  cell_has (DC v) = parts (lit≤ tt) (lit≤ tt) none (wrote v) unaimed
  cell_has (BR n Always) = parts (lit≤ tt) (lit≤ tt) none unwritten (aimed n)
  cell_has (BR n (Compare x c y)) = parts (lit≤ tt) (omega (arith, (comparison_range c).1)) (two x y) unwritten (aimed n)
  cell_has (CL n Always) = parts (lit≤ tt) (lit≤ tt) none unwritten (aimed n)
  cell_has (CL n (Compare x c y)) = parts (lit≤ tt) (omega (arith, (comparison_range c).1)) (two x y) unwritten (aimed n)
  cell_has RT = parts (lit≤ tt) (lit≤ tt) none unwritten unaimed
  cell_has E = parts (lit≤ tt) (lit≤ tt) none unwritten unaimed
  cell_has H = parts (lit≤ tt) (lit≤ tt) none unwritten unaimed
  cell_has (Hold x) = parts (lit≤ tt) (lit≤ tt) (one x) unwritten unaimed
  cell_has (OE n) = parts (lit≤ tt) (lit≤ tt) none unwritten (aimed n)
  cell_has Disarm = parts (lit≤ tt) (lit≤ tt) none unwritten disarmed
  cell_has (MA x) = parts (lit≤ tt) (lit≤ tt) (one x) unwritten unaimed
  cell_has (MR x) = parts (lit≤ tt) (lit≤ tt) (one x) unwritten unaimed
  cell_has (SL x) = parts (lit≤ tt) (lit≤ tt) (one x) unwritten unaimed
  cell_has (PR x) = parts (lit≤ tt) (lit≤ tt) (one x) unwritten unaimed

  -- What holds of the parts holds of the fields, where it holds of those that are not used.
  pub both_read : {xs : List (Value R)} {l r : Operand} (P : Operand → Type 0) → P O.Nothing → ReadBy xs l r → Each (λ x. P (operand_of place number x)) xs → P l × P r
  both_read P n none h = (n, n)
  both_read P n (one x) h = (h.0, n)
  both_read P n (two x y) h = (h.0, h.1.0)

  pub all_written : {vs : List R} {w : ℕ} (P : ℕ → Type 0) → P 0 → WrittenBy vs w → Each (λ v. P (number v)) vs → P w
  all_written P z unwritten h = z
  all_written P z (wrote v) h = h.0

  pub all_aimed : {ns : List R} {t : ℕ} (P : ℕ → Type 0) → P 0 → P no_target → AimedBy ns t → Each (λ n. P (place n)) ns → P t
  all_aimed P z d unaimed h = z
  all_aimed P z d disarmed h = d
  all_aimed P z d (aimed n) h = h.0
