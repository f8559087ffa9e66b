-- A statement with the names of a listing: each of its parts is the part of the image's statement, with its name.
-- Assumes nothing.
use mathlib.Core.Path.{◌≡◌, refl, sym, ap, subst}
use mathlib.Core.List.{List, map}
use Prim.Native.Nat.{ℕ}
use Rattle.numbers.specs.Tests.{Each}
use Rattle.numbers.proofs.Tests.{each_map}
use Rattle.program.specs.Names.{Name}
use Rattle.program.specs.Statements.{Value, Always, Compare, Statement, Set, SetWith, IC, DC, BR, CL, RT, E, H, Hold, OE, Disarm, MA, MR, SL, PR, Concerns, concern, concerns, compared, operands, writes, targets, is_hold}
use Rattle.program.proofs.Statements.{Refers}
use Rattle.printing.specs.Listing.{variable_name, label_name}
use Rattle.listing.specs.Listed.{value_named, condition_named, statement_named}

module _ (s : List ℕ) where
  concerns_named : (a : Statement ℕ)
      → concerns (statement_named s a) ≡ concern (map (value_named s) (operands a)) (map (variable_name s) (writes a)) (map (label_name s) (targets a)) (is_hold a)
  unfolding statement_named condition_named compared operands writes targets is_hold
  concerns_named (Set v x) = refl
  concerns_named (SetWith v x o y) = refl
  concerns_named (IC v) = refl
  concerns_named (DC v) = refl
  concerns_named (BR n Always) = refl
  concerns_named (BR n (Compare x c y)) = refl
  concerns_named (CL n Always) = refl
  concerns_named (CL n (Compare x c y)) = refl
  concerns_named RT = refl
  concerns_named E = refl
  concerns_named H = refl
  concerns_named (Hold x) = refl
  concerns_named (OE n) = refl
  concerns_named Disarm = refl
  concerns_named (MA x) = refl
  concerns_named (MR x) = refl
  concerns_named (SL x) = refl
  concerns_named (PR x) = refl

  pub refers_named : (Reads : Value Name → Type 0) (Sets Aims : Name → Type 0) (a : Statement ℕ)
      → Refers (λ x. Reads (value_named s x)) (λ v. Sets (variable_name s v)) (λ n. Aims (label_name s n)) a → Refers Reads Sets Aims (statement_named s a)
  unfolding operands writes targets
  refers_named Reads Sets Aims a r =
      let e = concerns_named a in
      record {
        reads = subst (Each Reads) (sym (ap (λ (c : Concerns Name). c.read) e)) (each_map (value_named s) Reads (operands a) r.reads);
        sets = subst (Each Sets) (sym (ap (λ (c : Concerns Name). c.written) e)) (each_map (variable_name s) Sets (writes a) r.sets);
        aims = subst (Each Aims) (sym (ap (λ (c : Concerns Name). c.named) e)) (each_map (label_name s) Aims (targets a) r.aims);
      }
