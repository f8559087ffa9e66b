-- Document 01, "One turn": what the rules for a state ask of a statement. What it reads may be anything: each effect tests what it stores.
-- Beside it, what a statement of an accepted program reads.
-- Assumes nothing.
use Rattle.std.specs.Prelude.{◌≡◌, Bool, ◌&&◌, not, ℕ, T, leb}
use Rattle.numbers.specs.Tests.{all_of}
use Rattle.program.specs.Variables.{in_range, literals, present, read_only}
use Rattle.program.specs.Statements.{Value, Literal, Variable, Statement, writes, targets, is_hold}
use Rattle.effects.specs.Deeds.{Deed, deed}
use Rattle.machine.specs.declared.Machine.{Machine}

-- Variables 1: a variable that a statement may write.
unfoldable pub writable : ℕ → ℕ → Bool
writable variables v = present variables v && not (read_only v)

-- Text 13, Refusals 26: an operand of an accepted program: a literal in its range, or a variable that is there.
unfoldable pub readable : {R : Type 0} → ℕ → (R → ℕ) → Value R → Bool
readable variables number (Literal z) = in_range literals z
readable variables number (Variable v) = present variables (number v)

-- Image 9, Variables 1: each label named has a place that is at most the cell count, each variable written is there and not read-only.
pub record Good {R : Type 0} (cells variables : ℕ) (place number : R → ℕ) (s : Statement R) : Type 0 where
  pub named : T (all_of (λ (n : R). leb (place n) cells) (targets s))
  pub written : T (all_of (λ (v : R). writable variables (number v)) (writes s))

-- Turn 7: at this machine a good statement acts, an `H x` exactly where `holds` says so.
pub record Acts {R : Type 0} (cells variables : ℕ) (holds : ℕ → Bool) (place number : R → ℕ) (act : Machine → Deed) (m : Machine) : Type 0 where
  pub statement : Statement R
  pub good : Good cells variables place number statement
  pub hold : holds m.next ≡ is_hold statement
  pub does : act m ≡ deed place number m.variables m.places.kept m.hold statement
