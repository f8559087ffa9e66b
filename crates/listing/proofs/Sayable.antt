-- Each cell of an accepted image is a statement that a text can have.
-- Assumes nothing.
use mathlib.Core.Bool.{not}
use mathlib.Core.List.{List, []}
use Prim.Native.Nat.{ℕ, ◌*◌, ◌-◌, ◌<◌}
use native.Mathlib.Omega.{arith}
use borrow.Author.Tests.{lt-ltb, le-ltb}
use lib.Dec.{T, eqb}
use lib.ListN.{get_or}
use Rattle.numbers.specs.Bytes.{ascii}
use Rattle.numbers.specs.Tests.{all_of, any_of, any_below, first_below, eq_list, numbered}
use Rattle.numbers.proofs.Truth.{right_of}
use Rattle.numbers.proofs.Tests.{all_at, first_found}
use Rattle.program.specs.Names.{variable_names, paper_variable, user_name}
use Rattle.program.specs.Variables.{present}
use Rattle.program.specs.Statements.{Value, Literal, Variable}
use Rattle.program.specs.Cells.{statement_of}
use Rattle.program.proofs.Ranges.{by_present}
use Rattle.program.proofs.Keys.{free_user}
use Rattle.program.proofs.Statements.{refers_then}
use Rattle.text.specs.Forms as F
use Rattle.image.specs.Layout.{label_count, variable_count, cell_at, label_target, variable_place, name_at}
use Rattle.image.specs.Check.{layouts, fits}
use Rattle.printing.specs.Listing.{variable_name, label_name}
use Rattle.listing.specs.Listed.{value_named, statement_named}
use Rattle.listing.proofs.Values.{Sound}
use Rattle.listing.proofs.Told.{Sayable}
use Rattle.listing.proofs.Accepted.{Accepted}
use Rattle.listing.proofs.Resolved.{Read, stands}
use Rattle.listing.proofs.Renamed.{refers_named}

-- The paper's names are names of variables.
paper_named : (i : ℕ) → i < 20 → T (F.variable_name (get_or variable_names i []))
unfolding variable_names F.variable_name paper_variable ascii all_of numbered eq_list
paper_named i h = all_at F.variable_name variable_names [] i tt h

module _ (s : List ℕ) (a : Accepted s) where
  -- A variable that is there has the name of one; a target that a label has, the name of a label.
  named_variable : (v : ℕ) → T (present (variable_count s) v) → T (F.variable_name (variable_name s v))
  unfolding variable_name F.variable_name
  named_variable v t =
      by_present (variable_count s) v t
      (λ l m. rw (lt-ltb v 32 (omega arith)) (paper_named (v - 1) (omega arith)))
      (λ l m. rw (le-ltb v 32 l)
      (right_of (not (eqb (paper_variable (name_at s (variable_place s (v - 32)))) 0)) (user_name (name_at s (variable_place s (v - 32)))) (free_user _ (a.variable_name (v - 32) (omega arith)))))

  named_label : (n : ℕ) → T (any_below (label_count s) (λ k. eqb (label_target s k) n)) → T (user_name (label_name s n))
  unfolding label_name
  named_label n t = free_user _ (a.label_name (first_below (label_count s) (λ k. eqb (label_target s k) n)) (first_found (λ k. eqb (label_target s k) n) (label_count s) t))

  named_value : (x : Value ℕ) → Read s x → Sound (value_named s x)
  unfolding value_named
  named_value (Literal z) h = h
  named_value (Variable v) h = named_variable v h

  -- A cell that has one of the layouts.
  pub sayable : (k : ℕ) → T (any_of (fits s (16 * k)) layouts) → Sayable (statement_named s (statement_of (cell_at s k)))
  sayable k t =
      refers_named s Sound (λ v. T (F.variable_name v)) (λ n. T (user_name n)) (statement_of (cell_at s k))
      (refers_then named_value (λ v h. named_variable v h.0) named_label (statement_of (cell_at s k)) (stands s k t).resolved)
