-- How many bytes each line of a listing has at most, whatever the image.
-- Assumes nothing.
use mathlib.Core.Path.{◌≡◌}
use mathlib.Core.List.{List, [], ◌∷◌, ◌++◌}
use Prim.Native.Nat.{ℕ, ◌+◌, ◌-◌, ◌≤◌}
use native.Mathlib.Omega.{arith}
use lib.Dec.{ltb, leb, leb→le}
use lib.ListN.{length, get_or, length-append, length-take, get_or-eq_default}
use Rattle.numbers.specs.Bytes.{ascii}
use Rattle.numbers.specs.Tests.{all_of}
use Rattle.numbers.proofs.Tests.{all_at}
use Rattle.numbers.proofs.Truth.{if_below, of_both}
use Rattle.program.specs.Names.{Name, variable_names}
use Rattle.program.specs.Statements.{Value, Literal, Variable, Condition, Always, Compare, Statement, Set, SetWith, IC, DC, BR, CL, RT, E, H, Hold, OE, Disarm, MA, MR, SL, PR}
use Rattle.image.specs.Layout.{label_place, variable_place, start_value, name_at}
use Rattle.printing.specs.Listing.{plain, variable_name, label_name, value_text, condition_text, statement_text, line}
use Rattle.listing.proofs.Literals.{literal_length}
use Rattle.listing.proofs.Signs.{operator_sign_lem, comparison_sign_lem}

-- A name of the paper's has one or two characters.
paper_short : (i : ℕ) → length (get_or variable_names i []) ≤ 2
unfolding variable_names ascii all_of
paper_short i =
    if_below i 20
    (λ h. leb→le (length (get_or variable_names i [])) 2 (all_at (λ w. leb (length w) 2) variable_names [] i tt h))
    (λ h. rw (get_or-eq_default variable_names [] h) (omega arith))

-- A line has one byte more, its LF.
pub line_length_lem : (l : List ℕ) → length (line l) ≡ length l + 1
unfolding line
line_length_lem l = length-append l (10 ∷ [])

module _ (s : List ℕ) where
  name_short : (place : ℕ) → length (name_at s place) ≤ 2
  unfolding name_at
  name_short place = rw length-take (omega arith)

  variable_short : (v : ℕ) → length (variable_name s v) ≤ 2
  unfolding variable_name
  variable_short v = of_both (λ (w : Name). length w ≤ 2) (ltb v 32) (paper_short (v - 1)) (name_short (variable_place s (v - 32)))

  label_short : (n : ℕ) → length (label_name s n) ≤ 2
  unfolding label_name
  label_short n = name_short _

  value_short : (x : Value ℕ) → length (value_text s x) ≤ 11
  unfolding value_text
  value_short (Literal z) = literal_length z
  value_short (Variable v) = omega (arith, variable_short v)

  condition_short : (c : Condition ℕ) → length (condition_text s c) ≤ 25
  unfolding condition_text ascii
  condition_short Always = omega arith
  condition_short (Compare x c y) = simp length-append (omega (arith, value_short x, (comparison_sign_lem c).short, value_short y))

  pub statement_short : (a : Statement ℕ) → length (statement_text s a) ≤ 30
  unfolding statement_text ascii
  statement_short (Set v x) = simp length-append (omega (arith, variable_short v, value_short x))
  statement_short (SetWith v x o y) = simp length-append (omega (arith, variable_short v, value_short x, (operator_sign_lem o).short, value_short y))
  statement_short (IC v) = omega (arith, variable_short v)
  statement_short (DC v) = omega (arith, variable_short v)
  statement_short (BR n c) = simp length-append (omega (arith, label_short n, condition_short c))
  statement_short (CL n c) = simp length-append (omega (arith, label_short n, condition_short c))
  statement_short RT = omega arith
  statement_short E = omega arith
  statement_short H = omega arith
  statement_short (Hold x) = omega (arith, value_short x)
  statement_short (OE n) = omega (arith, label_short n)
  statement_short Disarm = omega arith
  statement_short (MA x) = omega (arith, value_short x)
  statement_short (MR x) = omega (arith, value_short x)
  statement_short (SL x) = omega (arith, value_short x)
  statement_short (PR x) = omega (arith, value_short x)

  -- The line of a variable, and that of a label.
  pub declared_short : (k : ℕ) → length (ascii "VA " ++ (name_at s (variable_place s k) ++ (ascii "=" ++ plain (start_value s k)))) ≤ 17
  unfolding ascii
  declared_short k = simp length-append (omega (arith, name_short (variable_place s k), literal_length (start_value s k)))

  pub labelled_short : (k : ℕ) → length (ascii "LB " ++ name_at s (label_place s k)) ≤ 5
  unfolding ascii
  labelled_short k = omega (arith, name_short (label_place s k))
