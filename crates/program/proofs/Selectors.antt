-- Operators and comparisons have their numbers back, and the numbers what they stand for.
-- Assumes nothing.
use mathlib.Core.Path.{◌≡◌, refl}
use mathlib.Core.Bool.{false}
use Prim.Native.Nat.{ℕ, ◌≤◌}
use native.Mathlib.Omega.{arith}
use borrow.Author.Tests.{ne_eqb}
use lib.Dec.{eqb}
use Rattle.numbers.proofs.Lists.{EachFrom, each_from}
use Rattle.program.specs.Statements.{Operator, Plus, Minus, Times, Divided, BitAnd, BitOr, BitXor, Comparison, Equal, Unequal, Less, AtMost, Greater, AtLeast}
use Rattle.program.specs.Cells.{operator_number, comparison_number, operator_of, comparison_of}

-- Image 6: the numbers from 1 on that a good cell has.
seven : EachFrom (λ (n : ℕ). operator_number (operator_of n) ≡ n) 1 7
unfolding operator_number operator_of
seven = (refl, (refl, (refl, (refl, (refl, (refl, (refl, tt)))))))

pub operator_number_lem : (n : ℕ) → 1 ≤ n → n ≤ 7 → operator_number (operator_of n) ≡ n
operator_number_lem n low high = each_from (λ (k : ℕ). operator_number (operator_of k) ≡ k) 1 7 seven n low (omega arith)

six : EachFrom (λ (n : ℕ). comparison_number (comparison_of n) ≡ n) 1 6
unfolding comparison_number comparison_of
six = (refl, (refl, (refl, (refl, (refl, (refl, tt))))))

pub comparison_number_lem : (n : ℕ) → 1 ≤ n → n ≤ 6 → comparison_number (comparison_of n) ≡ n
comparison_number_lem n low high = each_from (λ (k : ℕ). comparison_number (comparison_of k) ≡ k) 1 6 six n low (omega arith)

pub operator_back : (o : Operator) → operator_of (operator_number o) ≡ o
unfolding operator_number operator_of
operator_back Plus = refl
operator_back Minus = refl
operator_back Times = refl
operator_back Divided = refl
operator_back BitAnd = refl
operator_back BitOr = refl
operator_back BitXor = refl

pub comparison_back : (c : Comparison) → comparison_of (comparison_number c) ≡ c
unfolding comparison_number comparison_of
comparison_back Equal = refl
comparison_back Unequal = refl
comparison_back Less = refl
comparison_back AtMost = refl
comparison_back Greater = refl
comparison_back AtLeast = refl

-- Image 6: operators are numbered from 1 to 7, comparisons from 1 to 6.
pub operator_range : (o : Operator) → (1 ≤ operator_number o) × (operator_number o ≤ 7)
unfolding operator_number
operator_range Plus = (omega arith, omega arith)
operator_range Minus = (omega arith, omega arith)
operator_range Times = (omega arith, omega arith)
operator_range Divided = (omega arith, omega arith)
operator_range BitAnd = (omega arith, omega arith)
operator_range BitOr = (omega arith, omega arith)
operator_range BitXor = (omega arith, omega arith)

pub comparison_range : (c : Comparison) → (1 ≤ comparison_number c) × (comparison_number c ≤ 6)
unfolding comparison_number
comparison_range Equal = (omega arith, omega arith)
comparison_range Unequal = (omega arith, omega arith)
comparison_range Less = (omega arith, omega arith)
comparison_range AtMost = (omega arith, omega arith)
comparison_range Greater = (omega arith, omega arith)
comparison_range AtLeast = (omega arith, omega arith)

-- A comparison's number is never that of a jump without a condition.
pub comparison_some : (c : Comparison) → eqb (comparison_number c) 0 ≡ false
comparison_some c = ne_eqb (comparison_number c) 0 (λ e. omega (arith, e, (comparison_range c).0))
