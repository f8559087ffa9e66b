-- The signs of operators and comparisons: their places in the code's tables are their numbers in a cell.
-- Assumes nothing.
use mathlib.Core.Path.{◌≡◌, refl, sym, subst, ◌∙◌}
use mathlib.Core.Bool.{Bool, true, false, cond, not}
use mathlib.Core.List.{List, [], ◌∷◌, map}
use mathlib.Core.Option.{Option, none, some}
use Prim.Native.Nat.{ℕ, suc}
use borrow.Author.Tests.{eq-eqb, ne_eqb}
use lib.Dec.{T, eqb}
use Rattle.numbers.specs.Bytes.{ascii}
use Rattle.numbers.specs.Tests.{all_of, eq_list, numbered}
use Rattle.program.specs.Names.{Name}
use Rattle.program.specs.Cells.{operator_number, comparison_number}
use Rattle.program.specs.Statements.{Plus, Minus, Times, Divided, BitAnd, BitOr, BitXor, Equal, Unequal, Less, AtMost, Greater, AtLeast}
use Rattle.program.proofs.Keys.{IsWord, is_word}
use Rattle.text.specs.Forms.{operator_sign, comparison_sign, meant, operator_meant, comparison_meant}
use Rattle.text.specs.Code.{known, is_operator, is_comparison, or_else}
use Rattle.text.proofs.Words.{listed_word}

-- The signs in the order of their numbers.
unfoldable pub operator_signs : List Name
operator_signs = map operator_sign (Plus ∷ Minus ∷ Times ∷ Divided ∷ BitAnd ∷ BitOr ∷ BitXor ∷ [])

unfoldable pub comparison_signs : List Name
comparison_signs = map comparison_sign (Equal ∷ Unequal ∷ Less ∷ AtMost ∷ Greater ∷ AtLeast ∷ [])

-- What a place in a table of signs must be: 0 for no sign, and else the number of what is meant, with the last for none.
pub record Placed {A : Type 0} (number : A → ℕ) (last : A) (place : ℕ) (o : Option A) : Type 0 where
  pub sign : known o ≡ not (eqb place 0)
  pub given : number (or_else last o) ≡ cond (eqb place 0) (number last) place

-- What the code gives for a place that it found: the number of the last for 0, else the place.
module _ {A : Type 0} {number : A → ℕ} {last : A} {place : ℕ} {o : Option A} (p : Placed number last place o) {n : ℕ} (e : n ≡ place) where
  pub none_found : n ≡ 0 → number last ≡ number (or_else last o)
  none_found z = let f : place ≡ 0 = sym e ∙ z in sym (p.given ∙ rw (eq-eqb place 0 f))

  pub sign_found : (n ≡ 0 → ⊥) → n ≡ number (or_else last o)
  sign_found z = let f : place ≡ 0 → ⊥ = λ q. z (e ∙ q) in e ∙ sym (p.given ∙ rw (ne_eqb place 0 f))

-- The place of the first of these tests that holds, from 1, and what stands beside it.
abbrev first : Bool → ℕ → ℕ
first b r = cond b 1 (cond (eqb r 0) 0 (suc r))

seven : (a b c d e f g : Bool)
    → Placed operator_number BitXor (first a (first b (first c (first d (first e (first f (first g 0)))))))
    (cond a (some Plus) (cond b (some Minus) (cond c (some Times) (cond d (some Divided) (cond e (some BitAnd) (cond f (some BitOr) (cond g (some BitXor) none)))))))
unfolding known operator_number
seven true b c d e f g = record { sign = refl; given = refl }
seven false true c d e f g = record { sign = refl; given = refl }
seven false false true d e f g = record { sign = refl; given = refl }
seven false false false true e f g = record { sign = refl; given = refl }
seven false false false false true f g = record { sign = refl; given = refl }
seven false false false false false true g = record { sign = refl; given = refl }
seven false false false false false false true = record { sign = refl; given = refl }
seven false false false false false false false = record { sign = refl; given = refl }

six : (a b c d e f : Bool)
    → Placed comparison_number AtLeast (first a (first b (first c (first d (first e (first f 0))))))
    (cond a (some Equal) (cond b (some Unequal) (cond c (some Less) (cond d (some AtMost) (cond e (some Greater) (cond f (some AtLeast) none))))))
unfolding known comparison_number
six true b c d e f = record { sign = refl; given = refl }
six false true c d e f = record { sign = refl; given = refl }
six false false true d e f = record { sign = refl; given = refl }
six false false false true e f = record { sign = refl; given = refl }
six false false false false true f = record { sign = refl; given = refl }
six false false false false false true = record { sign = refl; given = refl }
six false false false false false false = record { sign = refl; given = refl }

pub operator_placed : (w : Name) → Placed operator_number BitXor (numbered operator_signs w) (operator_meant w)
unfolding operator_signs numbered operator_meant meant operator_sign
operator_placed w =
    seven (eq_list (ascii "+") w) (eq_list (ascii "-") w) (eq_list (ascii "*") w) (eq_list (ascii "/") w) (eq_list (ascii "&") w) (eq_list (ascii "|") w) (eq_list (ascii "^") w)

pub comparison_placed : (w : Name) → Placed comparison_number AtLeast (numbered comparison_signs w) (comparison_meant w)
unfolding comparison_signs numbered comparison_meant meant comparison_sign
comparison_placed w =
    six (eq_list (ascii "=") w) (eq_list (ascii "<>") w) (eq_list (ascii "<") w) (eq_list (ascii "<=") w) (eq_list (ascii ">") w) (eq_list (ascii ">=") w)

-- A sign is a word.
operators_words : T (all_of is_word operator_signs)
unfolding all_of operator_signs operator_sign ascii
operators_words = tt

comparisons_words : T (all_of is_word comparison_signs)
unfolding all_of comparison_signs comparison_sign ascii
comparisons_words = tt

pub operator_word : (w : Name) → T (is_operator w) → IsWord w
unfolding is_operator
operator_word w t = listed_word operator_signs operators_words w (subst T (operator_placed w).sign t)

pub comparison_word : (w : Name) → T (is_comparison w) → IsWord w
unfolding is_comparison
comparison_word w t = listed_word comparison_signs comparisons_words w (subst T (comparison_placed w).sign t)
