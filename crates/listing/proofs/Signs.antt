-- The signs between the words of a line: each is one token, and stands for what it is the sign of.
-- Assumes nothing.
use mathlib.Core.Path.{◌≡◌, refl}
use mathlib.Core.Bool.{true, false, ◌&&◌}
use mathlib.Core.List.{List, [], ◌∷◌, ◌++◌}
use mathlib.Core.Option.{some}
use Prim.Native.Nat.{ℕ, ◌≤◌}
use native.Mathlib.Omega.{arith}
use lib.Dec.{T, eqb}
use lib.ListN.{length, get_or}
use Rattle.numbers.specs.Bytes.{ascii}
use Rattle.numbers.specs.Tests.{all_of, eq_list}
use Rattle.program.specs.Names.{Name, letter, digit, word_character}
use Rattle.program.specs.Statements.{Operator, Plus, Minus, Times, Divided, BitAnd, BitOr, BitXor, Comparison, Equal, Unequal, Less, AtMost, Greater, AtLeast}
use Rattle.text.specs.Tokens.{tokens, joins, printable}
use Rattle.text.specs.Forms.{operator_sign, comparison_sign, meant, operator_meant, comparison_meant}
use Rattle.listing.proofs.Tokens.{token, follows, Stops, fine, tokens_sign, tokens_pair}
use Rattle.listing.proofs.Values.{Starts}

-- What a sign does between two words.
pub record Sign (w : Name) : Type 0 where
  pub cuts : (rest : List ℕ) → Starts rest → tokens (w ++ rest) ≡ token w (follows rest) ∷ tokens rest
  pub stops : (rest : List ℕ) → Stops (w ++ rest)
  pub kind : T (all_of fine w)
  pub short : length w ≤ 2

-- A sign of one character that no other joins.
single : (c : ℕ) → eqb c 32 ≡ false → ((d : ℕ) → joins c d ≡ false) → word_character c ≡ false → T (fine c && true) → Sign (c ∷ [])
unfolding all_of
single c s j w f = record { cuts = λ rest h. tokens_sign c rest s (j (get_or rest 0 32)); stops = λ rest. w; kind = f; short = omega arith }

-- All that a sign computes with.
signs : Unit {0}
unfolding ascii all_of printable joins word_character letter digit operator_sign comparison_sign meant operator_meant comparison_meant eq_list
signs = tt

less : Sign (ascii "<")
unfolding signs
less = record {
  cuts = λ rest h. tokens_sign 60 rest refl (rw (h.no_equals, h.no_more));
  stops = λ rest. refl;
  kind = tt;
  short = omega arith;
}

more : Sign (ascii ">")
unfolding signs
more = record { cuts = λ rest h. tokens_sign 62 rest refl (rw h.no_equals); stops = λ rest. refl; kind = tt; short = omega arith }

unequal : Sign (ascii "<>")
unfolding signs
unequal = record { cuts = λ rest h. tokens_pair 60 62 rest refl refl refl (rw h.no_equals); stops = λ rest. refl; kind = tt; short = omega arith }

most : Sign (ascii "<=")
unfolding signs
most = record { cuts = λ rest h. tokens_pair 60 61 rest refl refl refl refl; stops = λ rest. refl; kind = tt; short = omega arith }

least : Sign (ascii ">=")
unfolding signs
least = record { cuts = λ rest h. tokens_pair 62 61 rest refl refl refl refl; stops = λ rest. refl; kind = tt; short = omega arith }

pub equals : Sign (ascii "=")
unfolding signs
equals = single 61 refl (λ d. refl) refl tt

pub comma : Sign (ascii ",")
unfolding signs
comma = single 44 refl (λ d. refl) refl tt

-- Each operator and each comparison has a sign, which stands for it.
pub operator_sign_lem : (o : Operator) → Sign (operator_sign o)
unfolding signs
operator_sign_lem Plus = single 43 refl (λ d. refl) refl tt
operator_sign_lem Minus = single 45 refl (λ d. refl) refl tt
operator_sign_lem Times = single 42 refl (λ d. refl) refl tt
operator_sign_lem Divided = single 47 refl (λ d. refl) refl tt
operator_sign_lem BitAnd = single 38 refl (λ d. refl) refl tt
operator_sign_lem BitOr = single 124 refl (λ d. refl) refl tt
operator_sign_lem BitXor = single 94 refl (λ d. refl) refl tt

pub comparison_sign_lem : (c : Comparison) → Sign (comparison_sign c)
unfolding signs
comparison_sign_lem Equal = equals
comparison_sign_lem Unequal = unequal
comparison_sign_lem Less = less
comparison_sign_lem AtMost = most
comparison_sign_lem Greater = more
comparison_sign_lem AtLeast = least

pub operator_meant_lem : (o : Operator) → operator_meant (operator_sign o) ≡ some o
unfolding signs
operator_meant_lem Plus = refl
operator_meant_lem Minus = refl
operator_meant_lem Times = refl
operator_meant_lem Divided = refl
operator_meant_lem BitAnd = refl
operator_meant_lem BitOr = refl
operator_meant_lem BitXor = refl

pub comparison_meant_lem : (c : Comparison) → comparison_meant (comparison_sign c) ≡ some c
unfolding signs
comparison_meant_lem Equal = refl
comparison_meant_lem Unequal = refl
comparison_meant_lem Less = refl
comparison_meant_lem AtMost = refl
comparison_meant_lem Greater = refl
comparison_meant_lem AtLeast = refl
