-- Names and operands: how they are printed, the tokens they fall into, and that an operand is read back.
-- Assumes nothing.
use mathlib.Core.Path.{◌≡◌, refl, subst}
use mathlib.Core.Bool.{Bool, true, false, ◌&&◌, not}
use mathlib.Core.List.{List, [], ◌∷◌, ◌++◌}
use mathlib.Core.Logic.{⊎_elim}
use mathlib.Core.Option.{none}
use Prim.Native.Nat.{ℕ, ◌<◌}
use native.Mathlib.Omega.{arith}
use lib.Dec.{T, T_not, eqb, leb, leb→le, eqb→eq}
use lib.IntN.{pos, negsuc}
use lib.ListN.{length, get_or}
use Rattle.numbers.specs.Bytes.{ascii}
use Rattle.numbers.specs.Tests.{all_of, eq_list, numbered}
use Rattle.program.specs.Names.{Name, letter, digit, word_character, variable_names, paper_variable, two_characters, user_name}
use Rattle.program.specs.Variables.{in_range, literals}
use Rattle.program.specs.Statements.{Value, Literal, Variable}
use Rattle.numbers.proofs.Truth.{not_same, both, both_of, either, is_true, is_no, left_of_lem}
use Rattle.numbers.proofs.Tests.{eq_list_eq, all_then, numbered_all}
use Rattle.program.proofs.Keys.{user_two}
use Rattle.text.specs.Tokens.{Token, tokens}
use Rattle.text.specs.Forms.{digits, literal, variable_name, variable, operand, took, put, word}
use Rattle.printing.specs.Listing.{plain}
use Rattle.listing.proofs.Tokens.{token, follows, Stops, fine, tokens_word, word_is_not, word_fine}
use Rattle.listing.proofs.Literals.{literal_tokens, literal_read, tokens_literal, literal_fine, figures, figures_word, figures_some}

-- A name of characters of a word, of which the first is a letter.
abbrev pub spelt : Name → Bool
spelt w = letter (get_or w 0 0) && all_of word_character w

pub record Spelt (w : Name) : Type 0 where
  pub word : T (all_of word_character w)
  pub some : 0 < length w
  pub no_digits : all_of digit w ≡ false

letter_no_digit : (c : ℕ) → T (letter c) → digit c ≡ false
unfolding letter digit
letter_no_digit c t =
    is_no (digit c)
    (λ d. let h = leb→le 65 c (both (leb 65 c) (leb c 90) t).0 in
    let l = leb→le c 57 (both (leb 48 c) (leb c 57) d).1 in
    omega arith)

pub spelling : (w : Name) → T (spelt w) → Spelt w
unfolding all_of letter
spelling [] t = absurd t
spelling (c ∷ w) t =
    let p = both (letter c) (all_of word_character (c ∷ w)) t in
    record { word = p.1; some = omega arith; no_digits = rw (letter_no_digit c p.0) }

pub two_spelt : (w : Name) → T (two_characters w) → Spelt w
unfolding two_characters all_of letter word_character digit
two_spelt [] t = absurd t
two_spelt (a ∷ []) t = absurd t
two_spelt (a ∷ b ∷ []) t =
    let p = both (letter a) (word_character b) t in
    record { word = both_of (word_character a) (word_character b && true) (left_of_lem (letter a) (digit a) p.0) (both_of (word_character b) true p.1 tt); some = omega arith; no_digits = rw (letter_no_digit a p.0) }
two_spelt (a ∷ b ∷ c ∷ w) t =
    let e = eqb→eq (length (a ∷ b ∷ c ∷ w)) 2 (both (eqb (length (a ∷ b ∷ c ∷ w)) 2) (letter a && word_character b) t).0 in
    absurd (omega arith)

-- A name of the user's has two characters, and is spelt so.
pub user_spelt : (w : Name) → T (user_name w) → Spelt w
user_spelt w t = two_spelt w (user_two w t)

pub variable_spelt : (w : Name) → T (variable_name w) → Spelt w
unfolding variable_name paper_variable variable_names ascii all_of word_character letter digit
variable_spelt w t =
    ⊎_elim
    (λ p. spelling w (numbered_all spelt variable_names w tt (not_same (paper_variable w) 0 p)))
    (λ u. user_spelt w u)
    (either (not (eqb (paper_variable w) 0)) (user_name w) t)

-- What is no variable's name is not a variable's name.
pub variable_is_not : (w m : Name) → T (variable_name w) → T (not (variable_name m)) → eq_list w m ≡ false
variable_is_not w m t n = is_no (eq_list w m) (λ e. T_not (variable_name m) n (subst (λ (u : Name). T (variable_name u)) (eq_list_eq w m e) t))

-- A name in a text.
pub tokens_name : (w rest : List ℕ) → Spelt w → Stops rest → tokens (w ++ rest) ≡ token w (follows rest) ∷ tokens rest
tokens_name w rest s e = tokens_word w rest s.word s.some e

pub name_fine : (w : Name) → Spelt w → T (all_of fine w)
name_fine w s = all_then word_character fine word_fine w s.word

-- An operand as it is printed; one that a text can have; its tokens in front of others.
abbrev pub value_told : Value Name → List ℕ
value_told (Literal z) = plain z
value_told (Variable w) = w

abbrev pub Sound : Value Name → Type 0
Sound (Literal z) = T (in_range literals z)
Sound (Variable w) = T (variable_name w)

abbrev pub value_tokens : Value Name → Bool → List Token → List Token
value_tokens (Literal z) g ts = literal_tokens z g ts
value_tokens (Variable w) g ts = token w g ∷ ts

no_literal : (w : Name) (g : Bool) (ts : List Token) → T (variable_name w) → literal (token w g ∷ ts) ≡ none
unfolding literal digits ascii eq_list variable_name user_name two_characters paper_variable variable_names numbered
no_literal w g [] t = rw (variable_spelt w t).no_digits
no_literal w g (u ∷ ts) t = rw ((variable_spelt w t).no_digits, variable_is_not w (ascii "-") t tt)

pub operand_read : (x : Value Name) (g : Bool) (ts : List Token) → Sound x → operand (value_tokens x g ts) ≡ took x ts
unfolding operand variable put word
operand_read (Literal z) g ts h = rw (operand, literal_read z g ts h)
operand_read (Variable w) g ts h = rw (operand, no_literal w g ts h, put, is_true (variable_name w) h)

pub tokens_value : (x : Value Name) (rest : List ℕ) → Sound x → Stops rest → tokens (value_told x ++ rest) ≡ value_tokens x (follows rest) (tokens rest)
tokens_value (Literal z) rest h e = tokens_literal z rest e
tokens_value (Variable w) rest h e = tokens_name w rest (variable_spelt w h) e

pub value_fine : (x : Value Name) → Sound x → T (all_of fine (value_told x))
value_fine (Literal z) h = literal_fine z
value_fine (Variable w) h = name_fine w (variable_spelt w h)

-- An operand starts with neither = nor >, so that no sign before it goes on.
pub record Starts (l : List ℕ) : Type 0 where
  pub no_equals : eqb (get_or l 0 32) 61 ≡ false
  pub no_more : eqb (get_or l 0 32) 62 ≡ false

pub word_starts : (w rest : List ℕ) → T (all_of word_character w) → 0 < length w → Starts (w ++ rest)
unfolding all_of word_character letter digit
word_starts [] rest h l = absurd (omega arith)
word_starts (c ∷ w) rest h l =
    let t = (both (word_character c) (all_of word_character w) h).0 in
    record { no_equals = word_is_not c 61 t tt; no_more = word_is_not c 62 t tt }

pub value_starts : (x : Value Name) (rest : List ℕ) → Sound x → Starts (value_told x ++ rest)
unfolding plain ascii
value_starts (Literal (pos n)) rest h = word_starts (figures n) rest (figures_word n) (figures_some n)
value_starts (Literal (negsuc n)) rest h = record { no_equals = refl; no_more = refl }
value_starts (Variable w) rest h = let s = variable_spelt w h in word_starts w rest s.word s.some
