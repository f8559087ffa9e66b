-- A literal as the listing prints it is read back.
-- Assumes nothing.
use mathlib.Core.Path.{◌≡◌, refl, ap, ap₂, ◌∙◌}
use mathlib.Core.Bool.{Bool, true, false, not}
use mathlib.Core.List.{List, [], ◌∷◌, ◌++◌}
use Prim.Native.Nat.{ℕ, zero, suc, ◌+◌, ◌/◌, ◌%◌, ◌^◌, ◌≤◌, ◌<◌}
use native.Mathlib.Nat.{pow-suc, div-add-mod', div-lt_iff_lt-mul, zero-lt-suc, mod-lt}
use native.Mathlib.Numerals.{add-one}
use native.Mathlib.Omega.{arith}
use borrow.Author.Tests.{le-leb, ltb-true, ltb-false}
use lib.Dec.{T, leb, ltb, leb→le}
use lib.IntN.{ℤ, pos, negsuc}
use lib.ListN.{length, length-append}
use Rattle.numbers.specs.Bytes.{ascii}
use Rattle.numbers.specs.Tests.{all_of, first_below, eq_list}
use Rattle.numbers.proofs.Truth.{both, both_of, is_true, right_of}
use Rattle.numbers.proofs.Tests.{all_append, all_then, first_most, first_passes}
use Rattle.program.specs.Names.{letter, digit, word_character}
use Rattle.program.specs.Variables.{in_range, literals}
use Rattle.text.specs.Tokens.{Token, tokens, joins, printable}
use Rattle.text.proofs.Packing.{decimal_snoc}
use Rattle.text.specs.Forms.{digits, decimal, literal, took}
use Rattle.printing.specs.Listing.{printed, width, plain}
use Rattle.listing.proofs.Tokens.{token, follows, Stops, fine, tokens_word, tokens_sign, word_is_not, word_fine}

pub printed_length : (w n : ℕ) → length (printed w n) ≡ w
unfolding printed
printed_length zero n = refl
printed_length (suc w) n = length-append (printed w (n / 10)) ((48 + n % 10) ∷ []) ∙ rw (printed_length w (n / 10)) (add-one w)

-- A number in enough digits is read back.
pub printed_value : (w n : ℕ) → n < 10 ^ w → decimal 0 (printed w n) ≡ n
unfolding printed decimal
printed_value zero n h = omega arith
printed_value (suc w) n h =
    let d : n / 10 < 10 ^ w = (div-lt_iff_lt-mul (zero-lt-suc 9)).1 (rw pow-suc at h) in
    decimal_snoc 0 (printed w (n / 10)) (48 + n % 10) ∙ rw (printed_value w (n / 10) d) (omega (arith, div-add-mod' n 10))

digit_of : (m : ℕ) → m < 10 → T (digit (48 + m))
unfolding digit
digit_of m h = rw (le-leb 48 (48 + m) (omega arith), le-leb (48 + m) 57 (omega arith)) tt

pub printed_digits : (w n : ℕ) → T (all_of digit (printed w n))
unfolding printed all_of
printed_digits zero n = tt
printed_digits (suc w) n =
    all_append digit (printed w (n / 10)) ((48 + n % 10) ∷ []) (printed_digits w (n / 10))
    (both_of (digit (48 + n % 10)) true (digit_of (n % 10) (mod-lt n (zero-lt-suc 9))) tt)

digit_word : (c : ℕ) → T (digit c) → T (word_character c)
unfolding word_character
digit_word c t = right_of (letter c) (digit c) t

printed_word : (w n : ℕ) → T (all_of word_character (printed w n))
printed_word w n = all_then digit word_character digit_word (printed w n) (printed_digits w n)

-- The width of a literal: 1 to 10, and enough.
pub width_least : (n : ℕ) → 0 < width n
unfolding width
width_least n = omega arith

pub width_most : (n : ℕ) → width n ≤ 10
unfolding width
width_most n = let h = first_most (λ k. ltb n (10 ^ suc k)) 9 in omega arith

pub width_enough : (n : ℕ) → n < 10 ^ 10 → n < 10 ^ width n
unfolding width
width_enough n h = which (ltb first 9) refl where
  first : ℕ
  first = first_below 9 (λ k. ltb n (10 ^ suc k))

  which : (t : Bool) → ltb first 9 ≡ t → n < 10 ^ suc first
  which true e = ltb-true n (10 ^ suc first) (first_passes (λ k. ltb n (10 ^ suc k)) 9 (ltb-true first 9 e))
  which false e =
      let l = ltb-false first 9 e in
      let m = first_most (λ k. ltb n (10 ^ suc k)) 9 in
      let z : first ≡ 9 = omega arith in
      rw z h

-- The digits of a literal as one token.
abbrev pub figures : ℕ → List ℕ
figures n = printed (width n) n

pub figures_digits : (n : ℕ) (g : Bool) → digits (token (figures n) g) ≡ true
unfolding digits
figures_digits n g = rw (is_true (all_of digit (figures n)) (printed_digits (width n) n), printed_length (width n) n, le-leb (width n) 10 (width_most n))

pub figures_value : (n : ℕ) → n < 10 ^ 10 → decimal 0 (figures n) ≡ n
figures_value n h = printed_value (width n) n (width_enough n h)

-- The tokens of a literal in front of others.
abbrev pub literal_tokens : ℤ → Bool → List Token → List Token
literal_tokens (pos n) g ts = token (figures n) g ∷ ts
literal_tokens (negsuc n) g ts = token (ascii "-") true ∷ token (figures (suc n)) g ∷ ts

below : (n : ℕ) → n ≤ 2147483647 → n < 10 ^ 10
below n h = omega arith

literal_digits : (n : ℕ) (g : Bool) (ts : List Token) → n < 10 ^ 10 → literal (token (figures n) g ∷ ts) ≡ took (pos n) ts
unfolding literal
literal_digits n g [] h = rw (figures_digits n g, figures_value n h)
literal_digits n g (u ∷ ts) h = rw (figures_digits n g, figures_value n h)

pub literal_read : (z : ℤ) (g : Bool) (ts : List Token) → T (in_range literals z) → literal (literal_tokens z g ts) ≡ took z ts
unfolding literal digits eq_list ascii all_of digit
literal_read (pos n) g ts h = literal_digits n g ts (below n (leb→le n 2147483647 h))
literal_read (negsuc n) g ts h =
    let l = leb→le n 2147483646 (both (leb n 2147483646) true h).0 in
    rw (figures_digits (suc n) g, figures_value (suc n) (below (suc n) (omega arith)))

-- What starts with a word is glued, and starts with no sign.
pub word_follows : (w rest : List ℕ) → T (all_of word_character w) → 0 < length w → follows (w ++ rest) ≡ true
unfolding all_of word_character letter digit
word_follows [] rest h l = absurd (omega arith)
word_follows (c ∷ w) rest h l = ap not (word_is_not c 32 (both (word_character c) (all_of word_character w) h).0 tt)

pub figures_word : (n : ℕ) → T (all_of word_character (figures n))
figures_word n = printed_word (width n) n

pub figures_some : (n : ℕ) → 0 < length (figures n)
figures_some n = rw (printed_length (width n) n) (width_least n)

-- A literal in front of anything that does not go on with a word.
pub tokens_literal : (z : ℤ) (rest : List ℕ) → Stops rest → tokens (plain z ++ rest) ≡ literal_tokens z (follows rest) (tokens rest)
unfolding plain ascii joins word_character letter digit
tokens_literal (pos n) rest e = tokens_word (figures n) rest (figures_word n) (figures_some n) e
tokens_literal (negsuc n) rest e =
    tokens_sign 45 (figures (suc n) ++ rest) refl refl
    ∙ ap₂ (λ (g : Bool) (ts : List Token). token (ascii "-") g ∷ ts)
    (word_follows (figures (suc n)) rest (figures_word (suc n)) (figures_some (suc n)))
    (tokens_word (figures (suc n)) rest (figures_word (suc n)) (figures_some (suc n)) e)

pub literal_fine : (z : ℤ) → T (all_of fine (plain z))
unfolding plain ascii all_of printable
literal_fine (pos n) = all_then word_character fine word_fine (figures n) (figures_word n)
literal_fine (negsuc n) = all_then word_character fine word_fine (figures (suc n)) (figures_word (suc n))

pub literal_length : (z : ℤ) → length (plain z) ≤ 11
unfolding plain ascii
literal_length (pos n) = omega (arith, printed_length (width n) n, width_most n)
literal_length (negsuc n) = omega (arith, printed_length (width (suc n)) (suc n), width_most (suc n))
