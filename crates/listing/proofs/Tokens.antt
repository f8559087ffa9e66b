-- How a line falls into tokens, from its front: a word, a sign, a space.
-- Assumes nothing.
use mathlib.Core.Path.{◌≡◌, refl, subst}
use mathlib.Core.Bool.{Bool, true, false, ◌&&◌, not}
use mathlib.Core.List.{List, [], ◌∷◌, ◌++◌}
use mathlib.Core.Logic.{◌⊎◌, inl, inr, ⊎_elim}
use Prim.Native.Nat.{ℕ, ◌≤◌, ◌<◌}
use native.Mathlib.Omega.{arith}
use borrow.Author.Tests.{ne_eqb, le-leb}
use lib.Dec.{T, T_not, eqb, leb, leb→le}
use lib.ListN.{length, get_or}
use Rattle.numbers.specs.Tests.{all_of}
use Rattle.numbers.proofs.Truth.{both, either, is_true, is_false}
use Rattle.numbers.proofs.Tests.{all_then}
use Rattle.program.specs.Names.{letter, digit, word_character}
use Rattle.text.specs.Tokens.{Token, tokens, joins, onto_first_token, printable, uncommented}
use Rattle.listing.proofs.Cut.{in_line}

abbrev pub token : List ℕ → Bool → Token
token w g = record { chars = w; glued = g }

-- Whether what follows is glued to a token.
abbrev pub follows : List ℕ → Bool
follows rest = not (eqb (get_or rest 0 32) 32)

-- What follows does not go on with a word.
abbrev pub Stops : List ℕ → Type 0
Stops rest = word_character (get_or rest 0 32) ≡ false

-- A character of a word is a digit or a capital letter.
pub record Among (c : ℕ) : Type 0 where
  pub low : 48 ≤ c
  pub high : c ≤ 90
  pub gap : (c ≤ 57) ⊎ (65 ≤ c)

pub among : (c : ℕ) → T (word_character c) → Among c
unfolding word_character letter digit
among c t =
    ⊎_elim
    (λ h. let p = both (leb 65 c) (leb c 90) h in
    let l = leb→le 65 c p.0 in
    let m = leb→le c 90 p.1 in
    record { low = omega arith; high = omega arith; gap = inr l })
    (λ h. let p = both (leb 48 c) (leb c 57) h in
    let l = leb→le 48 c p.0 in
    let m = leb→le c 57 p.1 in
    record { low = omega arith; high = omega arith; gap = inl m })
    (either (letter c) (digit c) t)

-- It is none of the characters that are none of a word.
pub word_is_not : (c k : ℕ) → T (word_character c) → T (not (word_character k)) → eqb c k ≡ false
word_is_not c k t e = ne_eqb c k (λ q. T_not (word_character k) e (subst (λ (d : ℕ). T (word_character d)) q t))

word_joins : (c d : ℕ) → T (word_character c) → T (word_character d) → joins c d ≡ true
unfolding joins
word_joins c d h g = rw (is_true (word_character c) h, is_true (word_character d) g)

word_ends : (c d : ℕ) → T (word_character c) → word_character d ≡ false → joins c d ≡ false
unfolding joins word_character letter digit
word_ends c d h e = rw (is_true (word_character c) h, e, word_is_not c 60 h tt, word_is_not c 62 h tt)

-- A word, or a run of digits.
pub tokens_word : (w rest : List ℕ) → T (all_of word_character w) → 0 < length w → Stops rest → tokens (w ++ rest) ≡ token w (follows rest) ∷ tokens rest
unfolding tokens onto_first_token all_of word_character letter digit
tokens_word [] rest h l e = absurd (omega arith)
tokens_word (c ∷ []) rest h l e =
    let p = both (word_character c) true h in
    rw (word_is_not c 32 p.0 tt, word_ends c (get_or rest 0 32) p.0 e)
tokens_word (c ∷ d ∷ w) rest h l e =
    let p = both (word_character c) (all_of word_character (d ∷ w)) h in
    let q = both (word_character d) (all_of word_character w) p.1 in
    rw (word_is_not c 32 p.0 tt, word_joins c d p.0 q.0, tokens_word (d ∷ w) rest p.1 (omega arith) e)

-- A sign of one character, and one of two.
pub tokens_sign : (c : ℕ) (rest : List ℕ) → eqb c 32 ≡ false → joins c (get_or rest 0 32) ≡ false → tokens (c ∷ rest) ≡ token (c ∷ []) (follows rest) ∷ tokens rest
unfolding tokens
tokens_sign c rest s j = rw (s, j)

pub tokens_pair : (c d : ℕ) (rest : List ℕ) → eqb c 32 ≡ false → joins c d ≡ true → eqb d 32 ≡ false → joins d (get_or rest 0 32) ≡ false
    → tokens (c ∷ d ∷ rest) ≡ token (c ∷ d ∷ []) (follows rest) ∷ tokens rest
unfolding tokens onto_first_token
tokens_pair c d rest s j t k = rw (s, j, t, k)

pub tokens_space : (rest : List ℕ) → tokens (32 ∷ rest) ≡ tokens rest
unfolding tokens
tokens_space rest = refl

-- The characters that a printed line is made of: printable, and none starts a comment.
abbrev pub fine : ℕ → Bool
fine c = printable c && not (eqb c 39)

pub word_fine : (c : ℕ) → T (word_character c) → T (fine c)
unfolding printable
word_fine c h =
    let a = among c h in
    rw (le-leb 32 c (omega arith), le-leb c 126 (omega arith), ne_eqb c 39 (λ e. omega arith)) tt

pub fine_printable : (l : List ℕ) → T (all_of fine l) → all_of printable l ≡ true
fine_printable l h = is_true (all_of printable l) (all_then fine printable (λ c t. (both (printable c) (not (eqb c 39)) t).0) l h)

pub fine_in_line : (l : List ℕ) → T (all_of fine l) → T (all_of in_line l)
unfolding printable
fine_in_line l h = all_then fine in_line one l h where
  one : (c : ℕ) → T (fine c) → T (in_line c)
  one c t =
      let b = (both (leb 32 c && leb c 126) (not (eqb c 39)) t).0 in
      let g = leb→le 32 c (both (leb 32 c) (leb c 126) b).0 in
      rw (ne_eqb c 10 (λ e. omega arith), ne_eqb c 13 (λ e. omega arith)) tt

pub fine_uncommented : (l : List ℕ) → T (all_of fine l) → uncommented l ≡ l
unfolding uncommented all_of
fine_uncommented [] h = refl
fine_uncommented (c ∷ l) h =
    let p = both (fine c) (all_of fine l) h in
    let q = both (printable c) (not (eqb c 39)) p.0 in
    rw (is_false (eqb c 39) q.1, fine_uncommented l p.1)
