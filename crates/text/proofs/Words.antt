-- The characters of a token and the key that the code keeps of them: what the paper asks of the one, the code asks of the other.
-- Assumes nothing.
use mathlib.Core.Path.{◌≡◌, refl, sym, ap, subst, ◌∙◌}
use mathlib.Core.Bool.{Bool, true, false, cond, not}
use mathlib.Core.List.{List, [], ◌∷◌}
use mathlib.Core.Logic.{◌⊎◌, inl, inr, ⊎_elim}
use Prim.Native.Nat.{ℕ, ◌≤◌, ◌<◌}
use native.Mathlib.Omega.{arith}
use borrow.Author.Tests.{leb-true, leb-false, ne_eqb}
use lib.Dec.{T, eqb, leb}
use lib.ListN.{length, get_or}
use Rattle.numbers.specs.Tests.{all_of, eq_list, numbered}
use Rattle.numbers.proofs.Truth.{is_true, is_no, not_same, both, either}
use Rattle.numbers.proofs.Tests.{eq_list_eq}
use Rattle.program.specs.Names.{Name, paper_variable, user_name}
use Rattle.program.specs.Code.{key, name_of}
use Rattle.program.proofs.Keys.{Character, Characters, IsWord, word_of, name_key_lem, name_one, name_two, one_or_two, key_positive, eq_key_name, user_word, paper_word_lem, numbered_word, is_word, single, double}
use Rattle.text.specs.Tokens as Paper
use Rattle.text.specs.Tokens.{printable, uncommented, joins, onto_first_token, tokens}
use Rattle.text.specs.Forms.{variable_name}
use Rattle.text.specs.Code.{short_key, spelt}

-- A token has characters, each of which can be one of a word.
abbrev pub Good : Paper.Token → Type 0
Good t = Characters t.chars × (0 < length t.chars)

abbrev pub Goods : List Paper.Token → Type 0
Goods [] = Unit
Goods (t ∷ ts) = Good t × Goods ts

printable_character : (c : ℕ) → T (printable c) → Character c
unfolding printable
printable_character c t =
    let p = both (leb 32 c) (leb c 126) t in
    (omega (arith, leb-true 32 c (is_true (leb 32 c) p.0)), omega (arith, leb-true c 126 (is_true (leb c 126) p.1)))

printable_characters : (l : List ℕ) → T (all_of printable l) → Characters l
unfolding all_of
printable_characters [] t = tt
printable_characters (c ∷ l) t = let p = both (printable c) (all_of printable l) t in (printable_character c p.0, printable_characters l p.1)

code_characters : (l : List ℕ) → Characters l → Characters (uncommented l)
unfolding uncommented
code_characters [] h = tt
code_characters (c ∷ l) h = pick (eqb c 39) (code_characters l h.1)
  where
    pick : (t : Bool) → Characters (uncommented l) → Characters (cond t [] (c ∷ uncommented l))
    pick true g = tt
    pick false g = (h.0, g)

longer_good : (c : ℕ) (ts : List Paper.Token) → Character c → Goods ts → Goods (onto_first_token c ts)
unfolding onto_first_token
longer_good c [] h g = tt
longer_good c (t ∷ ts) h g = (((h, g.0.0), omega arith), g.1)

goods_cond : (t : Bool) (xs ys : List Paper.Token) → Goods xs → Goods ys → Goods (cond t xs ys)
goods_cond true xs ys p q = p
goods_cond false xs ys p q = q

tokens_good : (l : List ℕ) → Characters l → Goods (tokens l)
unfolding tokens
tokens_good [] h = tt
tokens_good (c ∷ l) h =
    let g = tokens_good l h.1 in
    goods_cond (eqb c 32) _ _ g (goods_cond (joins c (get_or l 0 32)) _ _ (longer_good c (tokens l) h.0 g) (((h.0, tt), omega arith), g))

-- The tokens of a line are good.
pub line_good : (l : List ℕ) → all_of printable l ≡ true → Goods (tokens (uncommented l))
line_good l e = tokens_good (uncommented l) (code_characters l (printable_characters l (subst T (sym e) tt)))

-- A token of one or two characters is a word, which its key gives back; of a longer one the key is 0.
pub word_or_long : (w : Name) → Characters w → 0 < length w → (IsWord w × (short_key w ≡ key w)) ⊎ ((2 < length w) × (short_key w ≡ 0))
unfolding short_key
word_or_long w h l = pick (leb (length w) 2) refl
  where
    pick : (t : Bool) → leb (length w) 2 ≡ t → (IsWord w × (cond t (key w) 0 ≡ key w)) ⊎ ((2 < length w) × (cond t (key w) 0 ≡ 0))
    pick true e = inl (word_of w h l (leb-true (length w) 2 e), refl)
    pick false e = inr (leb-false (length w) 2 e, refl)

pub word_short : {w : Name} → IsWord w → 2 < length w → ⊥
word_short (single p) h = omega arith
word_short (double p q) h = omega arith

zero_name : name_of 0 ≡ 0 ∷ []
unfolding name_of
zero_name = refl

zero_no_word : IsWord (0 ∷ []) → ⊥
zero_no_word (single p) = let h = p.0 in omega arith

-- A test that only words pass.
module _ (P : Name → Bool) (passed : (w : Name) → T (P w) → IsWord w) where
  pub asked_none : P (name_of 0) ≡ false
  asked_none = is_no (P (name_of 0)) (λ t. zero_no_word (subst IsWord zero_name (passed (name_of 0) t)))

  pub asked : (w : Name) → Characters w → 0 < length w → P (name_of (short_key w)) ≡ P w
  asked w h l =
      ⊎_elim
      (λ s. ap P (ap name_of s.1 ∙ name_key_lem w s.0))
      (λ s. ap (λ (k : ℕ). P (name_of k)) s.1 ∙ asked_none ∙ sym (is_no (P w) (λ t. word_short (passed w t) s.0)))
      (word_or_long w h l)

  pub named : (w : Name) → Characters w → 0 < length w → P w ≡ true → name_of (short_key w) ≡ w
  named w h l e =
      ⊎_elim (λ s. ap name_of s.1 ∙ name_key_lem w s.0) (λ s. absurd (word_short (passed w (subst T (sym e) tt)) s.0)) (word_or_long w h l)

  pub kept : (w : Name) → Characters w → 0 < length w → P w ≡ true → spelt (short_key w) ≡ w
  unfolding spelt
  kept w h l e =
      ⊎_elim
      (λ s. let z : eqb (key w) 0 ≡ false = ne_eqb (key w) 0 (λ q. let k = key_positive s.0 in omega arith) in rw (s.1, z) (name_key_lem w s.0))
      (λ s. absurd (word_short (passed w (subst T (sym e) tt)) s.0))
      (word_or_long w h l)

-- A place in a table of words, as the test that there is one.
module _ (names : List Name) (all_words : T (all_of is_word names)) where
  pub listed_word : (w : Name) → T (not (eqb (numbered names w) 0)) → IsWord w
  listed_word w t = numbered_word names w all_words (not_same (numbered names w) 0 t)

-- The very characters of a key.
name_short : (n : ℕ) → length (name_of n) ≤ 2
name_short n = ⊎_elim (λ h. rw (name_one n h) (omega arith)) (λ h. rw (name_two n h) (omega arith)) (one_or_two n)

pub spelled_so : (w : Name) (n : ℕ) → Characters w → 0 < length w → 0 < n → eq_list w (name_of n) ≡ eqb (short_key w) n
spelled_so w n h l z =
    ⊎_elim
    (λ s. rw s.1 (eq_key_name w n s.0))
    (λ s.
    is_no (eq_list w (name_of n)) (λ t. let q : length w ≡ length (name_of n) = ap length (eq_list_eq w (name_of n) t) in omega (arith, name_short n, s.0))
    ∙ rw s.1 (sym (ne_eqb 0 n (λ e. omega arith))))
    (word_or_long w h l)

-- A variable of the paper's or the user's is a word.
pub variable_word : (w : Name) → T (variable_name w) → IsWord w
unfolding variable_name
variable_word w t = ⊎_elim (λ p. paper_word_lem w (not_same (paper_variable w) 0 p)) (user_word w) (either (not (eqb (paper_variable w) 0)) (user_name w) t)
