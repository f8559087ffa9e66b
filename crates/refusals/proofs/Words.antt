-- Document 01, Text 10 and Text 15: a word or a run of digits that is too long is fault 3, wherever it stands before the comment.
-- Assumes nothing.
use mathlib.Core.Path.{◌≡◌, subst, sym, ◌∙◌}
use mathlib.Core.Bool.{Bool, true, ◌&&◌, ◌||◌, not}
use mathlib.Core.List.{List, [], ◌∷◌}
use mathlib.Core.Logic.{⊎_elim}
use mathlib.Core.Option.{some}
use Prim.Native.Nat.{ℕ, ◌≤◌}
use native.Mathlib.Omega.{arith}
use lib.Dec.{T, T_not, not_T, leb, ltb, leb→le, le→leb}
use lib.ListN.{length, get_or}
use Rattle.numbers.specs.Bytes.{ascii}
use Rattle.numbers.specs.Tests.{all_of, any_of, Each}
use Rattle.numbers.proofs.Truth.{both, both_of, either, left_of_lem, right_of}
use Rattle.numbers.proofs.Tests.{eq_list_eq}
use Rattle.program.specs.Names.{Name, letter, digit}
use Rattle.program.proofs.Keys.{IsWord, two_word, user_word, single, double}
use Rattle.text.specs.Lines.{lines}
use Rattle.text.specs.Tokens.{Token, tokens, uncommented}
use Rattle.text.specs.Forms.{Line, digits, variable_name, Slot, Is, New, Target, Written, Left, Right, Start, Operating, Comparing, Parts, Form, forms, statement}
use Rattle.text.specs.Faults.{bad_form}
use Rattle.text.proofs.Words.{variable_word}
use Rattle.text.proofs.Signs.{operator_word, comparison_word}
use Rattle.refusals.specs.Lines.{line_at}
use Rattle.refusals.proofs.Rows.{has, row_3}
use Rattle.refusals.proofs.Slots.{figures, suits, asked, Took, one, two, Fits, done, step, by_form_lem, no_form}

-- Text 10: a word of three or more characters.
abbrev pub long_word : Token → Bool
long_word t = letter (get_or t.chars 0 0) && leb 3 (length t.chars)

-- Text 15: a run of more than ten digits.
abbrev pub long_run : Token → Bool
long_run t = all_of digit t.chars && ltb 10 (length t.chars)

-- A token of three or more characters that is not 1 to 10 digits.
abbrev pub long_token : Token → Bool
long_token t = leb 3 (length t.chars) && not (digits t)

-- What a place of a form may take: at most two characters, or 1 to 10 digits. The very words of the forms are so too.
unfoldable brief : Name → Bool
brief w = leb (length w) 2 || figures w

abbrev brief_words : Slot → Bool
brief_words s = all_of brief (asked s)

word_brief : {w : Name} → IsWord w → T (brief w)
unfolding brief
word_brief (single p) = tt
word_brief (double p q) = tt

figures_brief : (w : Name) → T (figures w) → T (brief w)
unfolding brief
figures_brief w h = right_of (leb (length w) 2) (figures w) h

operand_brief : (w : Name) → T (figures w || variable_name w) → T (brief w)
operand_brief w h = ⊎_elim (figures_brief w) (λ v. word_brief (variable_word w v)) (either (figures w) (variable_name w) h)

suits_brief : (s : Slot) (w : Name) → T (brief_words s) → T (suits s w) → T (brief w)
unfolding suits asked all_of
suits_brief (Is v) w b h = subst (λ (u : Name). T (brief u)) (sym (eq_list_eq w v h)) (both (brief v) true b).0
suits_brief New w b h = word_brief (two_word w h)
suits_brief Target w b h = word_brief (user_word w h)
suits_brief Written w b h = word_brief (variable_word w h)
suits_brief Left w b h = operand_brief w h
suits_brief Right w b h = operand_brief w h
suits_brief Start w b h = figures_brief w h
suits_brief Operating w b h = word_brief (operator_word w h)
suits_brief Comparing w b h = word_brief (comparison_word w h)

abbrev brief_tokens : List Token → Bool
brief_tokens ts = all_of (λ t. brief t.chars) ts

took_brief : {s : Slot} {ts us : List Token} → T (brief_words s) → Took s ts us → T (brief_tokens us) → T (brief_tokens ts)
unfolding all_of brief ascii
took_brief b (one {s} {t} {ts} h) g = both_of (brief t.chars) (brief_tokens ts) (suits_brief s t.chars b h) g
took_brief b (two {s} {t} {u} {ts} m h i d) g =
    let minus : T (brief t.chars) = subst (λ (w : Name). T (brief w)) (sym (eq_list_eq t.chars (ascii "-") h)) tt in
    both_of (brief t.chars) (brief u.chars && brief_tokens ts) minus (both_of (brief u.chars) (brief_tokens ts) (figures_brief u.chars d) g)

fits_brief : {ss : List Slot} {ts : List Token} → T (all_of brief_words ss) → Fits ss ts → T (brief_tokens ts)
unfolding all_of
fits_brief b done = tt
fits_brief b (step {s} {ss} t f) = let p = both (brief_words s) (all_of brief_words ss) b in took_brief p.0 t (fits_brief p.1 f)

abbrev brief_form : Form → Bool
brief_form f = all_of brief_words f.slots

each_brief : (fs : List Form) (ts : List Token) (x : Line) → T (all_of brief_form fs) → Each (λ (f : Form). Fits f.slots ts → (p : Parts) → f.says p ≡ x → T (brief_tokens ts)) fs
unfolding all_of
each_brief [] ts x b = tt
each_brief (f ∷ fs) ts x b = let c = both (brief_form f) (all_of brief_form fs) b in (λ h p e. fits_brief c.0 h, each_brief fs ts x c.1)

-- In a line that says something each token is so.
said_brief : (ts : List Token) (x : Line) → statement ts ≡ some x → T (brief_tokens ts)
unfolding statement forms all_of asked brief ascii
said_brief [] x e = tt
said_brief (t ∷ ts) x e = by_form_lem (T (brief_tokens (t ∷ ts))) forms (t ∷ ts) x e (each_brief forms (t ∷ ts) x tt)

clash : {A : Type 0} (P Q : A → Bool) → ((a : A) → T (P a) → T (Q a) → ⊥) → (xs : List A) → T (any_of P xs) → T (all_of Q xs) → ⊥
unfolding any_of all_of
clash P Q f [] h g = h
clash P Q f (x ∷ xs) h g = let q = both (Q x) (all_of Q xs) g in ⊎_elim (λ p. f x p q.0) (λ r. clash P Q f xs r q.1) (either (P x) (any_of P xs) h)

any_then : {A : Type 0} (P Q : A → Bool) → ((a : A) → T (P a) → T (Q a)) → (xs : List A) → T (any_of P xs) → T (any_of Q xs)
unfolding any_of
any_then P Q f [] h = h
any_then P Q f (x ∷ xs) h = ⊎_elim (λ p. left_of_lem (Q x) (any_of Q xs) (f x p)) (λ r. right_of (Q x) (any_of Q xs) (any_then P Q f xs r)) (either (P x) (any_of P xs) h)

no_long : (l : List ℕ) → T (any_of long_token (tokens (uncommented l))) → bad_form l ≡ true
unfolding brief digits
no_long l h = no_form l (λ x said. clash long_token (λ t. brief t.chars) clashes (tokens (uncommented l)) h (said_brief (tokens (uncommented l)) x said)) where
  clashes : (t : Token) → T (long_token t) → T (brief t.chars) → ⊥
  clashes t h b =
      let n = length t.chars in
      let p = both (leb 3 n) (not (digits t)) h in
      ⊎_elim (λ short. omega (arith, leb→le 3 n p.0, leb→le n 2 short)) (T_not (digits t) p.1) (either (leb n 2) (digits t) b)

-- Text 10, Text 15: such a token before the comment is fault 3.
pub long_token_lem : (l : List ℕ) → any_of long_token (tokens (uncommented l)) ≡ true → bad_form l ≡ true
long_token_lem l e = no_long l (subst T (sym e) tt)

-- No run of digits starts with a letter.
pub no_letter : (w : Name) → T (letter (get_or w 0 0)) → T (all_of digit w) → ⊥
unfolding all_of letter digit
no_letter [] h d = h
no_letter (c ∷ w) h d =
    omega (arith, leb→le 65 c (both (leb 65 c) (leb c 90) h).0, leb→le c 57 (both (leb 48 c) (leb c 57) (both (digit c) (all_of digit w) d).0).1)

-- Text 10: a word of three or more characters before the comment is fault 3.
pub long_word_lem : (l : List ℕ) → any_of long_word (tokens (uncommented l)) ≡ true → bad_form l ≡ true
unfolding digits
long_word_lem l e = no_long l (any_then long_word long_token long (tokens (uncommented l)) (subst T (sym e) tt)) where
  long : (t : Token) → T (long_word t) → T (long_token t)
  long t h =
      let w = t.chars in
      let p = both (letter (get_or w 0 0)) (leb 3 (length w)) h in
      both_of (leb 3 (length w)) (not (digits t)) p.1 (not_T (digits t) (λ d. no_letter w p.0 (both (all_of digit w) (leb (length w) 10) d).0))

-- Text 15: a run of more than ten digits before the comment is fault 3.
pub long_run_lem : (l : List ℕ) → any_of long_run (tokens (uncommented l)) ≡ true → bad_form l ≡ true
unfolding digits
long_run_lem l e = no_long l (any_then long_run long_token long (tokens (uncommented l)) (subst T (sym e) tt)) where
  long : (t : Token) → T (long_run t) → T (long_token t)
  long t h =
      let w = t.chars in
      let n = leb→le 11 (length w) (both (all_of digit w) (ltb 10 (length w)) h).1 in
      both_of (leb 3 (length w)) (not (digits t)) (le→leb 3 (length w) (omega arith))
      (not_T (digits t) (λ d. omega (arith, leb→le (length w) 10 (both (all_of digit w) (leb (length w) 10) d).1)))

-- The same of line k of a text.
module _ (text : List ℕ) (k : ℕ) (low : 1 ≤ k) (high : k ≤ length (lines text)) where
  pub long_word_at : any_of long_word (tokens (uncommented (line_at text k))) ≡ true → has text 3 k ≡ true
  long_word_at e = row_3 text k low high ∙ long_word_lem (line_at text k) e

  pub long_run_at : any_of long_run (tokens (uncommented (line_at text k))) ≡ true → has text 3 k ≡ true
  long_run_at e = row_3 text k low high ∙ long_run_lem (line_at text k) e
