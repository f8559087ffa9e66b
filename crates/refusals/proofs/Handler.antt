-- Document 01, Text 18: behind OE stands a label or the single digit 0, and other digits are fault 3.
-- Assumes nothing.
use mathlib.Core.Path.{◌≡◌, refl, subst, sym, ap, ◌∙◌}
use mathlib.Core.Bool.{true, false, ◌&&◌, not}
use mathlib.Core.List.{List, ◌∷◌}
use Prim.Native.Nat.{ℕ, ◌≤◌}
use lib.Dec.{T, eqb}
use lib.ListN.{length, get_or}
use Rattle.numbers.specs.Bytes.{ascii}
use Rattle.numbers.specs.Tests.{all_of, eq_list}
use Rattle.numbers.proofs.Truth.{both, same_test}
use Rattle.program.specs.Names.{Name, letter, digit, word_character, paper_word, two_characters, user_name}
use Rattle.text.specs.Lines.{lines}
use Rattle.text.specs.Tokens.{Token, tokens, uncommented}
use Rattle.text.specs.Faults.{bad_form}
use Rattle.refusals.specs.Lines.{line_at}
use Rattle.refusals.proofs.Rows.{has, row_3}
use Rattle.refusals.proofs.Mnemonics.{behind_oe, rows_oe}
use Rattle.refusals.proofs.Words.{no_letter}
use Rattle.refusals.proofs.Slots.{suits, signed, first_suits, by_form_lem, spelled, opening, Unsaid, no_form}

-- Text 18: behind OE anything but a name of the user's and the single 0 is fault 3, whatever follows.
pub only_zero : (l : List ℕ) (w : Name) (more : List Name) → spelled (tokens (uncommented l)) ≡ ascii "OE" ∷ w ∷ more
    → user_name w ≡ false → eq_list w (ascii "0") ≡ false → bad_form l ≡ true
unfolding suits signed
only_zero l w more e a b = no_form l (opening Unsaid (ascii "OE") w more unsaid (tokens (uncommented l)) e) where
  unsaid : (t u : Token) (us : List Token) → t.chars ≡ ascii "OE" → u.chars ≡ w → spelled us ≡ more → Unsaid (t ∷ u ∷ us)
  unsaid t u us c d n x said =
      by_form_lem ⊥ behind_oe (u ∷ us) x (sym (rows_oe t (u ∷ us) c) ∙ said)
      (λ h p q. subst T (ap user_name d ∙ a) (first_suits tt h), (λ h p q. subst T (ap (λ (v : Name). eq_list v (ascii "0")) d ∙ b) (first_suits tt h), tt))

digits_no_user : (w : Name) → all_of digit w ≡ true → user_name w ≡ false
unfolding user_name two_characters
digits_no_user w d = same_test (user_name w) false user (λ f. absurd f) where
  user : T (user_name w) → ⊥
  user u =
      let two = (both (two_characters w) (not (paper_word w)) u).0 in
      let start = (both (eqb (length w) 2) (letter (get_or w 0 0) && word_character (get_or w 1 0)) two).1 in
      no_letter w (both (letter (get_or w 0 0)) (word_character (get_or w 1 0)) start).0 (subst T (sym d) tt)

-- Text 18: so are digits other than the single 0.
pub only_zero_digits : (l : List ℕ) (w : Name) (more : List Name) → spelled (tokens (uncommented l)) ≡ ascii "OE" ∷ w ∷ more
    → all_of digit w ≡ true → eq_list w (ascii "0") ≡ false → bad_form l ≡ true
only_zero_digits l w more e d b = only_zero l w more e (digits_no_user w d) b

-- Text 18: and a minus, as that of `OE -0`.
pub only_zero_minus : (l : List ℕ) (more : List Name) → spelled (tokens (uncommented l)) ≡ ascii "OE" ∷ ascii "-" ∷ more → bad_form l ≡ true
unfolding ascii user_name two_characters eq_list
only_zero_minus l more e = only_zero l (ascii "-") more e refl refl

-- The same of line k of a text.
module _ (text : List ℕ) (k : ℕ) (low : 1 ≤ k) (high : k ≤ length (lines text)) where
  pub only_zero_digits_at : (w : Name) (more : List Name) → spelled (tokens (uncommented (line_at text k))) ≡ ascii "OE" ∷ w ∷ more
      → all_of digit w ≡ true → eq_list w (ascii "0") ≡ false → has text 3 k ≡ true
  only_zero_digits_at w more e d b = row_3 text k low high ∙ only_zero_digits (line_at text k) w more e d b

  pub only_zero_minus_at : (more : List Name) → spelled (tokens (uncommented (line_at text k))) ≡ ascii "OE" ∷ ascii "-" ∷ more → has text 3 k ≡ true
  only_zero_minus_at more e = row_3 text k low high ∙ only_zero_minus (line_at text k) more e
