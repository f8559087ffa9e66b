-- Document 01, Text 12 and Refusals 5: fault 5 is for a line that declares a reserved word of two characters, by LB or by VA, and for no other.
-- Assumes nothing.
use mathlib.Core.Path.{◌≡◌, refl, subst, sym, ap, ◌∙◌}
use mathlib.Core.Bool.{Bool, true, false, cond, ◌&&◌, not, or-false, false≢true}
use mathlib.Core.List.{List, [], ◌∷◌}
use mathlib.Core.Logic.{◌↔◌, ◌⊎◌, ⊎_elim}
use mathlib.Core.Option.{Option, none, some, some-injective}
use Prim.Native.Nat.{ℕ, ◌≤◌}
use native.Mathlib.Omega.{arith}
use lib.Dec.{T, T_not, eqb, eqb→eq}
use lib.ListN.{length, drop, get_or}
use Rattle.numbers.specs.Bytes.{ascii}
use Rattle.numbers.specs.Tests.{all_of, any_of, Each}
use Rattle.numbers.proofs.Truth.{both, is_true}
use Rattle.program.specs.Names.{Name, letter, word_character, two_characters, reserved}
use Rattle.text.specs.Lines.{lines}
use Rattle.text.specs.Tokens.{Token, tokens, uncommented, printable}
use Rattle.text.specs.Forms.{Line, Blank, Parts, Form, forms, statement, reading}
use Rattle.text.specs.Faults.{bad_form, declares, reserved_name}
use Rattle.refusals.specs.Lines.{line_at}
use Rattle.refusals.proofs.Rows.{has, row_3, row_5}
use Rattle.refusals.proofs.Slots.{suits, signed, Fits, first_suits, by_form_lem, spelled, opening, Unsaid, no_form}
use Rattle.refusals.proofs.Mnemonics.{behind_lb, behind_va, rows_lb, rows_va}
use Rattle.refusals.proofs.Declaring.{Declares, said, Declaring, fits_named, declares_label, declares_plain, declares_started}

-- What a form says declares nothing that is reserved.
abbrev free : Parts → Form → Bool
free p f = not (any_of reserved (declares (f.says p)))

-- A reserved name that a line says to declare is declared by its tokens.
module _ (t : Token) (ts : List Token) (x : Line) (e : statement (t ∷ ts) ≡ some x) (r : T (any_of reserved (declares x))) where
  abbrev Found : Type 0
  Found = (w : Name) × T (two_characters w) × T (reserved w) × Declares w (t ∷ ts)

  found : Declaring (t ∷ ts) → Found
  unfolding any_of
  found (w, h, d) =
      let s = said w h (t ∷ ts) d in
      let y : declares x ≡ w ∷ [] = ap declares (some-injective x s.0 (sym e ∙ s.1)) ∙ s.2 in
      (w, h, subst T (or-false (reserved w)) (subst (λ (ws : List Name). T (any_of reserved ws)) y r), d)

  acting : (fs : List Form) → ((p : Parts) → T (all_of (free p) fs)) → Each (λ (f : Form). Fits f.slots (t ∷ ts) → (p : Parts) → f.says p ≡ x → Found) fs
  unfolding all_of
  acting [] h = tt
  acting (f ∷ fs) h = (
    λ k p q. absurd (T_not (any_of reserved (declares (f.says p))) (both (free p f) (all_of (free p) fs) (h p)).0 (subst (λ (y : Line). T (any_of reserved (declares y))) (sym q) r)),
    acting fs (λ p. (both (free p f) (all_of (free p) fs) (h p)).1),
  )

  reserved_found : Found
  unfolding statement forms declares all_of any_of
  reserved_found =
      by_form_lem Found forms (t ∷ ts) x e
      (λ h p q. found (declares_label (fits_named h)), (λ h p q. found (declares_plain (fits_named h)), (λ h p q. found (declares_started (fits_named h)), acting (drop 3 forms) (λ p. tt))))

-- A line declares a reserved name of two characters; it has no byte that a line may not have, which would be fault 3.
abbrev pub DeclaresReserved : List ℕ → Type 0
DeclaresReserved l = (all_of printable l ≡ true) × ((w : Name) × (two_characters w ≡ true) × (reserved w ≡ true) × Declares w (tokens (uncommented l)))

abbrev Reserving : Option Line → Type 0
Reserving o = (x : Line) × (o ≡ some x) × T (any_of reserved (declares x))

reserved_said : (ts : List Token) → Reserving (statement ts) → (w : Name) × (two_characters w ≡ true) × (reserved w ≡ true) × Declares w ts
unfolding statement declares any_of
reserved_said [] (x, e, r) = absurd (subst (λ (y : Line). T (any_of reserved (declares y))) (sym (some-injective Blank x e)) r)
reserved_said (t ∷ ts) (x, e, r) =
    let f = reserved_found t ts x e r in
    (f.0, is_true (two_characters f.0) f.1, is_true (reserved f.0) f.2, f.3)

-- Text 12, Refusals 5: exactly that is fault 5.
pub reserved_exactly : (l : List ℕ) → (reserved_name l ≡ true) ↔ DeclaresReserved l
unfolding reserved_name reading any_of
reserved_exactly l = (there (all_of printable l) (statement (tokens (uncommented l))) refl refl, back) where
  back : DeclaresReserved l → reserved_name l ≡ true
  back (c, (w, h, r, d)) = let s = said w (subst T (sym h) tt) (tokens (uncommented l)) d in rw (reserved_name, c, s.1, s.2, r)

  there : (b : Bool) (o : Option Line) → all_of printable l ≡ b → statement (tokens (uncommented l)) ≡ o
      → elim (cond b o none) [ none ↦ false | some x ↦ any_of reserved (declares x) ] ≡ true → DeclaresReserved l
  there true none c d e = absurd (false≢true e)
  there true (some x) c d e = (c, reserved_said (tokens (uncommented l)) (x, d, subst T (sym e) tt))
  there false o c d e = absurd (false≢true e)

-- A line without a form has no fault 5.
bad_alone : (l : List ℕ) → bad_form l ≡ true → reserved_name l ≡ false
unfolding bad_form reserved_name
bad_alone l e = pick (reading l) e where
  pick : (o : Option Line) → elim o [ none ↦ true | some x ↦ false ] ≡ true → elim o [ none ↦ false | some x ↦ any_of reserved (declares x) ] ≡ false
  pick none e = refl
  pick (some x) e = absurd (false≢true e)

no_two : (w : Name) → length w ≡ 1 → T (two_characters w) → ⊥
unfolding two_characters
no_two w e h = let n = eqb→eq (length w) 2 (both (eqb (length w) 2) (letter (get_or w 0 0) && word_character (get_or w 1 0)) h).0 in omega arith

-- Text 12: LB or VA of a word of one character is fault 3 and not 5, also where the word is reserved, whatever follows.
pub one_character : (l : List ℕ) (w : Name) (more : List Name) → length w ≡ 1
    → (spelled (tokens (uncommented l)) ≡ ascii "LB" ∷ w ∷ more) ⊎ (spelled (tokens (uncommented l)) ≡ ascii "VA" ∷ w ∷ more)
    → (bad_form l ≡ true) × (reserved_name l ≡ false)
unfolding suits signed
one_character l w more e d = let bad = no_form l (⊎_elim (opening Unsaid (ascii "LB") w more label_bad ts) (opening Unsaid (ascii "VA") w more variable_bad ts) d) in (bad, bad_alone l bad) where
  ts : List Token
  ts = tokens (uncommented l)

  label_bad : (t u : Token) (us : List Token) → t.chars ≡ ascii "LB" → u.chars ≡ w → spelled us ≡ more → Unsaid (t ∷ u ∷ us)
  label_bad t u us a b c x said =
      by_form_lem ⊥ behind_lb (u ∷ us) x (sym (rows_lb t (u ∷ us) a) ∙ said) (λ h p q. no_two u.chars (ap length b ∙ e) (first_suits tt h), tt)

  variable_bad : (t u : Token) (us : List Token) → t.chars ≡ ascii "VA" → u.chars ≡ w → spelled us ≡ more → Unsaid (t ∷ u ∷ us)
  variable_bad t u us a b c x said =
      let no = no_two u.chars (ap length b ∙ e) in
      by_form_lem ⊥ behind_va (u ∷ us) x (sym (rows_va t (u ∷ us) a) ∙ said) (λ h p q. no (first_suits tt h), (λ h p q. no (first_suits tt h), tt))

-- The same of line k of a text.
module _ (text : List ℕ) (k : ℕ) (low : 1 ≤ k) (high : k ≤ length (lines text)) where
  pub reserved_exactly_at : (has text 5 k ≡ true) ↔ DeclaresReserved (line_at text k)
  reserved_exactly_at = rw (row_5 text k low high) (reserved_exactly (line_at text k))

  pub one_character_at : (w : Name) (more : List Name) → length w ≡ 1
      → (spelled (tokens (uncommented (line_at text k))) ≡ ascii "LB" ∷ w ∷ more) ⊎ (spelled (tokens (uncommented (line_at text k))) ≡ ascii "VA" ∷ w ∷ more)
      → (has text 3 k ≡ true) × (has text 5 k ≡ false)
  one_character_at w more e d =
      let c = one_character (line_at text k) w more e d in
      (row_3 text k low high ∙ c.0, row_5 text k low high ∙ c.1)
