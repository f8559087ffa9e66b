-- Document 01, Text 17: no tokens fill two of the 21 forms, so that their order says nothing.
-- Assumes nothing.
use mathlib.Core.Path.{◌≡◌, refl, subst, sym}
use mathlib.Core.Bool.{Bool, true, false, ◌&&◌, ◌||◌, not, beq, or-false}
use mathlib.Core.List.{List, [], ◌∷◌}
use mathlib.Core.Logic.{⊎_elim}
use mathlib.Core.Option.{Option, none, some}
use Prim.Native.Nat.{ℕ, zero, suc, ◌≤◌, ◌<◌}
use native.Mathlib.Nat.{eq-or-lt_of_le}
use native.Mathlib.Omega.{arith}
use lib.Dec.{T, T_not, eqb, eqb→eq}
use lib.ListN.{length, get_or}
use Rattle.numbers.specs.Bytes.{ascii}
use Rattle.numbers.specs.Tests.{all_of, any_of, all_below, eq_list, numbered}
use Rattle.numbers.proofs.Truth.{both, either, left_of_lem, right_of}
use Rattle.numbers.proofs.Tests.{eq_list_eq}
use Rattle.program.specs.Names.{Name, letter, digit, word_character, mnemonics, variable_names, paper_variable, paper_word, two_characters, user_name}
use Rattle.text.specs.Tokens.{Token}
use Rattle.text.specs.Forms.{Line, Blank, variable_name, Slot, Is, New, Target, Written, Left, Right, Start, Operating, Comparing, Parts, no_parts, fill, Form, form, forms, by_form}
use Rattle.refusals.proofs.Slots.{suits, signed, asked, Took, one, two, Fits, done, step, fill_fits}

-- Form i of the 21, from 0; some tokens fill it, and its places take these parts.
abbrev pub form_at : ℕ → Form
form_at i = get_or forms i (form [] (λ p. Blank))

abbrev pub Fills : ℕ → List Token → Parts → Type 0
Fills i ts p = fill (form_at i).slots ts no_parts ≡ some p

-- A place that asks for characters which another does not take.
abbrev excludes : Slot → Slot → Bool
excludes s r = any_of (λ v. not (signed r || suits r v)) (asked s)

-- No tokens fit both: at some place one asks for what the other does not take, or one ends before the other.
apart : List Slot → List Slot → Bool
apart [] [] = false
apart [] (r ∷ rs) = true
apart (s ∷ ss) [] = true
apart (s ∷ ss) (r ∷ rs) = excludes s r || (beq (signed s) (signed r) && apart ss rs)

took_some : {s : Slot} {ts us : List Token} → Took s ts us → 0 < length ts
took_some (one h) = omega arith
took_some (two m h i d) = omega arith

-- A minus alone is no operand.
no_minus : (s : Slot) → T (signed s) → T (suits s (ascii "-")) → ⊥
unfolding signed suits ascii all_of digit variable_name paper_variable variable_names numbered eq_list user_name two_characters
no_minus (Is v) g h = g
no_minus New g h = g
no_minus Target g h = g
no_minus Written g h = g
no_minus Left g h = h
no_minus Right g h = h
no_minus Start g h = h
no_minus Operating g h = g
no_minus Comparing g h = g

-- Two places that take as much leave the same.
same_rest : {s r : Slot} {ts us vs : List Token} → signed s ≡ signed r → Took s ts us → Took r ts vs → us ≡ vs
same_rest e (one h) (one g) = refl
same_rest e (two m h i d) (two n g j f) = refl
same_rest e (one {s} h) (two n g i f) = absurd (no_minus s (subst T (sym e) n) (subst (λ (w : Name). T (suits s w)) (eq_list_eq _ (ascii "-") g) h))
same_rest e (two m h i d) (one {s} g) = absurd (no_minus s (subst T e m) (subst (λ (w : Name). T (suits s w)) (eq_list_eq _ (ascii "-") h) g))

-- A token that is taken alone, or a minus.
suits_or_signed : {r : Slot} {t : Token} {ts us : List Token} → Took r (t ∷ ts) us → T (signed r || suits r t.chars)
suits_or_signed {r} {t} (one h) = right_of (signed r) (suits r t.chars) h
suits_or_signed {r} {t} (two m h i d) = left_of_lem (signed r) (suits r t.chars) m

excluded : (s r : Slot) {ts us vs : List Token} → T (excludes s r) → Took s ts us → Took r ts vs → ⊥
unfolding asked any_of suits signed
excluded (Is v) r x (one {t = t} h) k =
    let other = T_not (signed r || suits r v) (subst T (or-false (not (signed r || suits r v))) x) in
    other (subst (λ (w : Name). T (signed r || suits r w)) (eq_list_eq t.chars v h) (suits_or_signed k))
excluded (Is v) r x (two m h i d) k = m
excluded New r x h k = x
excluded Target r x h k = x
excluded Written r x h k = x
excluded Left r x h k = x
excluded Right r x h k = x
excluded Start r x h k = x
excluded Operating r x h k = x
excluded Comparing r x h k = x

same_bool : (x y : Bool) → T (beq x y) → x ≡ y
same_bool true true h = refl
same_bool true false h = absurd h
same_bool false true h = absurd h
same_bool false false h = refl

never_both : (ss rs : List Slot) (ts : List Token) → T (apart ss rs) → Fits ss ts → Fits rs ts → ⊥
unfolding apart
never_both [] [] ts a f g = a
never_both [] (r ∷ rs) ts a done (step k g) = let h = took_some k in omega arith
never_both (s ∷ ss) [] ts a (step k f) done = let h = took_some k in omega arith
never_both (s ∷ ss) (r ∷ rs) ts a (step {us = us} h f) (step {us = vs} k g) =
    ⊎_elim (λ x. excluded s r x h k)
    (λ b. let c = both (beq (signed s) (signed r)) (apart ss rs) b in
    never_both ss rs vs c.1 (subst (Fits ss) (same_rest (same_bool (signed s) (signed r) c.0) h k) f) g)
    (either (excludes s r) (beq (signed s) (signed r) && apart ss rs) a)

-- The test of the table: any two of its rows are apart.
abbrev distinct : ℕ → ℕ → Bool
distinct i j = eqb i j || (apart (form_at i).slots (form_at j).slots || apart (form_at j).slots (form_at i).slots)

table_distinct : T (all_below 21 (λ i. all_below 21 (distinct i)))
unfolding all_below apart forms ascii asked signed suits any_of eq_list variable_name paper_variable variable_names numbered user_name two_characters paper_word mnemonics letter word_character
table_distinct = tt

below_holds : (n : ℕ) (P : ℕ → Bool) (i : ℕ) → T (all_below n P) → i < n → T (P i)
unfolding all_below
below_holds zero P i h l = absurd (omega arith)
below_holds (suc n) P i h l =
    let c = both (all_below n P) (P n) h in
    let m : i ≤ n = omega arith in
    ⊎_elim (λ (e : i ≡ n). rw e c.1) (λ k. below_holds n P i c.0 k) (eq-or-lt_of_le m)

-- Text 17: no tokens fill two of the forms.
pub only_form : (i j : ℕ) (ts : List Token) (p q : Parts) → i < 21 → j < 21 → Fills i ts p → Fills j ts q → i ≡ j
only_form i j ts p q a b e f =
    let ss = (form_at i).slots in
    let rs = (form_at j).slots in
    let g = fill_fits ss ts no_parts p e in
    let h = fill_fits rs ts no_parts q f in
    ⊎_elim (eqb→eq i j)
    (λ d. absurd (⊎_elim (λ x. never_both ss rs ts x g h) (λ x. never_both rs ss ts x h g) (either (apart ss rs) (apart rs ss) d)))
    (either (eqb i j) (apart ss rs || apart rs ss) (below_holds 21 (distinct i) j (below_holds 21 (λ k. all_below 21 (distinct k)) i table_distinct a) b))

-- What tokens say by the first form that they fill.
first_says : (fs : List Form) (d : Form) (ts : List Token) (i : ℕ) (p : Parts) → i < length fs → fill (get_or fs i d).slots ts no_parts ≡ some p
    → ((j : ℕ) (q : Parts) → j < i → fill (get_or fs j d).slots ts no_parts ≡ some q → ⊥) → by_form fs ts ≡ some ((get_or fs i d).says p)
unfolding by_form
first_says [] d ts i p l e h = absurd (omega arith)
first_says (f ∷ fs) d ts zero p l e h = rw (by_form, e)
first_says (f ∷ fs) d ts (suc i) p l e h = pick (fill f.slots ts no_parts) (λ q g. h 0 q (omega arith) g) (first_says fs d ts i p (omega arith) e (λ j q k g. h (suc j) q (omega arith) g)) where
  pick : (o : Option Parts) → ((q : Parts) → o ≡ some q → ⊥) → by_form fs ts ≡ some ((get_or fs i d).says p)
      → ◌≡◌ {A = Option Line} (elim o [ none ↦ by_form fs ts | some q ↦ some (f.says q) ]) (some ((get_or fs i d).says p))
  pick none k e = e
  pick (some q) k e = absurd (k q refl)

-- Text 17: so any form that they fill says what they say.
pub form_says : (i : ℕ) (ts : List Token) (p : Parts) → i < 21 → Fills i ts p → by_form forms ts ≡ some ((form_at i).says p)
unfolding forms
form_says i ts p a e = first_says forms (form [] (λ q. Blank)) ts i p a e (λ j q k f. let z = only_form j i ts q p (omega arith) a f e in omega arith)
