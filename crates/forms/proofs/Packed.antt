-- The tokens that the code holds of a line: all of them where there are at most nine; and more than eight fill no form.
-- Assumes nothing.
use mathlib.Core.Path.{◌≡◌, refl, sym, ap, ◌∙◌}
use mathlib.Core.Bool.{Bool, true, false, cond, ◌&&◌}
use mathlib.Core.List.{List, [], ◌∷◌, ◌++◌, map, map-append, append_assoc, append-nil}
use mathlib.Core.Option.{Option, none, some}
use Prim.Native.Nat.{ℕ, zero, suc, ◌+◌, ◌-◌, ◌≤◌, ◌<◌, min}
use native.Mathlib.Numerals.{add-one}
use native.Mathlib.Omega.{arith}
use borrow.Author.Tests.{lt-ltb, ltb-true, ltb-false}
use lib.Dec.{T, leb, ltb, leb→le}
use lib.IntN.{ℤ, pos, neg_ℤ}
use lib.ListN.{length, drop, get_or, set, replicate, length-append, length-map}
use lib.Seq.{set_at, append_snoc}
use Rattle.numbers.specs.Tests.{all_of, eq_list}
use Rattle.numbers.specs.Bytes.{ascii}
use Rattle.numbers.proofs.Truth.{both}
use Rattle.program.specs.Names.{Name, two_characters, user_name}
use Rattle.program.specs.Statements as Said
use Rattle.program.specs.Statements.{Literal, Variable}
use Rattle.text.specs.Tokens as Paper
use Rattle.text.specs.Forms as Form
use Rattle.text.specs.Forms.{Line, digits, decimal, took, literal, variable, operand, variable_name, operator_meant, comparison_meant, Parts, no_parts, forms, naming, writing, on_left, operating, comparing, on_right, starting, Slot, Is, New, Target, Written, Left, Right, Start, Operating, Comparing, put, word, sign, takes, fill, by_form}
use Rattle.text.specs.Code.{pack, no_token, no_tokens, tokens_with, token_at, pushed, pushed_all, packed}
use Rattle.text.specs.declared.tokens.Token.{Token}
use Rattle.text.specs.declared.tokens.Tokens.{Tokens}
use Rattle.text.proofs.Filled.{go_on, HoldsAt}
use Rattle.forms.proofs.Filling.{front}

-- So many tokens, and none behind them.
holding : List Paper.Token → Tokens
holding us = tokens_with (map pack us ++ replicate (12 - length us) no_token) (length us)

push_more : (us : List Paper.Token) (u : Paper.Token) → length us < 9 → pushed (holding us) (pack u) ≡ holding (us ++ (u ∷ []))
unfolding pushed holding
push_more us u h =
    let n : length (us ++ (u ∷ [])) ≡ suc (length us) = length-append us (u ∷ []) ∙ add-one (length us) in
    let k : 12 - length us ≡ suc (12 - suc (length us)) = omega arith in
    rw (lt-ltb (length us) 9 h, n)
    (ap (λ (xs : List Token). tokens_with xs (suc (length us)))
    (ap (λ (j : ℕ). set (map pack us ++ replicate j no_token) (length us) (pack u)) k
    ∙ set_at (map pack us) no_token (replicate (12 - suc (length us)) no_token) (pack u) (length us) (length-map us pack)
    ∙ sym (append_snoc (map pack us) (pack u) (replicate (12 - suc (length us)) no_token))
    ∙ ap (λ (xs : List Token). xs ++ replicate (12 - suc (length us)) no_token) (sym (map-append pack us (u ∷ [])))))

push_all : (vs us : List Paper.Token) → length us + length vs ≤ 9 → pushed_all (holding us) vs ≡ holding (us ++ vs)
unfolding pushed_all
push_all [] us h = ap holding (sym (append-nil us))
push_all (v ∷ vs) us h =
    ap (λ (ts : Tokens). pushed_all ts vs) (push_more us v (omega arith))
    ∙ push_all vs (us ++ (v ∷ [])) (omega (arith, length-append us (v ∷ [])))
    ∙ ap holding (append_assoc us (v ∷ []) vs)

few : (us : List Paper.Token) → length us ≤ 9 → packed us ≡ holding us
unfolding packed holding
few us h = push_all us [] (omega arith)

pub few_count : (us : List Paper.Token) → length us ≤ 9 → (packed us).count ≡ length us
unfolding holding
few_count us h = ap (λ (ts : Tokens). ts.count) (few us h)

nothing_there : (k i : ℕ) → get_or (replicate k no_token) i no_token ≡ no_token
nothing_there zero i = refl
nothing_there (suc k) zero = refl
nothing_there (suc k) (suc i) = nothing_there k i

padded : (us : List Paper.Token) (k i : ℕ) → get_or (map pack us ++ replicate k no_token) i no_token ≡ front (drop i us)
padded [] k zero = nothing_there k zero
padded [] k (suc i) = nothing_there k (suc i)
padded (u ∷ us) k zero = refl
padded (u ∷ us) k (suc i) = padded us k i

pub few_read : (us : List Paper.Token) → length us ≤ 9 → (i : ℕ) → token_at (packed us).at i ≡ front (drop i us)
unfolding token_at holding
few_read us h i = ap (λ (ts : Tokens). token_at ts.at i) (few us h) ∙ padded us (12 - length us) i

-- Nine of more.
push_count : (ts : Tokens) (t : Token) → ts.count ≤ 9 → (pushed ts t).count ≡ min 9 (ts.count + 1)
unfolding pushed
push_count ts t h = pick (ltb ts.count 9) refl
  where
    pick : (b : Bool) → ltb ts.count 9 ≡ b → (cond b (tokens_with (set ts.at ts.count t) (suc ts.count)) ts).count ≡ min 9 (ts.count + 1)
    pick true e = omega (arith, ltb-true ts.count 9 e)
    pick false e = omega (arith, ltb-false ts.count 9 e)

push_counts : (us : List Paper.Token) (ts : Tokens) → ts.count ≤ 9 → (pushed_all ts us).count ≡ min 9 (ts.count + length us)
unfolding pushed_all
push_counts [] ts h = omega arith
push_counts (u ∷ us) ts h =
    let c = push_count ts (pack u) h in
    push_counts us (pushed ts (pack u)) (omega arith) ∙ omega arith

pub many_count : (us : List Paper.Token) → 9 ≤ length us → (packed us).count ≡ 9
unfolding packed
many_count us h = push_counts us no_tokens (omega arith) ∙ omega arith

-- The most tokens that a slot takes, and those that a form does.
weight : Slot → ℕ
weight (Is w) = 1
weight New = 1
weight Target = 1
weight Written = 1
weight Left = 2
weight Right = 2
weight Start = 2
weight Operating = 1
weight Comparing = 1

weights : List Slot → ℕ
weights [] = 0
weights (s ∷ ss) = weight s + weights ss

module _ {A : Type 0} where
  abbrev Rests : (List Paper.Token → Type 0) → Option (Form.Taken A) → Type 0
  Rests K none = Unit
  Rests K (some f) = K f.rest

  rests_cond : (K : List Paper.Token → Type 0) (b : Bool) (a : A) (us : List Paper.Token) (o : Option (Form.Taken A)) → K us → Rests K o → Rests K (cond b (took a us) o)
  rests_cond K true a us o h k = h
  rests_cond K false a us o h k = k

rests_put : {A B : Type 0} (K : List Paper.Token → Type 0) (into : A → B) (o : Option (Form.Taken A)) → Rests K o → Rests K (put into o)
unfolding put
rests_put K into none h = tt
rests_put K into (some f) h = h

word_short : (P : Name → Bool) (ts : List Paper.Token) → Rests (λ us. length ts ≤ 1 + length us) (word P ts)
unfolding word
word_short P [] = tt
word_short P (t ∷ ts) = rests_cond (λ us. length (t ∷ ts) ≤ 1 + length us) (P t.chars) t.chars ts none (omega arith) tt

sign_short : {A : Type 0} (means : Name → Option A) (ts : List Paper.Token) → Rests (λ us. length ts ≤ 1 + length us) (sign means ts)
unfolding sign
sign_short means [] = tt
sign_short {A} means (t ∷ ts) = pick (means t.chars)
  where
    pick : (o : Option A) → Rests {A = A} (λ us. length (t ∷ ts) ≤ 1 + length us) (elim o [ none ↦ none | some a ↦ took a ts ])
    pick none = tt
    pick (some a) = omega arith

rests_more : {A : Type 0} (n : ℕ) (o : Option (Form.Taken A)) → Rests (λ us. n ≤ 1 + length us) o → Rests (λ us. n ≤ 2 + length us) o
rests_more n none h = tt
rests_more n (some f) h = omega arith

literal_short : (ts : List Paper.Token) → Rests (λ us. length ts ≤ 2 + length us) (literal ts)
unfolding literal
literal_short [] = tt
literal_short (t ∷ []) = rests_cond (λ us. 1 ≤ 2 + length us) (digits t) _ [] none (omega arith) tt
literal_short (t ∷ u ∷ ts) =
    rests_cond (λ us. length (t ∷ u ∷ ts) ≤ 2 + length us) (digits t) (pos (decimal 0 t.chars)) (u ∷ ts) _ (omega arith)
    (rests_cond (λ us. length (t ∷ u ∷ ts) ≤ 2 + length us) (eq_list t.chars (ascii "-") && (t.glued && digits u)) (neg_ℤ (pos (decimal 0 u.chars))) ts none (omega arith) tt)

variable_short : (ts : List Paper.Token) → Rests (λ us. length ts ≤ 2 + length us) (variable ts)
unfolding variable
variable_short ts = rests_more (length ts) (put Variable (word variable_name ts)) (rests_put (λ us. length ts ≤ 1 + length us) Variable (word variable_name ts) (word_short variable_name ts))

operand_short : (ts : List Paper.Token) → Rests (λ us. length ts ≤ 2 + length us) (operand ts)
unfolding operand
operand_short ts = pick (literal ts) (literal_short ts)
  where
    pick : (o : Option (Form.Taken ℤ)) → Rests (λ us. length ts ≤ 2 + length us) o
        → Rests {A = Said.Value Name} (λ us. length ts ≤ 2 + length us) (elim o [ none ↦ variable ts | some z ↦ took (Literal z.part) z.rest ])
    pick none h = variable_short ts
    pick (some z) h = h

slot_short : (s : Slot) (ts : List Paper.Token) (p : Parts) → Rests (λ us. length ts ≤ weight s + length us) (takes s ts p)
unfolding takes weight
slot_short (Is w) ts p = rests_put (λ us. length ts ≤ 1 + length us) (λ v. p) (word (λ v. eq_list v w) ts) (word_short (λ v. eq_list v w) ts)
slot_short New ts p = rests_put (λ us. length ts ≤ 1 + length us) (naming p) (word two_characters ts) (word_short two_characters ts)
slot_short Target ts p = rests_put (λ us. length ts ≤ 1 + length us) (naming p) (word user_name ts) (word_short user_name ts)
slot_short Written ts p = rests_put (λ us. length ts ≤ 1 + length us) (writing p) (word variable_name ts) (word_short variable_name ts)
slot_short Left ts p = rests_put (λ us. length ts ≤ 2 + length us) (on_left p) (operand ts) (operand_short ts)
slot_short Right ts p = rests_put (λ us. length ts ≤ 2 + length us) (on_right p) (operand ts) (operand_short ts)
slot_short Start ts p = rests_put (λ us. length ts ≤ 2 + length us) (starting p) (literal ts) (literal_short ts)
slot_short Operating ts p = rests_put (λ us. length ts ≤ 1 + length us) (operating p) (sign operator_meant ts) (sign_short operator_meant ts)
slot_short Comparing ts p = rests_put (λ us. length ts ≤ 1 + length us) (comparing p) (sign comparison_meant ts) (sign_short comparison_meant ts)

fill_short : (ss : List Slot) (ts : List Paper.Token) (p : Parts) → HoldsAt (λ q. length ts ≤ weights ss) (fill ss ts p)
unfolding fill weights
fill_short [] [] p = omega arith
fill_short [] (t ∷ ts) p = tt
fill_short (s ∷ ss) ts p = pick (takes s ts p) (slot_short s ts p) (λ us q. fill_short ss us q)
  where
    wider : (o : Option Parts) (n : ℕ) → length ts ≤ weight s + n → HoldsAt (λ q. n ≤ weights ss) o → HoldsAt (λ q. length ts ≤ weight s + weights ss) o
    wider none n h k = tt
    wider (some q) n h k = omega arith

    pick : (o : Option (Form.Taken Parts)) → Rests (λ us. length ts ≤ weight s + length us) o
        → ((us : List Paper.Token) (q : Parts) → HoldsAt (λ r. length us ≤ weights ss) (fill ss us q)) → HoldsAt (λ q. length ts ≤ weight s + weights ss) (go_on ss o)
    pick none h ih = tt
    pick (some f) h ih = wider (fill ss f.rest f.part) (length f.rest) h (ih f.rest f.part)

forms_short : (fs : List Form.Form) → T (all_of (λ f. leb (weights f.slots) 8) fs) → (ts : List Paper.Token) → 9 ≤ length ts → by_form fs ts ≡ none
unfolding by_form all_of
forms_short [] a ts h = refl
forms_short (f ∷ fs) a ts h = pick (fill f.slots ts no_parts) (fill_short f.slots ts no_parts) (forms_short fs b.1 ts h)
  where
    b : T (leb (weights f.slots) 8) × T (all_of (λ f. leb (weights f.slots) 8) fs)
    b = both (leb (weights f.slots) 8) (all_of (λ f. leb (weights f.slots) 8) fs) a

    pick : (o : Option Parts) → HoldsAt (λ q. length ts ≤ weights f.slots) o → by_form fs ts ≡ none → ◌≡◌ {A = Option Line} (elim o [ none ↦ by_form fs ts | some p ↦ some (f.says p) ]) none
    pick none k e = e
    pick (some q) k e = absurd (omega (arith, leb→le (weights f.slots) 8 b.0))

-- More than eight tokens fill no form.
pub too_many_lem : (ts : List Paper.Token) → 9 ≤ length ts → by_form forms ts ≡ none
unfolding forms all_of weights weight
too_many_lem ts h = forms_short forms tt ts h
