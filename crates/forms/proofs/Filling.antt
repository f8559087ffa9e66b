-- The slots that the code walks took what the paper's slots took, and so does a whole form.
-- Assumes nothing.
use mathlib.Core.Path.{◌≡◌, refl, sym, ap, ap₂, subst, ◌∙◌}
use mathlib.Core.Bool.{Bool, true, false, cond, ◌&&◌, true≢false}
use mathlib.Core.List.{List, [], ◌∷◌}
use mathlib.Core.Option.{Option, none, some}
use Prim.Native.Nat.{ℕ, zero, suc, ◌+◌, ◌-◌, ◌≤◌, ◌<◌, max}
use native.Mathlib.Omega.{arith}
use borrow.Author.Tests.{ne_eqb, ltb-true}
use lib.Dec.{T, eqb, ltb, eqb→eq, eqb_refl}
use lib.IntN.{ℤ, pos, neg_ℤ}
use lib.ListN.{length, drop, length-drop}
use lib.Seq.{drop-drop}
use Rattle.std.specs.Prelude as Std
use Rattle.std.specs.Prelude.{Some, None, IfSome, Result, Ok, Err, IfOk}
use Rattle.std.proofs.lemmas.Result.{IfOk-at_ok}
use Rattle.numbers.specs.Bytes.{ascii}
use Rattle.numbers.specs.Tests.{eq_list}
use Rattle.numbers.proofs.Truth.{is_true, eqb_turn, same_test, of_both, cond_yes, cond_no}
use Rattle.program.specs.Names.{Name, two_characters, user_name}
use Rattle.program.specs.Code.{name_of}
use Rattle.program.specs.Statements as Said
use Rattle.program.specs.Statements.{Literal, Variable, BitXor, AtLeast}
use Rattle.program.proofs.Keys.{Characters, IsWord, two_word, user_word}
use Rattle.text.specs.Tokens as Paper
use Rattle.text.specs.Forms as Form
use Rattle.text.specs.Forms.{digits, decimal, took, literal, variable, operand, variable_name, operator_meant, comparison_meant, Parts, Is, New, Target, Written, Left, Right, Start, Operating, Comparing, put, word, sign, takes, fill, naming, writing, on_left, operating, comparing, on_right, starting}
use Rattle.text.specs.Code.{short_key, token, pack, no_token, spelt, known, is_operator, is_comparison, or_else, token_at}
use Rattle.forms.specs.Code.{taken, meaning, value_of, start_of, literal_by, variable_by, operand_by, operator_by, comparison_by, onward, with_name, with_written, with_operator, with_comparison, with_left, with_right, with_start, value_by, word_by, slot_by, is_end, fill_by, parts_of}
use Rattle.text.specs.declared.tokens.Token.{Token}
use Rattle.forms.specs.declared.Slot.{Slot}
use Rattle.forms.specs.declared.Slot.TheVariants as S
use Rattle.forms.specs.declared.Value.{Value}
use Rattle.forms.specs.declared.Value.TheVariants as Val
use Rattle.forms.specs.declared.Taken.{Taken}
use Rattle.forms.specs.declared.Match.{Match}
use Rattle.text.proofs.Filled.{go_on}
use Rattle.text.proofs.Words.{Good, Goods, asked, asked_none, named, kept, spelled_so, variable_word}
use Rattle.text.proofs.Signs.{operator_word, comparison_word}
use Rattle.forms.proofs.Matching.{fill_step, then}

-- A slot of the code with that of the paper.
pub data Kind : Slot → Form.Slot → Type 0 where
  new : Kind S.New New
  target : Kind S.Target Target
  written : Kind S.Written Written
  left : Kind S.Left Left
  right : Kind S.Right Right
  start : Kind S.Start Start
  operator : Kind S.Operator Operating
  comparison : Kind S.Comparison Comparing
  fixed : (n : ℕ) → T (ltb 0 n) → Kind (S.Is n) (Is (name_of n))

-- The slots of a form, and what stands behind the last.
pub data Slots : List Slot → List Form.Slot → Type 0 where
  end : Slots [] []
  rest : {ns : List Slot} → Slots (S.End ∷ ns) []
  slot : {n : Slot} {s : Form.Slot} {ns : List Slot} {ss : List Form.Slot} → Kind n s → Slots ns ss → Slots (n ∷ ns) (s ∷ ss)

some_slot : {n : Slot} {s : Form.Slot} → Kind n s → is_end n ≡ false
unfolding is_end
some_slot new = refl
some_slot target = refl
some_slot written = refl
some_slot left = refl
some_slot right = refl
some_slot start = refl
some_slot operator = refl
some_slot comparison = refl
some_slot (fixed n t) = refl

-- The first token, packed; none where there is none.
abbrev pub front : List Paper.Token → Token
front [] = no_token
front (t ∷ ts) = pack t

-- What a slot takes where a test holds.
abbrev pub whether : {A : Type 0} → Bool → A → List Paper.Token → Option (Form.Taken A)
whether b a ts = cond b (took a ts) none

module _ {A : Type 0} where
  whether_same : (b c : Bool) {x y : A} {ts us : List Paper.Token} → b ≡ c → (c ≡ true → x ≡ y) → (c ≡ true → ts ≡ us) → whether b x ts ≡ whether c y us
  whether_same b true e f g = rw (e, f refl, g refl)
  whether_same b false e f g = rw e

-- Literals and operands.
and_move : (x y z : Bool) → (x && (y && z)) ≡ ((x && y) && z)
and_move true y z = refl
and_move false y z = refl

minus : (w : Name) → Characters w → 0 < length w → eq_list w (ascii "-") ≡ eqb (short_key w) 45
unfolding ascii name_of
minus w h l = spelled_so w 45 h l (omega arith)

-- The code's literal of two tokens, by its tests.
abbrev digits_of : Bool → ℕ → Std.Option ℕ
digits_of d v = cond d (Some v) None

abbrev positive : ℕ → Std.Option Taken
positive v = Some (taken 1 (Val.Literal false v))

abbrev negative : ℕ → Std.Option Taken
negative v = Some (taken 2 (Val.Literal true v))

module _ (k v : ℕ) (g : Bool) where
  digits_first : (u : Token) (d : Bool) → d ≡ true → literal_by (token k (digits_of d v) g) u ≡ positive v
  unfolding literal_by
  digits_first u true e = refl
  digits_first u false e = absurd (true≢false (sym e))

  minus_last : (d x : Bool) → d ≡ false → (eqb k 45 && g) ≡ x → literal_by (token k (digits_of d v) g) no_token ≡ None
  unfolding literal_by
  minus_last true x e f = absurd (true≢false e)
  minus_last false true e f = rw f
  minus_last false false e f = rw f

  minus_first : (j w : ℕ) (h d x y : Bool) → d ≡ false → (eqb k 45 && g) ≡ x
      → literal_by (token k (digits_of d v) g) (token j (digits_of y w) h) ≡ cond (x && y) (negative w) None
  unfolding literal_by
  minus_first j w h true x y e f = absurd (true≢false e)
  minus_first j w h false true true e f = rw f
  minus_first j w h false true false e f = rw f
  minus_first j w h false false y e f = rw f

abbrev found : List Paper.Token → Std.Option Taken → Option (Form.Taken ℤ)
found ts o = elim o [ Some x ↦ took (start_of x.value) (drop x.used ts) | None ↦ none ]

abbrev lit_of : List Paper.Token → Std.Option Taken
lit_of ts = literal_by (front ts) (front (drop 1 ts))

literal_digits : (t : Paper.Token) (ts : List Paper.Token) → digits t ≡ true → literal (t ∷ ts) ≡ found (t ∷ ts) (lit_of (t ∷ ts))
unfolding literal pack start_of meaning
literal_digits t [] e =
    cond_yes (digits t) _ _ e ∙ ap (found (t ∷ [])) (sym (digits_first (short_key t.chars) (decimal 0 t.chars) t.glued no_token (digits t) e))
literal_digits t (u ∷ ts) e =
    cond_yes (digits t) _ _ e ∙ ap (found (t ∷ u ∷ ts)) (sym (digits_first (short_key t.chars) (decimal 0 t.chars) t.glued (pack u) (digits t) e))

literal_alone : (t : Paper.Token) → digits t ≡ false → literal (t ∷ []) ≡ found (t ∷ []) (lit_of (t ∷ []))
unfolding literal pack
literal_alone t e =
    cond_no (digits t) _ _ e
    ∙ ap (found (t ∷ [])) (sym (minus_last (short_key t.chars) (decimal 0 t.chars) t.glued (digits t) (eqb (short_key t.chars) 45 && t.glued) e refl))

literal_minus : (t u : Paper.Token) (ts : List Paper.Token) → digits t ≡ false → Good t → literal (t ∷ u ∷ ts) ≡ found (t ∷ u ∷ ts) (lit_of (t ∷ u ∷ ts))
unfolding literal pack start_of meaning
literal_minus t u ts e g =
    cond_no (digits t) _ _ e
    ∙ ap (λ (b : Bool). cond b (took (neg_ℤ (pos (decimal 0 u.chars))) ts) none)
    (ap (λ (b : Bool). b && (t.glued && digits u)) (minus t.chars g.0 g.1) ∙ and_move (eqb (short_key t.chars) 45) t.glued (digits u))
    ∙ pick ((eqb (short_key t.chars) 45 && t.glued) && digits u)
    ∙ ap (found (t ∷ u ∷ ts))
    (sym (minus_first (short_key t.chars) (decimal 0 t.chars) t.glued (short_key u.chars) (decimal 0 u.chars) u.glued (digits t) (eqb (short_key t.chars) 45 && t.glued) (digits u) e refl))
  where
    pick : (x : Bool) → cond x (took (neg_ℤ (pos (decimal 0 u.chars))) ts) none ≡ found (t ∷ u ∷ ts) (cond x (negative (decimal 0 u.chars)) None)
    pick true = refl
    pick false = refl

literal_law : (ts : List Paper.Token) → Goods ts → literal ts ≡ found ts (lit_of ts)
unfolding literal literal_by
literal_law [] g = refl
literal_law (t ∷ []) g = pick (digits t) refl
  where
    pick : (x : Bool) → digits t ≡ x → literal (t ∷ []) ≡ found (t ∷ []) (lit_of (t ∷ []))
    pick true e = literal_digits t [] e
    pick false e = literal_alone t e
literal_law (t ∷ u ∷ ts) g = pick (digits t) refl
  where
    pick : (x : Bool) → digits t ≡ x → literal (t ∷ u ∷ ts) ≡ found (t ∷ u ∷ ts) (lit_of (t ∷ u ∷ ts))
    pick true e = literal_digits t (u ∷ ts) e
    pick false e = literal_minus t u ts e g.0

-- The first token by a test that only words pass, where its characters are read back from its key.
put_whether : {A B : Type 0} (into : A → B) (b : Bool) (a : A) (ts : List Paper.Token) → put into (whether b a ts) ≡ whether b (into a) ts
unfolding put
put_whether into true a ts = refl
put_whether into false a ts = refl

word_law : {B : Type 0} (P : Name → Bool) (passed : (w : Name) → T (P w) → IsWord w) (back : ℕ → Name)
    (same : (w : Name) → Characters w → 0 < length w → P w ≡ true → back (short_key w) ≡ w) (into : Name → B) (ts : List Paper.Token) → Goods ts
    → put into (word P ts) ≡ whether (P (name_of (front ts).key)) (into (back (front ts).key)) (drop 1 ts)
unfolding word put pack
word_law P passed back same into [] g = sym (cond_no (P (name_of 0)) _ _ (asked_none P passed))
word_law P passed back same into (t ∷ ts) g =
    let h = g.0 in
    put_whether into (P t.chars) t.chars ts
    ∙ sym
    (whether_same (P (name_of (short_key t.chars))) (P t.chars) (asked P passed t.chars h.0 h.1)
    (λ e. ap into (same t.chars h.0 h.1 e))
    (λ e. refl))

-- A sign is a word by the test that it stands for something.
sign_word : {A B : Type 0} (means : Name → Option A) (last : A) (into : A → B) (ts : List Paper.Token)
    → put into (sign means ts) ≡ put (λ (w : Name). into (or_else last (means w))) (word (λ (w : Name). known (means w)) ts)
unfolding sign word put known
sign_word means last into [] = refl
sign_word {A} means last into (t ∷ ts) = pick (means t.chars) ∙ sym (put_whether (λ (w : Name). into (or_else last (means w))) (known (means t.chars)) t.chars ts)
  where
    pick : (o : Option A) → put into (elim o [ none ↦ none | some a ↦ took a ts ]) ≡ whether (known o) (into (or_else last o)) ts
    pick none = refl
    pick (some a) = refl

-- An operand: the literal, or else a variable.
abbrev op_of : List Paper.Token → Std.Option Taken
op_of ts = operand_by (front ts) (front (drop 1 ts))

abbrev found_value : List Paper.Token → Std.Option Taken → Option (Form.Taken (Said.Value Name))
found_value ts o = elim o [ Some x ↦ took (value_of x.value) (drop x.used ts) | None ↦ none ]

variable_by_lem : (k : ℕ) (b : Bool) → variable_name (name_of k) ≡ b → variable_by k ≡ cond b (Some (taken 1 (Val.Variable k))) None
unfolding variable_by
variable_by_lem k b e = rw e

variable_law : (ts : List Paper.Token) → Goods ts → variable ts ≡ found_value ts (variable_by (front ts).key)
unfolding variable value_of
variable_law ts g = word_law variable_name variable_word name_of (named variable_name variable_word) Variable ts g ∙ pick (variable_name (name_of (front ts).key)) refl
  where
    pick : (b : Bool) → variable_name (name_of (front ts).key) ≡ b
        → whether (variable_name (name_of (front ts).key)) (Variable (name_of (front ts).key)) (drop 1 ts) ≡ found_value ts (variable_by (front ts).key)
    pick true e = rw e (ap (found_value ts) (sym (variable_by_lem (front ts).key true e)))
    pick false e = rw e (ap (found_value ts) (sym (variable_by_lem (front ts).key false e)))

abbrev OnlyLiteral : Taken → Type 0
OnlyLiteral x = Literal (start_of x.value) ≡ value_of x.value

literal_only : (t u : Token) → IfSome (literal_by t u) OnlyLiteral
unfolding literal_by start_of value_of
literal_only t u = pick t.value (eqb t.key 45 && t.glued) u.value
  where
    pick : (a : Std.Option ℕ) (x : Bool) (b : Std.Option ℕ) → IfSome (elim a [ Some v ↦ positive v | None ↦ cond x (elim b [ Some v ↦ negative v | None ↦ None ]) None ]) OnlyLiteral
    pick (Some v) x b = refl
    pick None true (Some v) = refl
    pick None true None = tt
    pick None false b = tt

abbrev literal_or : Option (Form.Taken ℤ) → Option (Form.Taken (Said.Value Name)) → Option (Form.Taken (Said.Value Name))
literal_or o v = elim o [ none ↦ v | some z ↦ took (Literal z.part) z.rest ]

operand_law : (ts : List Paper.Token) → Goods ts → operand ts ≡ found_value ts (op_of ts)
unfolding operand operand_by
operand_law ts g =
    ap (λ (o : Option (Form.Taken ℤ)). literal_or o (variable ts)) (literal_law ts g) ∙ pick (lit_of ts) (literal_only (front ts) (front (drop 1 ts)))
  where
    pick : (o : Std.Option Taken) → IfSome o OnlyLiteral → literal_or (found ts o) (variable ts) ≡ found_value ts (elim o [ Some x ↦ Some x | None ↦ variable_by (front ts).key ])
    pick (Some x) h = ap (λ (v : Said.Value Name). took v (drop x.used ts)) h
    pick None h = variable_law ts g

-- An operand takes no more tokens than there are.
abbrev Inside : ℕ → Taken → Type 0
Inside n x = x.used ≤ n

literal_inside : (ts : List Paper.Token) → IfSome (lit_of ts) (Inside (length ts))
unfolding literal_by
literal_inside [] = tt
literal_inside (t ∷ []) = pick (pack t).value (eqb (pack t).key 45 && (pack t).glued)
  where
    pick : (a : Std.Option ℕ) (x : Bool) → IfSome (elim a [ Some v ↦ positive v | None ↦ cond x None None ]) (Inside 1)
    pick (Some v) x = omega arith
    pick None true = tt
    pick None false = tt
literal_inside (t ∷ u ∷ ts) = pick (pack t).value (eqb (pack t).key 45 && (pack t).glued) (pack u).value
  where
    pick : (a : Std.Option ℕ) (x : Bool) (b : Std.Option ℕ)
        → IfSome (elim a [ Some v ↦ positive v | None ↦ cond x (elim b [ Some v ↦ negative v | None ↦ None ]) None ]) (Inside (length (t ∷ u ∷ ts)))
    pick (Some v) x b = omega arith
    pick None true (Some v) = omega arith
    pick None true None = tt
    pick None false b = tt

variable_inside : (ts : List Paper.Token) → IfSome (variable_by (front ts).key) (Inside (length ts))
unfolding variable_by
variable_inside [] = rw (asked_none variable_name variable_word) tt
variable_inside (t ∷ ts) = of_both (λ o. IfSome o (Inside (length (t ∷ ts)))) (variable_name (name_of (pack t).key)) (omega arith) tt

operand_inside : (ts : List Paper.Token) → IfSome (op_of ts) (Inside (length ts))
unfolding operand_by
operand_inside ts = pick (lit_of ts) (literal_inside ts)
  where
    pick : (o : Std.Option Taken) → IfSome o (Inside (length ts)) → IfSome (elim o [ Some x ↦ Some x | None ↦ variable_by (front ts).key ]) (Inside (length ts))
    pick (Some x) h = h
    pick None h = variable_inside ts

-- A slot that takes these very characters.
fixed_law : (n : ℕ) → 0 < n → (ts : List Paper.Token) (p : Parts) → Goods ts
    → put (λ (w : Name). p) (word (λ (w : Name). eq_list w (name_of n)) ts) ≡ whether (eqb n (front ts).key) p (drop 1 ts)
unfolding put word pack
fixed_law n h [] p g = sym (cond_no (eqb n 0) _ _ (ne_eqb n 0 (λ e. omega arith)))
fixed_law n h (t ∷ ts) p g =
    put_whether (λ (w : Name). p) (eq_list t.chars (name_of n)) t.chars ts
    ∙ ap (λ (b : Bool). whether b p ts) (spelled_so t.chars n g.0.0 g.0.1 h ∙ eqb_turn (short_key t.chars) n)

-- What a match took, as the paper's slots hand it on: the parts, and the tokens behind them.
abbrev after : List Paper.Token → Result Match Match → Option (Form.Taken Parts)
after whole o = elim o [ Ok m ↦ took (parts_of m) (drop m.place whole) | Err m ↦ none ]

after_word : (whole : List Paper.Token) (m : Match) (b : Bool) → whether b (parts_of m) (drop 1 (drop m.place whole)) ≡ after whole (word_by b m)
unfolding word_by
after_word whole m true = ap (took (parts_of m)) (drop-drop 1 m.place whole)
after_word whole m false = refl

after_value : (whole : List Paper.Token) (m : Match) (into : Said.Value Name → Parts) (with : Match → Value → Match) → ((v : Value) (used : ℕ) → parts_of (onward (with m v) used) ≡ into (value_of v))
    → ((v : Value) → (with m v).place ≡ m.place) → (o : Std.Option Taken)
    → put into (found_value (drop m.place whole) o) ≡ after whole (value_by with m o)
unfolding put
after_value whole m into with e f None = refl
after_value whole m into with e f (Some x) =
    ap₂ (λ (p : Parts) (ts : List Paper.Token). took p ts) (sym (e x.value x.used))
    (drop-drop x.used m.place whole ∙ ap (λ (n : ℕ). drop (n + x.used) whole) (sym (f x.value)))

after_start : (whole : List Paper.Token) (m : Match) (o : Std.Option Taken)
    → put (starting (parts_of m)) (found (drop m.place whole) o) ≡ after whole (value_by with_start m o)
unfolding put
after_start whole m None = refl
after_start whole m (Some x) = ap (took (starting (parts_of m) (start_of x.value))) (drop-drop x.used m.place whole)

operator_law : (p : Parts) (ts : List Paper.Token) → Goods ts
    → put (operating p) (sign operator_meant ts)
    ≡ whether (is_operator (name_of (front ts).key)) (operating p (operator_by (name_of (front ts).key))) (drop 1 ts)
unfolding is_operator operator_by
operator_law p ts g =
    sign_word operator_meant BitXor (operating p) ts
    ∙ word_law is_operator operator_word name_of (named is_operator operator_word) (λ (w : Name). operating p (operator_by w)) ts g

comparison_law : (p : Parts) (ts : List Paper.Token) → Goods ts
    → put (comparing p) (sign comparison_meant ts)
    ≡ whether (is_comparison (name_of (front ts).key)) (comparing p (comparison_by (name_of (front ts).key))) (drop 1 ts)
unfolding is_comparison comparison_by
comparison_law p ts g =
    sign_word comparison_meant AtLeast (comparing p) ts
    ∙ word_law is_comparison comparison_word name_of (named is_comparison comparison_word) (λ (w : Name). comparing p (comparison_by w)) ts g

-- Each slot.
module _ (whole : List Paper.Token) (m : Match) (g : Goods (drop m.place whole)) where
  slot_law : {n : Slot} {s : Form.Slot} → Kind n s
      → takes s (drop m.place whole) (parts_of m) ≡ after whole (slot_by m n (front (drop m.place whole)) (front (drop 1 (drop m.place whole))))
  unfolding takes slot_by
  slot_law new =
      let ts = drop m.place whole in
      let k = (front ts).key in
      word_law two_characters two_word spelt (kept two_characters two_word) (naming (parts_of m)) ts g ∙ after_word whole (with_name m k) (two_characters (name_of k))
  slot_law target =
      let ts = drop m.place whole in
      let k = (front ts).key in
      word_law user_name user_word spelt (kept user_name user_word) (naming (parts_of m)) ts g ∙ after_word whole (with_name m k) (user_name (name_of k))
  slot_law written =
      let ts = drop m.place whole in
      let k = (front ts).key in
      word_law variable_name variable_word spelt (kept variable_name variable_word) (writing (parts_of m)) ts g
      ∙ after_word whole (with_written m k) (variable_name (name_of k))
  slot_law left =
      let ts = drop m.place whole in
      ap (put (on_left (parts_of m))) (operand_law ts g) ∙ after_value whole m (on_left (parts_of m)) with_left (λ v used. refl) (λ v. refl) (op_of ts)
  slot_law right =
      let ts = drop m.place whole in
      ap (put (on_right (parts_of m))) (operand_law ts g) ∙ after_value whole m (on_right (parts_of m)) with_right (λ v used. refl) (λ v. refl) (op_of ts)
  slot_law start =
      let ts = drop m.place whole in
      ap (put (starting (parts_of m))) (literal_law ts g) ∙ after_start whole m (lit_of ts)
  slot_law operator =
      let ts = drop m.place whole in
      operator_law (parts_of m) ts g ∙ after_word whole (with_operator m (front ts).key) (is_operator (name_of (front ts).key))
  slot_law comparison =
      let ts = drop m.place whole in
      comparison_law (parts_of m) ts g ∙ after_word whole (with_comparison m (front ts).key) (is_comparison (name_of (front ts).key))
  slot_law (fixed n t) =
      let ts = drop m.place whole in
      fixed_law n (ltb-true 0 n (is_true (ltb 0 n) t)) ts (parts_of m) g ∙ after_word whole m (eqb n (front ts).key)

-- A slot takes no more tokens than there are, or it takes one.
abbrev Within : Match → ℕ → Match → Type 0
Within m n x = x.place ≤ m.place + max 1 n

word_used : (m : Match) (b : Bool) (n : ℕ) → IfOk (word_by b m) (Within m n)
unfolding word_by
word_used m true n = omega arith
word_used m false n = tt

value_used : (m : Match) (with : Match → Value → Match) (n : ℕ) → ((v : Value) → (with m v).place ≡ m.place) → (o : Std.Option Taken) → IfSome o (Inside n)
    → IfOk (value_by with m o) (Within m n)
value_used m with n e None h = tt
value_used m with n e (Some x) h = let p = e x.value in omega (arith, h)

slot_used : {n : Slot} {s : Form.Slot} (m : Match) (ts : List Paper.Token) → Kind n s → IfOk (slot_by m n (front ts) (front (drop 1 ts))) (Within m (length ts))
unfolding slot_by
slot_used m ts new = word_used (with_name m (front ts).key) (two_characters (name_of (front ts).key)) (length ts)
slot_used m ts target = word_used (with_name m (front ts).key) (user_name (name_of (front ts).key)) (length ts)
slot_used m ts written = word_used (with_written m (front ts).key) (variable_name (name_of (front ts).key)) (length ts)
slot_used m ts left = value_used m with_left (length ts) (λ v. refl) (op_of ts) (operand_inside ts)
slot_used m ts right = value_used m with_right (length ts) (λ v. refl) (op_of ts) (operand_inside ts)
slot_used m ts start = value_used m with_start (length ts) (λ v. refl) (lit_of ts) (literal_inside ts)
slot_used m ts operator = word_used (with_operator m (front ts).key) (is_operator (name_of (front ts).key)) (length ts)
slot_used m ts comparison = word_used (with_comparison m (front ts).key) (is_comparison (name_of (front ts).key)) (length ts)
slot_used m ts (fixed n t) = word_used m (eqb n (front ts).key) (length ts)

takes_none : (s : Form.Slot) (p : Parts) → takes s [] p ≡ none
unfolding takes put word sign operand literal variable
takes_none (Is w) p = refl
takes_none New p = refl
takes_none Target p = refl
takes_none Written p = refl
takes_none Left p = refl
takes_none Right p = refl
takes_none Start p = refl
takes_none Operating p = refl
takes_none Comparing p = refl

some_left : (s : Form.Slot) (ts : List Paper.Token) (p : Parts) {f : Form.Taken Parts} → takes s ts p ≡ some f → 0 < length ts
some_left s [] p e = absurd (let q : ◌≡◌ {A = ℕ} 0 1 = cc (takes_none s p) in omega arith)
some_left s (t ∷ ts) p e = omega arith

pub goods_drop : (n : ℕ) (ts : List Paper.Token) → Goods ts → Goods (drop n ts)
goods_drop zero ts g = g
goods_drop (suc n) [] g = tt
goods_drop (suc n) (t ∷ ts) g = goods_drop n ts g.1

-- A form is filled where each slot took something and no token is left.
abbrev pub finish : List Paper.Token → Result Match Match → Option Parts
finish whole o = elim o [ Ok m ↦ cond (eqb m.place (length whole)) (some (parts_of m)) none | Err m ↦ none ]

none_left : (ts : List Paper.Token) (p : Parts) → fill [] ts p ≡ cond (eqb (length ts) 0) (some p) none
unfolding fill
none_left [] p = refl
none_left (t ∷ ts) p = sym (cond_no (eqb (length (t ∷ ts)) 0) _ _ (ne_eqb (length (t ∷ ts)) 0 (λ e. omega arith)))

at_end_lem : (n k : ℕ) → k ≤ n → eqb (n - k) 0 ≡ eqb k n
at_end_lem n k h =
    same_test (eqb (n - k) 0) (eqb k n)
    (λ t. let e = eqb→eq (n - k) 0 t in let f : k ≡ n = omega arith in subst (λ (j : ℕ). T (eqb k j)) f (eqb_refl k))
    (λ t. let e = eqb→eq k n t in let f : n - k ≡ 0 = omega arith in subst (λ (j : ℕ). T (eqb j 0)) (sym f) tt)

module _ (whole : List Paper.Token) (g : Goods whole) (at : List Token) (read : (i : ℕ) → token_at at i ≡ front (drop i whole)) where
  slot_next : (n : Slot) (m : Match)
      → slot_by m n (token_at at m.place) (token_at at (m.place + 1)) ≡ slot_by m n (front (drop m.place whole)) (front (drop 1 (drop m.place whole)))
  slot_next n m =
      ap₂ (λ (t u : Token). slot_by m n t u) (read m.place)
      (read (m.place + 1) ∙ ap front (sym (drop-drop 1 m.place whole)))

  all_filled : (m : Match) → m.place ≤ length whole → fill [] (drop m.place whole) (parts_of m) ≡ finish whole (Ok m)
  all_filled m h =
      none_left (drop m.place whole) (parts_of m)
      ∙ ap (λ (b : Bool). cond b (some (parts_of m)) none)
      (ap (λ (k : ℕ). eqb k 0) (length-drop m.place whole) ∙ at_end_lem (length whole) m.place h)

  pub fill_law : {ns : List Slot} {ss : List Form.Slot} → Slots ns ss → (m : Match) → m.place ≤ length whole
      → fill ss (drop m.place whole) (parts_of m) ≡ finish whole (fill_by ns at m)
  unfolding fill fill_by is_end
  fill_law end m h = all_filled m h
  fill_law rest m h = all_filled m h
  fill_law (slot {n} {s} {ns} {ss} k r) m h =
      ap (go_on ss) law ∙ pick next refl (λ x l. fill_law r x l) ∙ ap (finish whole) (sym (fill_step at m n ns (some_slot k) ∙ ap (then at m ns) (slot_next n m)))
    where
      next : Result Match Match
      next = slot_by m n (front (drop m.place whole)) (front (drop 1 (drop m.place whole)))

      law : takes s (drop m.place whole) (parts_of m) ≡ after whole next
      law = slot_law whole m (goods_drop m.place whole g) k

      inside : (x : Match) → next ≡ Ok x → x.place ≤ length whole
      inside x f =
          let l = some_left s (drop m.place whole) (parts_of m) (law ∙ ap (after whole) f) in
          let u = IfOk-at_ok (Within m (length (drop m.place whole))) f (slot_used m (drop m.place whole) k) in
          omega (arith, u, length-drop m.place whole)

      pick : (o : Result Match Match) → next ≡ o → ((x : Match) → x.place ≤ length whole → fill ss (drop x.place whole) (parts_of x) ≡ finish whole (fill_by ns at x))
          → go_on ss (after whole o) ≡ finish whole (then at m ns o)
      pick (Ok x) f ih = ih x (inside x f)
      pick (Err x) f ih = refl
