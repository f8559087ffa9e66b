-- What the places of a form take from the tokens of a line, one after the other, and what a line says by a form that it fills.
-- Assumes nothing.
use mathlib.Core.Path.{◌≡◌, refl, ap}
use mathlib.Core.Bool.{Bool, true, false, cond, ◌&&◌, ◌||◌, not}
use mathlib.Core.List.{List, [], ◌∷◌, map}
use mathlib.Core.Option.{Option, none, some, none-ne-some, some-injective}
use Prim.Native.Nat.{ℕ}
use native.Mathlib.Omega.{arith}
use lib.Dec.{T, T_not, leb}
use lib.IntN.{ℤ, pos, neg_ℤ}
use lib.ListN.{length}
use Rattle.numbers.proofs.Truth.{left_of_lem, right_of, both}
use Rattle.numbers.specs.Bytes.{ascii}
use Rattle.numbers.specs.Tests.{all_of, eq_list, Each}
use Rattle.program.specs.Names.{Name, digit, two_characters, user_name}
use Rattle.program.specs.Statements.{Value, Literal, Variable}
use Rattle.text.specs.Tokens.{Token, tokens, uncommented, printable}
use Rattle.text.specs.Forms.{Line, digits, decimal, Taken, took, put, word, sign, literal, variable_name, variable, operand, operator_meant, comparison_meant, Slot, Is, New, Target, Written, Left, Right, Start, Operating, Comparing, Parts, no_parts, naming, writing, on_left, operating, comparing, on_right, starting, takes, fill, Form, by_form, statement, reading}
use Rattle.text.specs.Faults.{bad_form}
use Rattle.text.specs.Code.{known, is_operator, is_comparison}

-- 1 to 10 digits.
abbrev pub figures : Name → Bool
figures w = all_of digit w && leb (length w) 10

-- The characters of a token that a place takes alone.
unfoldable pub suits : Slot → Name → Bool
suits (Is v) w = eq_list w v
suits New w = two_characters w
suits Target w = user_name w
suits Written w = variable_name w
suits Left w = figures w || variable_name w
suits Right w = figures w || variable_name w
suits Start w = figures w
suits Operating w = is_operator w
suits Comparing w = is_comparison w

-- The places that also take a minus and digits.
unfoldable pub signed : Slot → Bool
signed (Is v) = false
signed New = false
signed Target = false
signed Written = false
signed Left = true
signed Right = true
signed Start = true
signed Operating = false
signed Comparing = false

-- The characters that a place asks for, if it asks for these very ones.
unfoldable pub asked : Slot → List Name
asked (Is v) = v ∷ []
asked New = []
asked Target = []
asked Written = []
asked Left = []
asked Right = []
asked Start = []
asked Operating = []
asked Comparing = []

-- A place takes the front of some tokens and leaves the others.
pub data Took : Slot → List Token → List Token → Type 0 where
  one : {s : Slot} {t : Token} {ts : List Token} → T (suits s t.chars) → Took s (t ∷ ts) ts
  two : {s : Slot} {t u : Token} {ts : List Token} → T (signed s) → T (eq_list t.chars (ascii "-")) → T t.glued → T (figures u.chars) → Took s (t ∷ u ∷ ts) ts

-- The places take all of the tokens, one after the other.
pub data Fits : List Slot → List Token → Type 0 where
  done : Fits [] []
  step : {s : Slot} {ss : List Slot} {ts us : List Token} → Took s ts us → Fits ss us → Fits (s ∷ ss) ts

-- What is taken, if anything is, leaves what the place leaves.
module _ (s : Slot) where
  module _ {A : Type 0} where
    abbrev Leaves : List Token → Option (Taken A) → Type 0
    Leaves ts none = Unit
    Leaves ts (some f) = Took s ts f.rest

    leaves_if : (b : Bool) (a : A) (ts us : List Token) (o : Option (Taken A)) → (T b → Took s ts us) → Leaves ts o → Leaves ts (cond b (took a us) o)
    leaves_if true a ts us o h k = h tt
    leaves_if false a ts us o h k = k

  leaves_put : {A B : Type 0} (into : A → B) (ts : List Token) (o : Option (Taken A)) → Leaves ts o → Leaves ts (put into o)
  unfolding put
  leaves_put into ts none h = tt
  leaves_put into ts (some f) h = h

  leaves_word : (P : Name → Bool) → ((w : Name) → T (P w) → T (suits s w)) → (ts : List Token) → Leaves ts (word P ts)
  unfolding word
  leaves_word P h [] = tt
  leaves_word P h (t ∷ ts) = leaves_if (P t.chars) t.chars (t ∷ ts) ts none (λ p. one (h t.chars p)) tt

  leaves_sign : {A : Type 0} (means : Name → Option A) → ((w : Name) → T (known (means w)) → T (suits s w)) → (ts : List Token) → Leaves ts (sign means ts)
  unfolding sign known
  leaves_sign means h [] = tt
  leaves_sign {A} means h (t ∷ ts) = pick (means t.chars) (h t.chars) where
    pick : (o : Option A) → (T (known o) → T (suits s t.chars)) → Leaves {A = A} (t ∷ ts) (elim o [ none ↦ none | some a ↦ took a ts ])
    pick none k = tt
    pick (some a) k = one (k tt)

  leaves_literal : T (signed s) → ((w : Name) → T (figures w) → T (suits s w)) → (ts : List Token) → Leaves ts (literal ts)
  unfolding literal digits
  leaves_literal g h [] = tt
  leaves_literal g h (t ∷ []) = leaves_if (digits t) (pos (decimal 0 t.chars)) (t ∷ []) [] none (λ d. one (h t.chars d)) tt
  leaves_literal g h (t ∷ u ∷ ts) =
      leaves_if (digits t) (pos (decimal 0 t.chars)) (t ∷ u ∷ ts) (u ∷ ts) _ (λ d. one (h t.chars d))
      (leaves_if (eq_list t.chars (ascii "-") && (t.glued && digits u)) (neg_ℤ (pos (decimal 0 u.chars))) (t ∷ u ∷ ts) ts none
      (λ m. let p = both (eq_list t.chars (ascii "-")) (t.glued && digits u) m in let q = both t.glued (digits u) p.1 in two g p.0 q.0 q.1) tt)

  leaves_operand : T (signed s) → ((w : Name) → T (figures w || variable_name w) → T (suits s w)) → (ts : List Token) → Leaves ts (operand ts)
  unfolding operand variable
  leaves_operand g h ts = pick (literal ts) (leaves_literal g (λ w d. h w (left_of_lem (figures w) (variable_name w) d)) ts) where
    pick : (o : Option (Taken ℤ)) → Leaves ts o → Leaves {A = Value Name} ts (elim o [ none ↦ variable ts | some z ↦ took (Literal z.part) z.rest ])
    pick none k = leaves_put Variable ts (word variable_name ts) (leaves_word variable_name (λ w d. h w (right_of (figures w) (variable_name w) d)) ts)
    pick (some z) k = k

leaves_slot : (s : Slot) (ts : List Token) (p : Parts) → Leaves s ts (takes s ts p)
unfolding takes suits signed is_operator is_comparison
leaves_slot (Is v) ts p = leaves_put (Is v) (λ w. p) ts (word (λ w. eq_list w v) ts) (leaves_word (Is v) (λ w. eq_list w v) (λ w h. h) ts)
leaves_slot New ts p = leaves_put New (naming p) ts (word two_characters ts) (leaves_word New two_characters (λ w h. h) ts)
leaves_slot Target ts p = leaves_put Target (naming p) ts (word user_name ts) (leaves_word Target user_name (λ w h. h) ts)
leaves_slot Written ts p = leaves_put Written (writing p) ts (word variable_name ts) (leaves_word Written variable_name (λ w h. h) ts)
leaves_slot Left ts p = leaves_put Left (on_left p) ts (operand ts) (leaves_operand Left tt (λ w h. h) ts)
leaves_slot Right ts p = leaves_put Right (on_right p) ts (operand ts) (leaves_operand Right tt (λ w h. h) ts)
leaves_slot Start ts p = leaves_put Start (starting p) ts (literal ts) (leaves_literal Start tt (λ w h. h) ts)
leaves_slot Operating ts p = leaves_put Operating (operating p) ts (sign operator_meant ts) (leaves_sign Operating operator_meant (λ w h. h) ts)
leaves_slot Comparing ts p = leaves_put Comparing (comparing p) ts (sign comparison_meant ts) (leaves_sign Comparing comparison_meant (λ w h. h) ts)

-- A form that is filled fits.
pub fill_fits : (ss : List Slot) (ts : List Token) (p q : Parts) → fill ss ts p ≡ some q → Fits ss ts
unfolding fill
fill_fits [] [] p q e = done
fill_fits [] (t ∷ ts) p q e = absurd (none-ne-some _ e)
fill_fits (s ∷ ss) ts p q e = pick (takes s ts p) (leaves_slot s ts p) (λ us r f. fill_fits ss us r q f) e where
  pick : (o : Option (Taken Parts)) → Leaves s ts o → ((us : List Token) (r : Parts) → fill ss us r ≡ some q → Fits ss us)
      → ◌≡◌ {A = Option Parts} (elim o [ none ↦ none | some f ↦ fill ss f.rest f.part ]) (some q) → Fits (s ∷ ss) ts
  pick none h ih e = absurd (none-ne-some _ e)
  pick (some f) h ih e = step h (ih f.rest f.part e)

-- A place that takes no minus takes the first token alone.
pub first_suits : {s : Slot} {ss : List Slot} {t : Token} {ts : List Token} → T (not (signed s)) → Fits (s ∷ ss) (t ∷ ts) → T (suits s t.chars)
first_suits n (step (one h) f) = h
first_suits n (step (two {s} m h i d) f) = absurd (T_not (signed s) n m)

-- What follows from each of these forms, where the tokens fit it and it says x, follows where they say x by one of them.
pub by_form_lem : (C : Type 0) (fs : List Form) (ts : List Token) (x : Line) → by_form fs ts ≡ some x
    → Each (λ (f : Form). Fits f.slots ts → (p : Parts) → f.says p ≡ x → C) fs → C
unfolding by_form
by_form_lem C [] ts x e c = absurd (none-ne-some _ e)
by_form_lem C (f ∷ fs) ts x e c = pick (fill f.slots ts no_parts) (fill_fits f.slots ts no_parts) (λ g. by_form_lem C fs ts x g c.1) e where
  pick : (o : Option Parts) → ((q : Parts) → o ≡ some q → Fits f.slots ts) → (by_form fs ts ≡ some x → C)
      → ◌≡◌ {A = Option Line} (elim o [ none ↦ by_form fs ts | some p ↦ some (f.says p) ]) (some x) → C
  pick none h ih e = ih e
  pick (some p) h ih e = c.0 (h p refl) p (some-injective (f.says p) x e)

-- The characters of the tokens; what holds of tokens by the characters of the first two.
abbrev pub spelled : List Token → List Name
spelled ts = map (λ (t : Token). t.chars) ts

pub opening : (P : List Token → Type 0) (v w : Name) (more : List Name)
    → ((t u : Token) (us : List Token) → t.chars ≡ v → u.chars ≡ w → spelled us ≡ more → P (t ∷ u ∷ us))
    → (ts : List Token) → spelled ts ≡ v ∷ w ∷ more → P ts
opening P v w more f [] e = absurd (let n = ap length e in omega arith)
opening P v w more f (t ∷ []) e = absurd (let n = ap length e in omega arith)
opening P v w more f (t ∷ u ∷ us) e = f t u us (cc) (cc) (cc)

-- Refusals 3: a line whose tokens say nothing has no form.
abbrev pub Unsaid : List Token → Type 0
Unsaid ts = (x : Line) → statement ts ≡ some x → ⊥

pub no_form : (l : List ℕ) → Unsaid (tokens (uncommented l)) → bad_form l ≡ true
unfolding bad_form reading
no_form l h = pick (all_of printable l) (statement (tokens (uncommented l))) h where
  pick : (b : Bool) (o : Option Line) → ((x : Line) → o ≡ some x → ⊥) → elim (cond b o none) [ none ↦ true | some x ↦ false ] ≡ true
  pick true none h = refl
  pick true (some x) h = absurd (h x refl)
  pick false o h = refl
