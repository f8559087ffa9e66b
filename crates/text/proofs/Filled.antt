-- What the slots of a form put among the parts of what a line says, and what that makes sure of.
-- Assumes nothing.
use mathlib.Core.Bool.{Bool, true, false, cond}
use mathlib.Core.List.{List, [], ◌∷◌}
use mathlib.Core.Option.{Option, none, some}
use lib.Dec.{T}
use lib.IntN.{ℤ}
use Rattle.numbers.specs.Tests.{eq_list}
use Rattle.program.specs.Names.{Name, two_characters, user_name}
use Rattle.program.specs.Statements as Said
use Rattle.program.proofs.Statements.{Refers}
use Rattle.program.specs.Statements.{Literal, Variable, Operator, Comparison, Statement}
use Rattle.text.specs.Tokens as Paper
use Rattle.text.specs.Forms as Form
use Rattle.text.specs.Forms.{Line, Blank, Label, Declared, Acts, took, literal, variable, operand, variable_name, operator_meant, comparison_meant, Parts, naming, writing, on_left, operating, comparing, on_right, starting, Slot, Is, New, Target, Written, Left, Right, Start, Operating, Comparing, put, word, sign, takes, fill}

-- A value that an operand takes: a literal, or the name of a variable.
abbrev pub Known : Said.Value Name → Type 0
Known (Literal z) = Unit
Known (Variable v) = T (variable_name v)

-- What a slot does to the parts.
pub data Effect : Slot → Parts → Parts → Type 0 where
  nothing : {w : Name} {p : Parts} → Effect (Is w) p p
  declared : {w : Name} {p : Parts} → T (two_characters w) → Effect New p (naming p w)
  aimed : {w : Name} {p : Parts} → T (user_name w) → Effect Target p (naming p w)
  wrote : {v : Name} {p : Parts} → T (variable_name v) → Effect Written p (writing p v)
  on_the_left : {x : Said.Value Name} {p : Parts} → Known x → Effect Left p (on_left p x)
  on_the_right : {y : Said.Value Name} {p : Parts} → Known y → Effect Right p (on_right p y)
  started : {z : ℤ} {p : Parts} → Effect Start p (starting p z)
  operated : {o : Operator} {p : Parts} → Effect Operating p (operating p o)
  compares : {c : Comparison} {p : Parts} → Effect Comparing p (comparing p c)

-- What the slots of a form do to the parts, one after the other.
pub data Filled : List Slot → Parts → Parts → Type 0 where
  done : {p : Parts} → Filled [] p p
  step : {s : Slot} {ss : List Slot} {p q r : Parts} → Effect s p q → Filled ss q r → Filled (s ∷ ss) p r

module _ {A : Type 0} where
  abbrev Holds : (A → Type 0) → Option (Form.Taken A) → Type 0
  Holds K none = Unit
  Holds K (some f) = K f.part

  holds_cond : (K : A → Type 0) (b : Bool) (a : A) (ts : List Paper.Token) → (T b → K a) → Holds K (cond b (took a ts) none)
  holds_cond K true a ts f = f tt
  holds_cond K false a ts f = tt

  always : (o : Option (Form.Taken A)) → Holds (λ a. Unit {0}) o
  always none = tt
  always (some a) = tt

abbrev pub HoldsAt : (Parts → Type 0) → Option Parts → Type 0
HoldsAt K none = Unit
HoldsAt K (some p) = K p

put_holds : {A B : Type 0} (K : A → Type 0) (L : B → Type 0) (into : A → B) (o : Option (Form.Taken A)) → Holds K o → ((a : A) → K a → L (into a)) → Holds L (put into o)
unfolding put
put_holds K L into none h f = tt
put_holds K L into (some a) h f = f a.part h

word_passes : (P : Name → Bool) (ts : List Paper.Token) → Holds (λ w. T (P w)) (word P ts)
unfolding word
word_passes P [] = tt
word_passes P (t ∷ ts) = holds_cond (λ w. T (P w)) (P t.chars) t.chars ts (λ h. h)

variable_known : (ts : List Paper.Token) → Holds Known (variable ts)
unfolding variable
variable_known ts = put_holds (λ w. T (variable_name w)) Known Variable (word variable_name ts) (word_passes variable_name ts) (λ w h. h)

operand_known : (ts : List Paper.Token) → Holds Known (operand ts)
unfolding operand
operand_known ts = pick (literal ts)
  where
    pick : (o : Option (Form.Taken ℤ)) → Holds Known (elim o [ none ↦ variable ts | some z ↦ took (Literal z.part) z.rest ])
    pick none = variable_known ts
    pick (some z) = tt

effect : (s : Slot) (ts : List Paper.Token) (p : Parts) → Holds (λ q. Effect s p q) (takes s ts p)
unfolding takes
effect (Is w) ts p = put_holds (λ v. Unit {0}) (Effect (Is w) p) (λ v. p) (word (λ v. eq_list v w) ts) (always (word (λ v. eq_list v w) ts)) (λ v h. nothing)
effect New ts p = put_holds (λ w. T (two_characters w)) (Effect New p) (naming p) (word two_characters ts) (word_passes two_characters ts) (λ w h. declared h)
effect Target ts p = put_holds (λ w. T (user_name w)) (Effect Target p) (naming p) (word user_name ts) (word_passes user_name ts) (λ w h. aimed h)
effect Written ts p = put_holds (λ w. T (variable_name w)) (Effect Written p) (writing p) (word variable_name ts) (word_passes variable_name ts) (λ w h. wrote h)
effect Left ts p = put_holds Known (Effect Left p) (on_left p) (operand ts) (operand_known ts) (λ x h. on_the_left h)
effect Right ts p = put_holds Known (Effect Right p) (on_right p) (operand ts) (operand_known ts) (λ x h. on_the_right h)
effect Start ts p = put_holds (λ z. Unit {0}) (Effect Start p) (starting p) (literal ts) (always (literal ts)) (λ z h. started)
effect Operating ts p = put_holds (λ o. Unit {0}) (Effect Operating p) (operating p) (sign operator_meant ts) (always (sign operator_meant ts)) (λ o h. operated)
effect Comparing ts p = put_holds (λ c. Unit {0}) (Effect Comparing p) (comparing p) (sign comparison_meant ts) (always (sign comparison_meant ts)) (λ c h. compares)

-- The tokens that a slot leaves go on to the slots behind it.
abbrev pub go_on : List Slot → Option (Form.Taken Parts) → Option Parts
go_on ss o = elim o [ none ↦ none | some f ↦ fill ss f.rest f.part ]

holds_map : (K L : Parts → Type 0) → ((q : Parts) → K q → L q) → (o : Option Parts) → HoldsAt K o → HoldsAt L o
holds_map K L f none h = tt
holds_map K L f (some q) h = f q h

pub filled : (ss : List Slot) (ts : List Paper.Token) (p : Parts) → HoldsAt (Filled ss p) (fill ss ts p)
unfolding fill
filled [] [] p = done
filled [] (t ∷ ts) p = tt
filled (s ∷ ss) ts p = pick (takes s ts p) (effect s ts p) (λ us q. filled ss us q)
  where
    pick : (o : Option (Form.Taken Parts)) → Holds (Effect s p) o → ((us : List Paper.Token) (q : Parts) → HoldsAt (Filled ss q) (fill ss us q)) → HoldsAt (Filled (s ∷ ss) p) (go_on ss o)
    pick none h ih = tt
    pick (some f) h ih = holds_map (Filled ss f.part) (Filled (s ∷ ss) p) (λ q g. step h g) (fill ss f.rest f.part) (ih f.rest f.part)

-- The names in a statement: its label is a name of the user's, its variables are those of the paper or the user.
abbrev pub Named : Statement Name → Type 0
Named s = Refers Known (λ (v : Name). T (variable_name v)) (λ (n : Name). T (user_name n)) s

-- What a form makes sure of in what a line says.
abbrev pub Sound : Line → Type 0
Sound Blank = Unit
Sound (Label w) = T (two_characters w)
Sound (Declared w z) = T (two_characters w)
Sound (Acts s) = Named s
