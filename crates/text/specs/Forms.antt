-- Document 01, "Text": the statement forms, and what a line says.
-- Assumes nothing.
use Rattle.std.specs.Prelude.{Bool, cond, ◌&&◌, ◌||◌, not, List, [], ◌∷◌, ℕ, ◌+◌, ◌*◌, ◌-◌, eqb, leb, ℤ, pos, neg_ℤ, length}
use Rattle.std.proofs.Math.Option.{Option, none, some}
use Rattle.numbers.specs.Bytes.{ascii}
use Rattle.numbers.specs.Tests.{eq_list, all_of}
use Rattle.program.specs.Names.{Name, digit, paper_variable, user_name, two_characters}
use Rattle.program.specs.Statements.{Value, Literal, Variable, Operator, Plus, Minus, Times, Divided, BitAnd, BitOr, BitXor, Comparison, Equal, Unequal, Less, AtMost, Greater, AtLeast, Always, Compare, Statement, Set, SetWith, IC, DC, BR, CL, RT, E, H, Hold, OE, Disarm, MA, MR, SL, PR}
use Rattle.text.specs.Tokens.{Token, tokens, uncommented, printable}

-- Text 8, Text 9, Image 3: what a line without a form fault says: nothing, a label, a variable with its start value, or a statement that makes a cell.
pub data Line : Type 0 where
  Blank : Line
  Label : Name → Line
  Declared : Name → ℤ → Line
  Acts : Statement Name → Line

-- Text 17: the sign of each operator and of each comparison.
unfoldable pub operator_sign : Operator → Name
operator_sign Plus = ascii "+"
operator_sign Minus = ascii "-"
operator_sign Times = ascii "*"
operator_sign Divided = ascii "/"
operator_sign BitAnd = ascii "&"
operator_sign BitOr = ascii "|"
operator_sign BitXor = ascii "^"

unfoldable pub comparison_sign : Comparison → Name
comparison_sign Equal = ascii "="
comparison_sign Unequal = ascii "<>"
comparison_sign Less = ascii "<"
comparison_sign AtMost = ascii "<="
comparison_sign Greater = ascii ">"
comparison_sign AtLeast = ascii ">="

-- The one of these whose sign has these characters.
unfoldable pub meant : {A : Type 0} → (A → Name) → List A → Name → Option A
meant sign_of [] w = none
meant sign_of (x ∷ xs) w = let more = meant sign_of xs w in cond (eq_list (sign_of x) w) (some x) more

-- Text 17: the operator, and the comparison, that a sign stands for; none for any other characters.
unfoldable pub operator_meant : Name → Option Operator
operator_meant w = meant operator_sign (Plus ∷ Minus ∷ Times ∷ Divided ∷ BitAnd ∷ BitOr ∷ BitXor ∷ []) w

unfoldable pub comparison_meant : Name → Option Comparison
comparison_meant w = meant comparison_sign (Equal ∷ Unequal ∷ Less ∷ AtMost ∷ Greater ∷ AtLeast ∷ []) w

-- Text 13, Text 15: 1 to 10 digits.
unfoldable pub digits : Token → Bool
digits t = all_of digit t.chars && leb (length t.chars) 10

-- Text 13: the number that digits write, behind the number v.
unfoldable pub decimal : ℕ → List ℕ → ℕ
decimal v [] = v
decimal v (d ∷ ds) = decimal (v * 10 + (d - 48)) ds

-- What stands at the front of some tokens, and the tokens behind it.
pub record Taken (A : Type 0) : Type 0 where
  pub part : A
  pub rest : List Token

abbrev pub took : {A : Type 0} → A → List Token → Option (Taken A)
took a ts = some (record { part = a; rest = ts })

-- The same, as a part of something else.
unfoldable pub put : {A B : Type 0} → (A → B) → Option (Taken A) → Option (Taken B)
put into none = none
put into (some a) = took (into a.part) a.rest

-- The characters of the first token, where they pass a test.
unfoldable pub word : (Name → Bool) → List Token → Option (Taken Name)
word test [] = none
word test (t ∷ ts) = cond (test t.chars) (took t.chars ts) none

-- What the first token is the sign of.
unfoldable pub sign : {A : Type 0} → (Name → Option A) → List Token → Option (Taken A)
sign means [] = none
sign means (t ∷ ts) = elim (means t.chars) [ none ↦ none | some a ↦ took a ts ]

-- Text 13, Text 14: where an operand begins, digits are a literal, and so are a minus and the digits directly behind it.
unfoldable pub literal : List Token → Option (Taken ℤ)
literal [] = none
literal (t ∷ []) = cond (digits t) (took (pos (decimal 0 t.chars)) []) none
literal (t ∷ u ∷ ts) =
    cond (digits t) (took (pos (decimal 0 t.chars)) (u ∷ ts))
    (cond (eq_list t.chars (ascii "-") && (t.glued && digits u)) (took (neg_ℤ (pos (decimal 0 u.chars))) ts) none)

-- Text 16, Text 11: the words that can be an operand: the paper's variables and a user's names. So no mnemonic is one, and no other single letter.
unfoldable pub variable_name : Name → Bool
variable_name w = not (eqb (paper_variable w) 0) || user_name w

unfoldable pub variable : List Token → Option (Taken (Value Name))
variable ts = put Variable (word variable_name ts)

unfoldable pub operand : List Token → Option (Taken (Value Name))
operand ts = elim (literal ts) [ none ↦ variable ts | some z ↦ took (Literal z.part) z.rest ]

-- What a place in a form takes: these very characters, a name to declare, a label, a variable to write,
-- the operand on the left or on the right, a literal, an operator, a comparison.
pub data Slot : Type 0 where
  Is : Name → Slot
  New : Slot
  Target : Slot
  Written : Slot
  Left : Slot
  Right : Slot
  Start : Slot
  Operating : Slot
  Comparing : Slot

-- What the places of a form took.
pub record Parts : Type 0 where
  pub name : Name
  pub written : Name
  pub left : Value Name
  pub operator : Operator
  pub comparison : Comparison
  pub right : Value Name
  pub start : ℤ

abbrev pub parts : Name → Name → Value Name → Operator → Comparison → Value Name → ℤ → Parts
parts name written left operator comparison right start =
    record { name = name; written = written; left = left; operator = operator; comparison = comparison; right = right; start = start }

-- Before any place has taken something; what a form does not ask for counts for nothing.
abbrev pub no_parts : Parts
no_parts = parts [] [] (Literal (pos 0)) BitXor AtLeast (Literal (pos 0)) (pos 0)

abbrev pub naming : Parts → Name → Parts
naming p w = parts w p.written p.left p.operator p.comparison p.right p.start

abbrev pub writing : Parts → Name → Parts
writing p w = parts p.name w p.left p.operator p.comparison p.right p.start

abbrev pub on_left : Parts → Value Name → Parts
on_left p x = parts p.name p.written x p.operator p.comparison p.right p.start

abbrev pub operating : Parts → Operator → Parts
operating p o = parts p.name p.written p.left o p.comparison p.right p.start

abbrev pub comparing : Parts → Comparison → Parts
comparing p c = parts p.name p.written p.left p.operator c p.right p.start

abbrev pub on_right : Parts → Value Name → Parts
on_right p x = parts p.name p.written p.left p.operator p.comparison x p.start

abbrev pub starting : Parts → ℤ → Parts
starting p z = parts p.name p.written p.left p.operator p.comparison p.right z

-- Text 11, Text 12, Text 18, Text 19: what each kind of place takes from the front of the tokens, put among the parts.
unfoldable pub takes : Slot → List Token → Parts → Option (Taken Parts)
takes (Is chars) ts p = put (λ (w : Name). p) (word (λ (w : Name). eq_list w chars) ts)
takes New ts p = put (naming p) (word two_characters ts)
takes Target ts p = put (naming p) (word user_name ts)
takes Written ts p = put (writing p) (word variable_name ts)
takes Left ts p = put (on_left p) (operand ts)
takes Right ts p = put (on_right p) (operand ts)
takes Start ts p = put (starting p) (literal ts)
takes Operating ts p = put (operating p) (sign operator_meant ts)
takes Comparing ts p = put (comparing p) (sign comparison_meant ts)

-- The tokens fill the places one after the other, and none is left.
unfoldable pub fill : List Slot → List Token → Parts → Option Parts
fill [] [] p = some p
fill [] (t ∷ ts) p = none
fill (s ∷ ss) ts p = elim (takes s ts p) [ none ↦ none | some f ↦ fill ss f.rest f.part ]

pub record Form : Type 0 where
  pub slots : List Slot
  pub says : Parts → Line

abbrev pub form : List Slot → (Parts → Line) → Form
form slots says = record { slots = slots; says = says }

-- Text 17: the 21 forms.
unfoldable pub forms : List Form
forms =
    form (Is (ascii "LB") ∷ New ∷ []) (λ p. Label p.name)
    ∷ form (Is (ascii "VA") ∷ New ∷ []) (λ p. Declared p.name (pos 0))
    ∷ form (Is (ascii "VA") ∷ New ∷ Is (ascii "=") ∷ Start ∷ []) (λ p. Declared p.name p.start)
    ∷ form (Written ∷ Is (ascii "=") ∷ Left ∷ []) (λ p. Acts (Set p.written p.left))
    ∷ form (Written ∷ Is (ascii "=") ∷ Left ∷ Operating ∷ Right ∷ []) (λ p. Acts (SetWith p.written p.left p.operator p.right))
    ∷ form (Is (ascii "IC") ∷ Written ∷ []) (λ p. Acts (IC p.written))
    ∷ form (Is (ascii "DC") ∷ Written ∷ []) (λ p. Acts (DC p.written))
    ∷ form (Is (ascii "BR") ∷ Target ∷ []) (λ p. Acts (BR p.name Always))
    ∷ form (Is (ascii "BR") ∷ Target ∷ Is (ascii ",") ∷ Left ∷ Comparing ∷ Right ∷ []) (λ p. Acts (BR p.name (Compare p.left p.comparison p.right)))
    ∷ form (Is (ascii "CL") ∷ Target ∷ []) (λ p. Acts (CL p.name Always))
    ∷ form (Is (ascii "CL") ∷ Target ∷ Is (ascii ",") ∷ Left ∷ Comparing ∷ Right ∷ []) (λ p. Acts (CL p.name (Compare p.left p.comparison p.right)))
    ∷ form (Is (ascii "RT") ∷ []) (λ p. Acts RT)
    ∷ form (Is (ascii "E") ∷ []) (λ p. Acts E)
    ∷ form (Is (ascii "H") ∷ []) (λ p. Acts H)
    ∷ form (Is (ascii "H") ∷ Left ∷ []) (λ p. Acts (Hold p.left))
    ∷ form (Is (ascii "OE") ∷ Target ∷ []) (λ p. Acts (OE p.name))
    ∷ form (Is (ascii "OE") ∷ Is (ascii "0") ∷ []) (λ p. Acts Disarm)
    ∷ form (Is (ascii "MA") ∷ Left ∷ []) (λ p. Acts (MA p.left))
    ∷ form (Is (ascii "MR") ∷ Left ∷ []) (λ p. Acts (MR p.left))
    ∷ form (Is (ascii "SL") ∷ Left ∷ []) (λ p. Acts (SL p.left))
    ∷ form (Is (ascii "PR") ∷ Left ∷ []) (λ p. Acts (PR p.left))
    ∷ []

-- What tokens say by the first of these forms that they fill; none fill two of the 21 (`only-form` in crate refusals).
unfoldable pub by_form : List Form → List Token → Option Line
by_form [] ts = none
by_form (f ∷ fs) ts = elim (fill f.slots ts no_parts) [ none ↦ by_form fs ts | some p ↦ some (f.says p) ]

unfoldable pub statement : List Token → Option Line
statement [] = some Blank
statement (t ∷ ts) = by_form forms (t ∷ ts)

-- Text 5 to 8: what a line says, or none where a byte is bad or no form fits.
unfoldable pub reading : List ℕ → Option Line
reading l = cond (all_of printable l) (statement (tokens (uncommented l))) none
