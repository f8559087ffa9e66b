-- What the code holds of the forms and of the parts that their slots take, in its own shape. No demand reaches this; proofs/ ties it to the definitions of the paper.
-- Assumes nothing.
use Rattle.std.specs.Prelude.{Bool, true, false, cond, ◌&&◌, ◌||◌, List, [], ◌∷◌, ℕ, ◌+◌, eqb, ltb, get_or, ℤ, pos, neg_ℤ, Option, Some, None, Result, Ok, Err}
use Rattle.program.specs.Names.{Name, two_characters, user_name}
use Rattle.program.specs.Code.{name_of}
use Rattle.program.specs.Statements.{Literal, Variable, Operator, BitXor, Comparison, AtLeast}
use Rattle.program.specs.Statements as Said
use Rattle.text.specs.Forms.{operator_meant, comparison_meant, variable_name, Parts, parts}
use Rattle.text.specs.Code.{token_at, spelt, is_operator, is_comparison, or_else}
use Rattle.text.specs.declared.tokens.Token.{Token}
use Rattle.forms.specs.declared.Value.{Value}
use Rattle.forms.specs.declared.Value.TheVariants as Val
use Rattle.forms.specs.declared.Slot.{Slot}
use Rattle.forms.specs.declared.Slot.TheVariants as S
use Rattle.forms.specs.declared.Taken.{Taken}
use Rattle.forms.specs.declared.Match.{Match}

-- A literal by its sign and its size.
unfoldable pub meaning : Bool → ℕ → ℤ
meaning negative size = cond negative (neg_ℤ (pos size)) (pos size)

-- What the code's value is in the paper; a literal alone.
unfoldable pub value_of : Value → Said.Value Name
value_of (Val.Literal negative size) = Literal (meaning negative size)
value_of (Val.Variable k) = Variable (name_of k)

unfoldable pub start_of : Value → ℤ
start_of (Val.Literal negative size) = meaning negative size
start_of (Val.Variable k) = pos 0

-- How many tokens an operand takes, and what it is.
abbrev pub taken : ℕ → Value → Taken
taken used value = record { used = used; value = value }

abbrev pub zero_value : Value
zero_value = Val.Literal false 0

-- A literal at the front of two tokens; an operand; none where there is none.
unfoldable pub literal_by : Token → Token → Option Taken
literal_by t u =
    elim t.value [
      | Some v ↦ Some (taken 1 (Val.Literal false v))
      | None ↦ cond (eqb t.key 45 && t.glued) (elim u.value [ Some v ↦ Some (taken 2 (Val.Literal true v)) | None ↦ None ]) None
    ]

unfoldable pub variable_by : ℕ → Option Taken
variable_by k = cond (variable_name (name_of k)) (Some (taken 1 (Val.Variable k))) None

unfoldable pub operand_by : Token → Token → Option Taken
operand_by t u = elim (literal_by t u) [ Some x ↦ Some x | None ↦ variable_by t.key ]

-- What the slots of a form took so far: where the next token stands, and the parts.
abbrev pub match : ℕ → ℕ → ℕ → Value → ℕ → ℕ → Value → Value → Match
match place name written left operator comparison right start =
    record {
      place = place;
      name = name;
      written = written;
      left = left;
      operator = operator;
      comparison = comparison;
      right = right;
      start = start;
    }

abbrev pub no_match : Match
no_match = match 0 0 0 zero_value 0 0 zero_value zero_value

-- So many tokens on.
abbrev pub onward : Match → ℕ → Match
onward m used = match (m.place + used) m.name m.written m.left m.operator m.comparison m.right m.start

abbrev pub with_name : Match → ℕ → Match
with_name m k = match m.place k m.written m.left m.operator m.comparison m.right m.start

abbrev pub with_written : Match → ℕ → Match
with_written m k = match m.place m.name k m.left m.operator m.comparison m.right m.start

abbrev pub with_operator : Match → ℕ → Match
with_operator m k = match m.place m.name m.written m.left k m.comparison m.right m.start

abbrev pub with_comparison : Match → ℕ → Match
with_comparison m k = match m.place m.name m.written m.left m.operator k m.right m.start

abbrev pub with_left : Match → Value → Match
with_left m v = match m.place m.name m.written v m.operator m.comparison m.right m.start

abbrev pub with_right : Match → Value → Match
with_right m v = match m.place m.name m.written m.left m.operator m.comparison v m.start

abbrev pub with_start : Match → Value → Match
with_start m v = match m.place m.name m.written m.left m.operator m.comparison m.right v

-- What a sign stands for; what is no sign counts as the last.
unfoldable pub operator_by : Name → Operator
operator_by w = or_else BitXor (operator_meant w)

unfoldable pub comparison_by : Name → Comparison
comparison_by w = or_else AtLeast (comparison_meant w)

-- A word on; an error where it does not fit its slot.
unfoldable pub word_by : Bool → Match → Result Match Match
word_by fits m = let n = onward m 1 in cond fits (Ok n) (Err n)

-- A value on, put among the parts; an error, with 0 put there, where none is found.
abbrev pub value_by : (Match → Value → Match) → Match → Option Taken → Result Match Match
value_by put m o = elim o [ Some x ↦ Ok (onward (put m x.value) x.used) | None ↦ Err (put m zero_value) ]

-- What a slot takes of the next two tokens, put among the parts; an error where it takes nothing.
unfoldable pub slot_by : Match → Slot → Token → Token → Result Match Match
slot_by m (S.Is k) t u = word_by (eqb k t.key) m
slot_by m S.New t u = word_by (two_characters (name_of t.key)) (with_name m t.key)
slot_by m S.Target t u = word_by (user_name (name_of t.key)) (with_name m t.key)
slot_by m S.Written t u = word_by (variable_name (name_of t.key)) (with_written m t.key)
slot_by m S.Left t u = value_by with_left m (operand_by t u)
slot_by m S.Right t u = value_by with_right m (operand_by t u)
slot_by m S.Start t u = value_by with_start m (literal_by t u)
slot_by m S.Operator t u = word_by (is_operator (name_of t.key)) (with_operator m t.key)
slot_by m S.Comparison t u = word_by (is_comparison (name_of t.key)) (with_comparison m t.key)
slot_by m S.End t u = Ok m

-- No more slots.
unfoldable pub is_end : Slot → Bool
is_end (S.Is k) = false
is_end S.New = false
is_end S.Target = false
is_end S.Written = false
is_end S.Left = false
is_end S.Right = false
is_end S.Start = false
is_end S.Operator = false
is_end S.Comparison = false
is_end S.End = true

-- The slots of a form one after the other, until there are no more; an error where one takes nothing, with what was taken so far.
unfoldable pub fill_by : List Slot → List Token → Match → Result Match Match
fill_by [] ts m = Ok m
fill_by (s ∷ ss) ts m =
    let more : Result Match Match = elim (slot_by m s (token_at ts m.place) (token_at ts (m.place + 1))) [ Ok n ↦ fill_by ss ts n | Err n ↦ Err n ] in
    cond (is_end s) (Ok m) more

-- The slots of the 21 forms, six to a form.
unfoldable pub slot_table : List (List Slot)
slot_table =
    (S.Is 16972 ∷ S.New ∷ S.End ∷ S.End ∷ S.End ∷ S.End ∷ [])
    ∷ (S.Is 16726 ∷ S.New ∷ S.End ∷ S.End ∷ S.End ∷ S.End ∷ [])
    ∷ (S.Is 16726 ∷ S.New ∷ S.Is 61 ∷ S.Start ∷ S.End ∷ S.End ∷ [])
    ∷ (S.Written ∷ S.Is 61 ∷ S.Left ∷ S.End ∷ S.End ∷ S.End ∷ [])
    ∷ (S.Written ∷ S.Is 61 ∷ S.Left ∷ S.Operator ∷ S.Right ∷ S.End ∷ [])
    ∷ (S.Is 17225 ∷ S.Written ∷ S.End ∷ S.End ∷ S.End ∷ S.End ∷ [])
    ∷ (S.Is 17220 ∷ S.Written ∷ S.End ∷ S.End ∷ S.End ∷ S.End ∷ [])
    ∷ (S.Is 21058 ∷ S.Target ∷ S.End ∷ S.End ∷ S.End ∷ S.End ∷ [])
    ∷ (S.Is 21058 ∷ S.Target ∷ S.Is 44 ∷ S.Left ∷ S.Comparison ∷ S.Right ∷ [])
    ∷ (S.Is 19523 ∷ S.Target ∷ S.End ∷ S.End ∷ S.End ∷ S.End ∷ [])
    ∷ (S.Is 19523 ∷ S.Target ∷ S.Is 44 ∷ S.Left ∷ S.Comparison ∷ S.Right ∷ [])
    ∷ (S.Is 21586 ∷ S.End ∷ S.End ∷ S.End ∷ S.End ∷ S.End ∷ [])
    ∷ (S.Is 69 ∷ S.End ∷ S.End ∷ S.End ∷ S.End ∷ S.End ∷ [])
    ∷ (S.Is 72 ∷ S.End ∷ S.End ∷ S.End ∷ S.End ∷ S.End ∷ [])
    ∷ (S.Is 72 ∷ S.Left ∷ S.End ∷ S.End ∷ S.End ∷ S.End ∷ [])
    ∷ (S.Is 17743 ∷ S.Target ∷ S.End ∷ S.End ∷ S.End ∷ S.End ∷ [])
    ∷ (S.Is 17743 ∷ S.Is 48 ∷ S.End ∷ S.End ∷ S.End ∷ S.End ∷ [])
    ∷ (S.Is 16717 ∷ S.Left ∷ S.End ∷ S.End ∷ S.End ∷ S.End ∷ [])
    ∷ (S.Is 21069 ∷ S.Left ∷ S.End ∷ S.End ∷ S.End ∷ S.End ∷ [])
    ∷ (S.Is 19539 ∷ S.Left ∷ S.End ∷ S.End ∷ S.End ∷ S.End ∷ [])
    ∷ (S.Is 21072 ∷ S.Left ∷ S.End ∷ S.End ∷ S.End ∷ S.End ∷ [])
    ∷ []

unfoldable pub slots_of : ℕ → List Slot
slots_of form = get_or slot_table form []

-- The first form of a line by the key of its first token, that of an assignment where this is no mnemonic; and the one form that the tokens
-- may fill, which is the next one where they are too many for it, or where `0` follows OE.
unfoldable pub first_form : ℕ → ℕ
first_form first =
    cond (eqb first 16972) 0 (cond (eqb first 16726) 1 (cond (eqb first 17225) 5 (cond (eqb first 17220) 6 (cond (eqb first 21058) 7
    (cond (eqb first 19523) 9 (cond (eqb first 21586) 11 (cond (eqb first 69) 12 (cond (eqb first 72) 13 (cond (eqb first 17743) 15
    (cond (eqb first 16717) 17 (cond (eqb first 21069) 18 (cond (eqb first 19539) 19 (cond (eqb first 21072) 20 3)))))))))))))

abbrev pub longer_by : ℕ → ℕ → ℕ → Bool
longer_by form second count =
    cond ((eqb form 1 || eqb form 7) || eqb form 9) (ltb 2 count)
    (cond (eqb form 3) (ltb 4 count) (cond (eqb form 13) (ltb 1 count) (cond (eqb form 15) (eqb second 48) false)))

unfoldable pub form_for : ℕ → ℕ → ℕ → ℕ
form_for first second count = let form = first_form first in cond (longer_by form second count) (form + 1) form

-- The parts that a match took, as the paper has them.
abbrev pub parts_of : Match → Parts
parts_of m =
    parts (spelt m.name) (spelt m.written) (value_of m.left) (operator_by (name_of m.operator)) (comparison_by (name_of m.comparison))
    (value_of m.right) (start_of m.start)
