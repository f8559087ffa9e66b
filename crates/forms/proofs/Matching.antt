-- What the functions that match tokens with forms need of their values.
-- Assumes nothing.
use mathlib.Core.Path.{◌≡◌, refl, sym, subst, ◌∙◌}
use mathlib.Core.Bool.{Bool, true, false, cond, ◌&&◌}
use mathlib.Core.List.{List, [], ◌∷◌}
use Prim.Native.Nat.{ℕ, zero, suc, ◌+◌, ◌≤◌, ◌<◌}
use native.Mathlib.Nat.{not-suc-le-zero, le_of_suc-le-suc}
use native.Mathlib.Numerals.{add-one}
use native.Mathlib.Omega.{arith}
use lib.Dec.{T, eqb, eqb→eq}
use lib.ListN.{length, drop, get_or, drop_of_length-le}
use lib.Seq.{drop-cons}
use Rattle.std.specs.Prelude.{Option, Some, None, IfSome, Result, Ok, Err, IfOk}
use Rattle.std.proofs.lemmas.Result.{IfOk-at_ok}
use Rattle.numbers.specs.Tests.{all_of}
use Rattle.program.specs.Names.{two_characters, user_name}
use Rattle.program.specs.Code.{name_of}
use Rattle.numbers.proofs.Truth.{both, of_both}
use Rattle.text.specs.Forms.{variable_name}
use Rattle.text.specs.Code.{token_at, is_operator, is_comparison}
use Rattle.forms.specs.Code.{taken, literal_by, variable_by, operand_by, with_name, with_written, with_operator, with_comparison, with_left, with_right, with_start, value_by, word_by, slot_by, is_end, fill_by, slot_table, slots_of}
use Rattle.text.specs.declared.tokens.Token.{Token}
use Rattle.forms.specs.declared.Slot.{Slot}
use Rattle.forms.specs.declared.Slot.TheVariants as S
use Rattle.forms.specs.declared.Value.{Value}
use Rattle.forms.specs.declared.Value.TheVariants as Val
use Rattle.forms.specs.declared.Taken.{Taken}
use Rattle.forms.specs.declared.Match.{Match}

-- So many tokens are taken, from one to two.
abbrev pub Uses : ℕ → Taken → Type 0
Uses n x = (1 ≤ x.used) × (x.used ≤ n)

pub literal_used : (t u : Token) → IfSome (literal_by t u) (Uses 2)
unfolding literal_by
literal_used t u = pick t.value (eqb t.key 45 && t.glued) u.value
  where
    pick : (a : Option ℕ) (x : Bool) (b : Option ℕ)
        → IfSome (elim a [ Some v ↦ Some (taken 1 (Val.Literal false v)) | None ↦ cond x (elim b [ Some v ↦ Some (taken 2 (Val.Literal true v)) | None ↦ None ]) None ]) (Uses 2)
    pick (Some v) x b = (omega arith, omega arith)
    pick None true (Some v) = (omega arith, omega arith)
    pick None true None = tt
    pick None false b = tt

variable_used : (k : ℕ) → IfSome (variable_by k) (Uses 2)
unfolding variable_by
variable_used k = of_both (λ o. IfSome o (Uses 2)) (variable_name (name_of k)) (omega arith, omega arith) tt

pub operand_used : (t u : Token) → IfSome (operand_by t u) (Uses 2)
unfolding operand_by
operand_used t u = pick (literal_by t u) (literal_used t u)
  where
    pick : (o : Option Taken) → IfSome o (Uses 2) → IfSome (elim o [ Some x ↦ Some x | None ↦ variable_by t.key ]) (Uses 2)
    pick (Some x) h = h
    pick None h = variable_used t.key

pub found_small : {o r : Option Taken} {x : Taken} → IfSome o (Uses 2) → r ≡ o → r ≡ Some x → x.used < 64
found_small {o} {r} {x} h p q = let k : IfSome (Some x) (Uses 2) = subst (λ o. IfSome o (Uses 2)) (sym p ∙ q) h in omega (arith, k.1)

not_end : (s : Slot) → (s ≡ S.End → ⊥) → is_end s ≡ false
unfolding is_end
not_end (S.Is k) h = refl
not_end S.New h = refl
not_end S.Target h = refl
not_end S.Written h = refl
not_end S.Left h = refl
not_end S.Right h = refl
not_end S.Start h = refl
not_end S.Operator h = refl
not_end S.Comparison h = refl
not_end S.End h = absurd (h refl)

-- An operand: a literal, or else a variable.
pub operand_literal : (t u : Token) {o : Option Taken} {x : Taken} → o ≡ literal_by t u → o ≡ Some x → Some x ≡ operand_by t u
unfolding operand_by
operand_literal t u {o} {x} p q = rw (operand_by, sym p ∙ q)

pub operand_variable : (t u : Token) {o v : Option Taken} → o ≡ literal_by t u → o ≡ None → v ≡ variable_by t.key → v ≡ operand_by t u
unfolding operand_by
operand_variable t u {o} {v} p q r = rw (operand_by, sym p ∙ q) r

-- How many tokens a slot takes at least and at most.
unfoldable pub least : Slot → ℕ
least s = cond (is_end s) 0 1

unfoldable pub width : Slot → ℕ
width (S.Is k) = 1
width S.New = 1
width S.Target = 1
width S.Written = 1
width S.Left = 2
width S.Right = 2
width S.Start = 2
width S.Operator = 1
width S.Comparison = 1
width S.End = 0

width_most : (s : Slot) → width s ≤ 2
unfolding width
width_most (S.Is k) = omega arith
width_most S.New = omega arith
width_most S.Target = omega arith
width_most S.Written = omega arith
width_most S.Left = omega arith
width_most S.Right = omega arith
width_most S.Start = omega arith
width_most S.Operator = omega arith
width_most S.Comparison = omega arith
width_most S.End = omega arith

abbrev pub Moves : Match → ℕ → ℕ → Match → Type 0
Moves m low high n = (m.place + low ≤ n.place) × (n.place ≤ m.place + high)

word_moves : (b : Bool) (m : Match) → IfOk (word_by b m) (Moves m 1 1)
unfolding word_by
word_moves true m = (omega arith, omega arith)
word_moves false m = tt

value_moves : (put : Match → Value → Match) (m : Match) (o : Option Taken) → ((v : Value) → (put m v).place ≡ m.place) → IfSome o (Uses 2)
    → IfOk (value_by put m o) (Moves m 1 2)
value_moves put m None e h = tt
value_moves put m (Some x) e h = let p = e x.value in (omega (arith, h.0), omega (arith, h.1))

pub slot_moves : (m : Match) (s : Slot) (t u : Token) → IfOk (slot_by m s t u) (Moves m (least s) (width s))
unfolding slot_by is_end least width
slot_moves m (S.Is k) t u = word_moves (eqb k t.key) m
slot_moves m S.New t u = word_moves (two_characters (name_of t.key)) (with_name m t.key)
slot_moves m S.Target t u = word_moves (user_name (name_of t.key)) (with_name m t.key)
slot_moves m S.Written t u = word_moves (variable_name (name_of t.key)) (with_written m t.key)
slot_moves m S.Left t u = value_moves with_left m (operand_by t u) (λ v. refl) (operand_used t u)
slot_moves m S.Right t u = value_moves with_right m (operand_by t u) (λ v. refl) (operand_used t u)
slot_moves m S.Start t u = value_moves with_start m (literal_by t u) (λ v. refl) (literal_used t u)
slot_moves m S.Operator t u = word_moves (is_operator (name_of t.key)) (with_operator m t.key)
slot_moves m S.Comparison t u = word_moves (is_comparison (name_of t.key)) (with_comparison m t.key)
slot_moves m S.End t u = (omega arith, omega arith)

pub slot_place : (m : Match) (s : Slot) (t u : Token) {o : Result Match Match} {n : Match} → o ≡ slot_by m s t u → o ≡ Ok n → n.place ≤ m.place + 2
slot_place m s t u {o} {n} p q =
    let h = IfOk-at_ok (Moves m (least s) (width s)) (sym p ∙ q) (slot_moves m s t u) in
    omega (arith, h.1, width_most s)

-- The slots one after the other.
module _ (ts : List Token) (m : Match) where
  pub fill_over : (l : List Slot) (k : ℕ) (d : Slot) → k < length l → get_or l k d ≡ S.End → Ok m ≡ fill_by (drop k l) ts m
  unfolding fill_by is_end
  fill_over l k d h p = rw (drop-cons l k d h, p)

  -- What is left to fill behind a slot.
  abbrev pub then : List Slot → Result Match Match → Result Match Match
  then ss o = elim o [ Ok n ↦ fill_by ss ts n | Err n ↦ Err n ]

  pub fill_step : (s : Slot) (ss : List Slot) → is_end s ≡ false → fill_by (s ∷ ss) ts m ≡ then ss (slot_by m s (token_at ts m.place) (token_at ts (m.place + 1)))
  unfolding fill_by
  fill_step s ss e = rw e

  pub fill_more : (l : List Slot) (k : ℕ) (d : Slot) {o r : Result Match Match} → k < length l → (get_or l k d ≡ S.End → ⊥)
      → o ≡ slot_by m (get_or l k d) (token_at ts m.place) (token_at ts (m.place + 1)) → o ≡ r
      → then (drop (k + 1) l) r ≡ fill_by (drop k l) ts m
  fill_more l k d h n p q =
      rw (← q, p, add-one, drop-cons l k d h) (sym (fill_step (get_or l k d) (drop (suc k) l) (not_end (get_or l k d) n)))

-- Six slots to a form, and none is left behind them.
each_at : (P : List Slot → Bool) (ls : List (List Slot)) → T (all_of P ls) → (i : ℕ) → i < length ls → T (P (get_or ls i []))
unfolding all_of
each_at P [] a i h = absurd (not-suc-le-zero h)
each_at P (l ∷ ls) a zero h = (both (P l) (all_of P ls) a).0
each_at P (l ∷ ls) a (suc i) h = each_at P ls (both (P l) (all_of P ls) a).1 i (le_of_suc-le-suc h)

pub slots_length : (form : ℕ) → form < 21 → length (slots_of form) ≡ 6
unfolding slots_of slot_table all_of
slots_length form h = eqb→eq (length (slots_of form)) 6 (each_at (λ l. eqb (length l) 6) slot_table tt form h)

pub fill_end : (ts : List Token) (m : Match) (l : List Slot) (k : ℕ) → length l ≤ k → fill_by (drop k l) ts m ≡ Ok m
unfolding fill_by
fill_end ts m l k h = rw (drop_of_length-le l h)
