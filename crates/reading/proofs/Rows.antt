-- What the tokens of a line say by a form: the paper's line and the code's reading of it, form by form.
-- Assumes nothing.
use mathlib.Core.Path.{◌≡◌, refl, sym, ap, ap₂, ◌∙◌}
use mathlib.Core.Bool.{Bool, true, false, cond, ◌||◌, true≢false, or-false}
use mathlib.Core.List.{List, [], ◌∷◌}
use Prim.Native.Nat.{ℕ}
use lib.IntN.{ℤ, pos}
use Rattle.std.specs.Prelude.{Ok, Err}
use Rattle.numbers.specs.Bytes.{ascii, number}
use Rattle.numbers.specs.Tests.{any_of}
use Rattle.numbers.proofs.Truth.{neither, cond_yes, cond_no}
use Rattle.program.specs.Names.{Name, reserved}
use Rattle.program.specs.Code.{key, name_of}
use Rattle.program.specs.Cells as Cells
use Rattle.program.specs.Cells.{cell, cell_of, jump_of, no_target, operator_number, comparison_number}
use Rattle.program.specs.Statements as Said
use Rattle.program.specs.Statements.{Literal, Variable, Always, Compare, Statement, operands, writes, targets, compared, Set, SetWith, IC, DC, BR, CL, RT, E, H, Hold, OE, Disarm, MA, MR, SL, PR}
use Rattle.program.specs.declared.Operand.{Operand}
use Rattle.program.specs.declared.Operand.TheVariants as O
use Rattle.text.specs.Forms as Form
use Rattle.text.specs.Forms.{Line, Label, Declared, Acts, Parts, no_parts, forms, naming, starting, Is, New, Target, Written, Left, Right, Start, Operating, Comparing}
use Rattle.text.specs.Faults.{too_big, big_value, big_in, declares}
use Rattle.forms.specs.Code.{slot_table, slots_of}
use Rattle.reading.specs.Code.{form_numbers, small_of, operand_of, cell_shaped, selector_by, left_by, right_by, target_by, say_table, says_of, with_name, declared_by, says_by, any_big, parts_by, read_parts, Reading, said_by}
use Rattle.reading.specs.declared.Said.{Said}
use Rattle.reading.specs.declared.Said.TheVariants as S
use Rattle.reading.specs.declared.LineFault.TheVariants as E
use Rattle.reading.specs.declared.Says.TheVariants as F
use Rattle.reading.specs.declared.cells.Shape.{Shape}
use Rattle.reading.specs.declared.cells.Shape.TheVariants as H
use Rattle.text.proofs.Filled.{Filled, done, step, nothing, declared, aimed, wrote, on_the_left, on_the_right, started, operated, compares, Sound}
use Rattle.forms.proofs.Filling.{new, target, written, left, right, start, operator, comparison, fixed, Slots, end, rest, slot}

-- What a line that fills a form gives to read: a literal that is too big comes first, then a reserved name.
unfoldable pub line_reading : Line → Reading
line_reading x = cond (big_in x) (Err E.BigLiteral) (cond (any_of reserved (declares x)) (Err E.ReservedName) (Ok (said_by x)))

small_same : (z : ℤ) → too_big z ≡ false → small_of z ≡ z
unfolding small_of
small_same z e = rw e

small_operand : (x : Said.Value Name) → big_value x ≡ false → operand_of x ≡ Cells.operand_of key key x
unfolding operand_of big_value Cells.operand_of
small_operand (Literal z) e = ap O.Literal (small_same z e)
small_operand (Variable v) e = refl

-- A name is declared, unless it is reserved.
named_law : (says : ℕ → Said) (k : ℕ) (b : Bool) → with_name says (cond b (Err E.ReservedName) (Ok k)) ≡ cond (b || false) (Err E.ReservedName) (Ok (says k))
unfolding with_name
named_law says k true = refl
named_law says k false = refl

label_says_lem : (w : Name) → parts_by F.Label (naming no_parts w) ≡ line_reading (Label w)
unfolding parts_by says_by declared_by any_big big_value too_big small_of line_reading big_in declares any_of said_by
label_says_lem w = named_law S.Label (key w) (reserved w)

start_big : (w : Name) (z : ℤ) → any_big (starting (naming no_parts w) z) ≡ too_big z
unfolding any_big big_value too_big
start_big w z = refl

declared_says : (w : Name) (z : ℤ) → parts_by F.Declared (starting (naming no_parts w) z) ≡ line_reading (Declared w z)
unfolding parts_by says_by declared_by line_reading big_in declares any_of said_by
declared_says w z = pick (too_big z) refl
  where
    pick : (b : Bool) → too_big z ≡ b → parts_by F.Declared (starting (naming no_parts w) z) ≡ line_reading (Declared w z)
    pick true e = cond_yes (any_big (starting (naming no_parts w) z)) _ _ (start_big w z ∙ e) ∙ sym (cond_yes (too_big z) _ _ e)
    pick false e =
        cond_no (any_big (starting (naming no_parts w) z)) _ _ (start_big w z ∙ e)
        ∙ named_law (λ k. S.Declared k (small_of z)) (key w) (reserved w)
        ∙ ap (λ (y : ℤ). cond (reserved w || false) (Err E.ReservedName) (Ok (S.Declared (key w) y))) (small_same z e)
        ∙ sym (cond_no (too_big z) _ _ e)

acts_says : (o : ℕ) (shape : Shape) (p : Parts) (s : Statement Name) (b : Bool) → any_big p ≡ b → any_of big_value (operands s) ≡ b → (b ≡ false → cell_shaped o shape p ≡ cell_of key key s)
    → parts_by (F.Acts o shape) p ≡ line_reading (Acts s)
unfolding parts_by says_by line_reading big_in declares any_of said_by
acts_says o shape p s true e f g = rw (e, f)
acts_says o shape p s false e f g = rw (e, f, g refl)

-- Statements with one operand, and with two.
one_big : (x : Bool) → ((x || false) || false) ≡ (x || false)
one_big x = or-false (x || false)

two_big : (x y : Bool) → ((x || y) || false) ≡ (x || (y || false))
two_big true y = refl
two_big false y = refl

two_none : (x y : Bool) → (x || (y || false)) ≡ false → (x ≡ false) × (y ≡ false)
two_none true y e = absurd (true≢false e)
two_none false y e = (refl, (neither y false e).0)

module _ (o w : ℕ) (p : Parts) (x : Said.Value Name) (s : Statement Name) (e : any_big p ≡ ((big_value x || false) || false)) (f : operands s ≡ x ∷ [])
    (g : cell_shaped o H.One p ≡ cell o w 0 (operand_of x) O.Nothing 0) (h : cell_of key key s ≡ cell o w 0 (Cells.operand_of key key x) O.Nothing 0) where
  one_says : parts_by (F.Acts o H.One) p ≡ line_reading (Acts s)
  unfolding any_of
  one_says =
      acts_says o H.One p s (big_value x || false) (e ∙ one_big (big_value x)) (ap (any_of big_value) f)
      (λ b. g ∙ ap (λ (z : Operand). cell o w 0 z O.Nothing 0) (small_operand x (neither (big_value x) false b).0) ∙ sym h)

module _ (o w c k : ℕ) (p : Parts) (x y : Said.Value Name) (s : Statement Name) (e : any_big p ≡ ((big_value x || big_value y) || false)) (f : operands s ≡ x ∷ y ∷ [])
    (g : cell_shaped o H.Two p ≡ cell o w c (operand_of x) (operand_of y) k) (h : cell_of key key s ≡ cell o w c (Cells.operand_of key key x) (Cells.operand_of key key y) k) where
  two_says : parts_by (F.Acts o H.Two) p ≡ line_reading (Acts s)
  unfolding any_of
  two_says =
      acts_says o H.Two p s (big_value x || (big_value y || false)) (e ∙ two_big (big_value x) (big_value y)) (ap (any_of big_value) f)
      (λ b. let n = two_none (big_value x) (big_value y) b in g ∙ ap₂ (λ (z u : Operand). cell o w c z u k) (small_operand x n.0) (small_operand y n.1) ∙ sym h)

-- A form of the code and one of the paper, and all of them.
pub record Row (n : ℕ) (f : Form.Form) : Type 0 where
  pub slots : Slots (slots_of n) f.slots
  pub says : {q : Parts} → Filled f.slots no_parts q → read_parts n q ≡ line_reading (f.says q)
  pub sound : {q : Parts} → Filled f.slots no_parts q → Sound (f.says q)

pub data Rows : List ℕ → List Form.Form → Type 0 where
  last : Rows [] []
  next : {n : ℕ} {f : Form.Form} {ns : List ℕ} {fs : List Form.Form} → Row n f → Rows ns fs → Rows (n ∷ ns) (f ∷ fs)

says_lb : {q : Parts} → Filled (Is (ascii "LB") ∷ New ∷ []) no_parts q → read_parts 0 q ≡ line_reading (Label q.name)
unfolding read_parts says_of say_table
says_lb (step nothing (step (declared {w} _) done)) = label_says_lem w

sound_lb : {q : Parts} → Filled (Is (ascii "LB") ∷ New ∷ []) no_parts q → Sound (Label q.name)
sound_lb (step nothing (step (declared a) done)) = a

says_va : {q : Parts} → Filled (Is (ascii "VA") ∷ New ∷ []) no_parts q → read_parts 1 q ≡ line_reading (Declared q.name (pos 0))
unfolding read_parts says_of say_table
says_va (step nothing (step (declared {w} _) done)) = declared_says w (pos 0)

sound_va : {q : Parts} → Filled (Is (ascii "VA") ∷ New ∷ []) no_parts q → Sound (Declared q.name (pos 0))
sound_va (step nothing (step (declared a) done)) = a

says_va_start : {q : Parts} → Filled (Is (ascii "VA") ∷ New ∷ Is (ascii "=") ∷ Start ∷ []) no_parts q → read_parts 2 q ≡ line_reading (Declared q.name q.start)
unfolding read_parts says_of say_table
says_va_start (step nothing (step (declared {w} _) (step nothing (step (started {z}) done)))) = declared_says w z

sound_va_start : {q : Parts} → Filled (Is (ascii "VA") ∷ New ∷ Is (ascii "=") ∷ Start ∷ []) no_parts q → Sound (Declared q.name q.start)
sound_va_start (step nothing (step (declared a) (step nothing (step started done)))) = a

says_set : {q : Parts} → Filled (Written ∷ Is (ascii "=") ∷ Left ∷ []) no_parts q → read_parts 3 q ≡ line_reading (Acts (Set q.written q.left))
unfolding read_parts says_of say_table any_big big_value too_big any_of operands compared cell_shaped selector_by left_by right_by target_by cell_of jump_of no_target key number
says_set (step (wrote {v} _) (step nothing (step (on_the_left {x} _) done))) = one_says 1 (key v) _ x (Set v x) refl refl refl refl

sound_set : {q : Parts} → Filled (Written ∷ Is (ascii "=") ∷ Left ∷ []) no_parts q → Sound (Acts (Set q.written q.left))
unfolding targets writes operands compared
sound_set (step (wrote b) (step nothing (step (on_the_left d) done))) = record { aims = tt; sets = (b, tt); reads = (d, tt) }

says_set_with : {q : Parts} → Filled (Written ∷ Is (ascii "=") ∷ Left ∷ Operating ∷ Right ∷ []) no_parts q → read_parts 4 q ≡ line_reading (Acts (SetWith q.written q.left q.operator q.right))
unfolding read_parts says_of say_table any_big big_value too_big any_of operands compared cell_shaped selector_by left_by right_by target_by cell_of jump_of no_target key number
says_set_with (step (wrote {v} _) (step nothing (step (on_the_left {x} _) (step (operated {o}) (step (on_the_right {y} _) done))))) = two_says 2 (key v) (operator_number o) 0 _ x y (SetWith v x o y) refl refl refl refl

sound_set_with : {q : Parts} → Filled (Written ∷ Is (ascii "=") ∷ Left ∷ Operating ∷ Right ∷ []) no_parts q → Sound (Acts (SetWith q.written q.left q.operator q.right))
unfolding targets writes operands compared
sound_set_with (step (wrote b) (step nothing (step (on_the_left d) (step operated (step (on_the_right e) done))))) = record { aims = tt; sets = (b, tt); reads = (d, (e, tt)) }

says_ic : {q : Parts} → Filled (Is (ascii "IC") ∷ Written ∷ []) no_parts q → read_parts 5 q ≡ line_reading (Acts (IC q.written))
unfolding read_parts says_of say_table any_big big_value too_big any_of operands compared cell_shaped selector_by left_by right_by target_by cell_of jump_of no_target key number
says_ic (step nothing (step (wrote {v} _) done)) = acts_says 3 H.NoOperand _ (IC v) false refl refl (λ b. refl)

sound_ic : {q : Parts} → Filled (Is (ascii "IC") ∷ Written ∷ []) no_parts q → Sound (Acts (IC q.written))
unfolding targets writes operands compared
sound_ic (step nothing (step (wrote b) done)) = record { aims = tt; sets = (b, tt); reads = tt }

says_dc : {q : Parts} → Filled (Is (ascii "DC") ∷ Written ∷ []) no_parts q → read_parts 6 q ≡ line_reading (Acts (DC q.written))
unfolding read_parts says_of say_table any_big big_value too_big any_of operands compared cell_shaped selector_by left_by right_by target_by cell_of jump_of no_target key number
says_dc (step nothing (step (wrote {v} _) done)) = acts_says 4 H.NoOperand _ (DC v) false refl refl (λ b. refl)

sound_dc : {q : Parts} → Filled (Is (ascii "DC") ∷ Written ∷ []) no_parts q → Sound (Acts (DC q.written))
unfolding targets writes operands compared
sound_dc (step nothing (step (wrote b) done)) = record { aims = tt; sets = (b, tt); reads = tt }

says_br : {q : Parts} → Filled (Is (ascii "BR") ∷ Target ∷ []) no_parts q → read_parts 7 q ≡ line_reading (Acts (BR q.name Always))
unfolding read_parts says_of say_table any_big big_value too_big any_of operands compared cell_shaped selector_by left_by right_by target_by cell_of jump_of no_target key number
says_br (step nothing (step (aimed {w} _) done)) = acts_says 5 H.NoOperand _ (BR w Always) false refl refl (λ b. refl)

sound_br : {q : Parts} → Filled (Is (ascii "BR") ∷ Target ∷ []) no_parts q → Sound (Acts (BR q.name Always))
unfolding targets writes operands compared
sound_br (step nothing (step (aimed a) done)) = record { aims = (a, tt); sets = tt; reads = tt }

says_br_if : {q : Parts} → Filled (Is (ascii "BR") ∷ Target ∷ Is (ascii ",") ∷ Left ∷ Comparing ∷ Right ∷ []) no_parts q → read_parts 8 q ≡ line_reading (Acts (BR q.name (Compare q.left q.comparison q.right)))
unfolding read_parts says_of say_table any_big big_value too_big any_of operands compared cell_shaped selector_by left_by right_by target_by cell_of jump_of no_target key number
says_br_if (step nothing (step (aimed {w} _) (step nothing (step (on_the_left {x} _) (step (compares {c}) (step (on_the_right {y} _) done)))))) = two_says 5 0 (comparison_number c) (key w) _ x y (BR w (Compare x c y)) refl refl refl refl

sound_br_if : {q : Parts} → Filled (Is (ascii "BR") ∷ Target ∷ Is (ascii ",") ∷ Left ∷ Comparing ∷ Right ∷ []) no_parts q → Sound (Acts (BR q.name (Compare q.left q.comparison q.right)))
unfolding targets writes operands compared
sound_br_if (step nothing (step (aimed a) (step nothing (step (on_the_left d) (step compares (step (on_the_right e) done)))))) = record { aims = (a, tt); sets = tt; reads = (d, (e, tt)) }

says_cl : {q : Parts} → Filled (Is (ascii "CL") ∷ Target ∷ []) no_parts q → read_parts 9 q ≡ line_reading (Acts (CL q.name Always))
unfolding read_parts says_of say_table any_big big_value too_big any_of operands compared cell_shaped selector_by left_by right_by target_by cell_of jump_of no_target key number
says_cl (step nothing (step (aimed {w} _) done)) = acts_says 6 H.NoOperand _ (CL w Always) false refl refl (λ b. refl)

sound_cl : {q : Parts} → Filled (Is (ascii "CL") ∷ Target ∷ []) no_parts q → Sound (Acts (CL q.name Always))
unfolding targets writes operands compared
sound_cl (step nothing (step (aimed a) done)) = record { aims = (a, tt); sets = tt; reads = tt }

says_cl_if : {q : Parts} → Filled (Is (ascii "CL") ∷ Target ∷ Is (ascii ",") ∷ Left ∷ Comparing ∷ Right ∷ []) no_parts q → read_parts 10 q ≡ line_reading (Acts (CL q.name (Compare q.left q.comparison q.right)))
unfolding read_parts says_of say_table any_big big_value too_big any_of operands compared cell_shaped selector_by left_by right_by target_by cell_of jump_of no_target key number
says_cl_if (step nothing (step (aimed {w} _) (step nothing (step (on_the_left {x} _) (step (compares {c}) (step (on_the_right {y} _) done)))))) = two_says 6 0 (comparison_number c) (key w) _ x y (CL w (Compare x c y)) refl refl refl refl

sound_cl_if : {q : Parts} → Filled (Is (ascii "CL") ∷ Target ∷ Is (ascii ",") ∷ Left ∷ Comparing ∷ Right ∷ []) no_parts q → Sound (Acts (CL q.name (Compare q.left q.comparison q.right)))
unfolding targets writes operands compared
sound_cl_if (step nothing (step (aimed a) (step nothing (step (on_the_left d) (step compares (step (on_the_right e) done)))))) = record { aims = (a, tt); sets = tt; reads = (d, (e, tt)) }

says_rt : {q : Parts} → Filled (Is (ascii "RT") ∷ []) no_parts q → read_parts 11 q ≡ line_reading (Acts RT)
unfolding read_parts says_of say_table any_big big_value too_big any_of operands compared cell_shaped selector_by left_by right_by target_by cell_of jump_of no_target key number
says_rt (step nothing done) = acts_says 7 H.NoOperand _ RT false refl refl (λ b. refl)

sound_rt : {q : Parts} → Filled (Is (ascii "RT") ∷ []) no_parts q → Sound (Acts RT)
unfolding targets writes operands compared
sound_rt (step nothing done) = record { aims = tt; sets = tt; reads = tt }

says_e : {q : Parts} → Filled (Is (ascii "E") ∷ []) no_parts q → read_parts 12 q ≡ line_reading (Acts E)
unfolding read_parts says_of say_table any_big big_value too_big any_of operands compared cell_shaped selector_by left_by right_by target_by cell_of jump_of no_target key number
says_e (step nothing done) = acts_says 8 H.NoOperand _ E false refl refl (λ b. refl)

sound_e : {q : Parts} → Filled (Is (ascii "E") ∷ []) no_parts q → Sound (Acts E)
unfolding targets writes operands compared
sound_e (step nothing done) = record { aims = tt; sets = tt; reads = tt }

says_h : {q : Parts} → Filled (Is (ascii "H") ∷ []) no_parts q → read_parts 13 q ≡ line_reading (Acts H)
unfolding read_parts says_of say_table any_big big_value too_big any_of operands compared cell_shaped selector_by left_by right_by target_by cell_of jump_of no_target key number
says_h (step nothing done) = acts_says 9 H.NoOperand _ H false refl refl (λ b. refl)

sound_h : {q : Parts} → Filled (Is (ascii "H") ∷ []) no_parts q → Sound (Acts H)
unfolding targets writes operands compared
sound_h (step nothing done) = record { aims = tt; sets = tt; reads = tt }

says_hold : {q : Parts} → Filled (Is (ascii "H") ∷ Left ∷ []) no_parts q → read_parts 14 q ≡ line_reading (Acts (Hold q.left))
unfolding read_parts says_of say_table any_big big_value too_big any_of operands compared cell_shaped selector_by left_by right_by target_by cell_of jump_of no_target key number
says_hold (step nothing (step (on_the_left {x} _) done)) = one_says 9 0 _ x (Hold x) refl refl refl refl

sound_hold : {q : Parts} → Filled (Is (ascii "H") ∷ Left ∷ []) no_parts q → Sound (Acts (Hold q.left))
unfolding targets writes operands compared
sound_hold (step nothing (step (on_the_left d) done)) = record { aims = tt; sets = tt; reads = (d, tt) }

says_oe : {q : Parts} → Filled (Is (ascii "OE") ∷ Target ∷ []) no_parts q → read_parts 15 q ≡ line_reading (Acts (OE q.name))
unfolding read_parts says_of say_table any_big big_value too_big any_of operands compared cell_shaped selector_by left_by right_by target_by cell_of jump_of no_target key number
says_oe (step nothing (step (aimed {w} _) done)) = acts_says 10 H.NoOperand _ (OE w) false refl refl (λ b. refl)

sound_oe : {q : Parts} → Filled (Is (ascii "OE") ∷ Target ∷ []) no_parts q → Sound (Acts (OE q.name))
unfolding targets writes operands compared
sound_oe (step nothing (step (aimed a) done)) = record { aims = (a, tt); sets = tt; reads = tt }

says_disarm : {q : Parts} → Filled (Is (ascii "OE") ∷ Is (ascii "0") ∷ []) no_parts q → read_parts 16 q ≡ line_reading (Acts Disarm)
unfolding read_parts says_of say_table any_big big_value too_big any_of operands compared cell_shaped selector_by left_by right_by target_by cell_of jump_of no_target key number
says_disarm (step nothing (step nothing done)) = acts_says 10 H.NoTarget _ Disarm false refl refl (λ b. refl)

sound_disarm : {q : Parts} → Filled (Is (ascii "OE") ∷ Is (ascii "0") ∷ []) no_parts q → Sound (Acts Disarm)
unfolding targets writes operands compared
sound_disarm (step nothing (step nothing done)) = record { aims = tt; sets = tt; reads = tt }

says_ma : {q : Parts} → Filled (Is (ascii "MA") ∷ Left ∷ []) no_parts q → read_parts 17 q ≡ line_reading (Acts (MA q.left))
unfolding read_parts says_of say_table any_big big_value too_big any_of operands compared cell_shaped selector_by left_by right_by target_by cell_of jump_of no_target key number
says_ma (step nothing (step (on_the_left {x} _) done)) = one_says 11 0 _ x (MA x) refl refl refl refl

sound_ma : {q : Parts} → Filled (Is (ascii "MA") ∷ Left ∷ []) no_parts q → Sound (Acts (MA q.left))
unfolding targets writes operands compared
sound_ma (step nothing (step (on_the_left d) done)) = record { aims = tt; sets = tt; reads = (d, tt) }

says_mr : {q : Parts} → Filled (Is (ascii "MR") ∷ Left ∷ []) no_parts q → read_parts 18 q ≡ line_reading (Acts (MR q.left))
unfolding read_parts says_of say_table any_big big_value too_big any_of operands compared cell_shaped selector_by left_by right_by target_by cell_of jump_of no_target key number
says_mr (step nothing (step (on_the_left {x} _) done)) = one_says 12 0 _ x (MR x) refl refl refl refl

sound_mr : {q : Parts} → Filled (Is (ascii "MR") ∷ Left ∷ []) no_parts q → Sound (Acts (MR q.left))
unfolding targets writes operands compared
sound_mr (step nothing (step (on_the_left d) done)) = record { aims = tt; sets = tt; reads = (d, tt) }

says_sl : {q : Parts} → Filled (Is (ascii "SL") ∷ Left ∷ []) no_parts q → read_parts 19 q ≡ line_reading (Acts (SL q.left))
unfolding read_parts says_of say_table any_big big_value too_big any_of operands compared cell_shaped selector_by left_by right_by target_by cell_of jump_of no_target key number
says_sl (step nothing (step (on_the_left {x} _) done)) = one_says 13 0 _ x (SL x) refl refl refl refl

sound_sl : {q : Parts} → Filled (Is (ascii "SL") ∷ Left ∷ []) no_parts q → Sound (Acts (SL q.left))
unfolding targets writes operands compared
sound_sl (step nothing (step (on_the_left d) done)) = record { aims = tt; sets = tt; reads = (d, tt) }

says_pr : {q : Parts} → Filled (Is (ascii "PR") ∷ Left ∷ []) no_parts q → read_parts 20 q ≡ line_reading (Acts (PR q.left))
unfolding read_parts says_of say_table any_big big_value too_big any_of operands compared cell_shaped selector_by left_by right_by target_by cell_of jump_of no_target key number
says_pr (step nothing (step (on_the_left {x} _) done)) = one_says 14 0 _ x (PR x) refl refl refl refl

sound_pr : {q : Parts} → Filled (Is (ascii "PR") ∷ Left ∷ []) no_parts q → Sound (Acts (PR q.left))
unfolding targets writes operands compared
sound_pr (step nothing (step (on_the_left d) done)) = record { aims = tt; sets = tt; reads = (d, tt) }

pub rows : Rows (form_numbers 21 0) forms
unfolding form_numbers forms slots_of slot_table ascii name_of
rows =
    (next (record { slots = slot (fixed 16972 tt) (slot new rest); says = says_lb; sound = sound_lb })
    (next (record { slots = slot (fixed 16726 tt) (slot new rest); says = says_va; sound = sound_va })
    (next (record { slots = slot (fixed 16726 tt) (slot new (slot (fixed 61 tt) (slot start rest))); says = says_va_start; sound = sound_va_start })
    (next (record { slots = slot written (slot (fixed 61 tt) (slot left rest)); says = says_set; sound = sound_set })
    (next (record { slots = slot written (slot (fixed 61 tt) (slot left (slot operator (slot right rest)))); says = says_set_with; sound = sound_set_with })
    (next (record { slots = slot (fixed 17225 tt) (slot written rest); says = says_ic; sound = sound_ic })
    (next (record { slots = slot (fixed 17220 tt) (slot written rest); says = says_dc; sound = sound_dc })
    (next (record { slots = slot (fixed 21058 tt) (slot target rest); says = says_br; sound = sound_br })
    (next (record { slots = slot (fixed 21058 tt) (slot target (slot (fixed 44 tt) (slot left (slot comparison (slot right end))))); says = says_br_if; sound = sound_br_if })
    (next (record { slots = slot (fixed 19523 tt) (slot target rest); says = says_cl; sound = sound_cl })
    (next (record { slots = slot (fixed 19523 tt) (slot target (slot (fixed 44 tt) (slot left (slot comparison (slot right end))))); says = says_cl_if; sound = sound_cl_if })
    (next (record { slots = slot (fixed 21586 tt) rest; says = says_rt; sound = sound_rt })
    (next (record { slots = slot (fixed 69 tt) rest; says = says_e; sound = sound_e })
    (next (record { slots = slot (fixed 72 tt) rest; says = says_h; sound = sound_h })
    (next (record { slots = slot (fixed 72 tt) (slot left rest); says = says_hold; sound = sound_hold })
    (next (record { slots = slot (fixed 17743 tt) (slot target rest); says = says_oe; sound = sound_oe })
    (next (record { slots = slot (fixed 17743 tt) (slot (fixed 48 tt) rest); says = says_disarm; sound = sound_disarm })
    (next (record { slots = slot (fixed 16717 tt) (slot left rest); says = says_ma; sound = sound_ma })
    (next (record { slots = slot (fixed 21069 tt) (slot left rest); says = says_mr; sound = sound_mr })
    (next (record { slots = slot (fixed 19539 tt) (slot left rest); says = says_sl; sound = sound_sl })
    (next (record { slots = slot (fixed 21072 tt) (slot left rest); says = says_pr; sound = sound_pr })
    last)))))))))))))))))))))
