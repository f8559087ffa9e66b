-- Which row of the table of forms the tokens of a printed line fill, and what it says.
-- Assumes nothing.
use mathlib.Core.Path.{◌≡◌, refl, ◌∙◌}
use mathlib.Core.Bool.{Bool, false}
use mathlib.Core.List.{List, [], ◌∷◌}
use mathlib.Core.Option.{none, some}
use lib.Dec.{T}
use lib.IntN.{ℤ, pos, negsuc}
use lib.ListN.{drop}
use Rattle.numbers.specs.Bytes.{ascii}
use Rattle.numbers.specs.Tests.{eq_list, numbered}
use Rattle.numbers.proofs.Tests.{eq_list_refl}
use Rattle.numbers.proofs.Truth.{is_true}
use Rattle.program.specs.Names.{Name, letter, digit, word_character, two_characters, user_name, paper_variable, paper_word, mnemonics, variable_names}
use Rattle.program.specs.Variables.{in_range, literals}
use Rattle.program.specs.Statements.{Value, Literal, Variable, Condition, Always, Compare, Statement, Set, SetWith, IC, DC, BR, CL, H, Hold, OE, Disarm, MA, MR, SL, PR, Operator, Comparison}
use Rattle.text.specs.Tokens.{Token}
use Rattle.text.specs.Forms.{Label, Declared, Acts, operator_sign, comparison_sign, variable_name, Slot, Is, New, Target, Written, Left, Right, Start, Operating, Comparing, Parts, no_parts, naming, writing, on_left, operating, comparing, on_right, starting, put, word, sign, takes, fill, Form, form, forms, by_form, statement}
use Rattle.listing.proofs.Tokens.{token}
use Rattle.listing.proofs.Literals.{literal_tokens, literal_read}
use Rattle.listing.proofs.Values.{Sound, value_tokens, operand_read, variable_is_not}
use Rattle.listing.proofs.Signs.{operator_meant_lem, comparison_meant_lem}

-- The first row of a table: filled, or passed over.
module _ (f : Form) (fs : List Form) (ts : List Token) where
  row_filled : (p : Parts) → fill f.slots ts no_parts ≡ some p → by_form (f ∷ fs) ts ≡ some (f.says p)
  unfolding by_form
  row_filled p e = rw (by_form, e)

  row_passed : fill f.slots ts no_parts ≡ none → by_form (f ∷ fs) ts ≡ by_form fs ts
  unfolding by_form
  row_passed e = rw (by_form, e)

-- One place after the other.
module _ (ss : List Slot) (p : Parts) where
  fill_left : (x : Value Name) (g : Bool) (ts : List Token) → Sound x → fill (Left ∷ ss) (value_tokens x g ts) p ≡ fill ss ts (on_left p x)
  unfolding fill takes put
  fill_left x g ts h = rw (fill, takes, put, operand_read x g ts h)

  fill_right : (x : Value Name) (g : Bool) (ts : List Token) → Sound x → fill (Right ∷ ss) (value_tokens x g ts) p ≡ fill ss ts (on_right p x)
  unfolding fill takes put
  fill_right x g ts h = rw (fill, takes, put, operand_read x g ts h)

  fill_start : (z : ℤ) (g : Bool) (ts : List Token) → T (in_range literals z) → fill (Start ∷ ss) (literal_tokens z g ts) p ≡ fill ss ts (starting p z)
  unfolding fill takes put
  fill_start z g ts h = rw (fill, takes, put, literal_read z g ts h)

  fill_new : (w : Name) (g : Bool) (ts : List Token) → T (two_characters w) → fill (New ∷ ss) (token w g ∷ ts) p ≡ fill ss ts (naming p w)
  unfolding fill takes put word
  fill_new w g ts h = rw (fill, is_true (two_characters w) h)

  fill_target : (w : Name) (g : Bool) (ts : List Token) → T (user_name w) → fill (Target ∷ ss) (token w g ∷ ts) p ≡ fill ss ts (naming p w)
  unfolding fill takes put word
  fill_target w g ts h = rw (fill, is_true (user_name w) h)

  fill_written : (w : Name) (g : Bool) (ts : List Token) → T (variable_name w) → fill (Written ∷ ss) (token w g ∷ ts) p ≡ fill ss ts (writing p w)
  unfolding fill takes put word
  fill_written w g ts h = rw (fill, is_true (variable_name w) h)

  fill_other : (w m : Name) (g : Bool) (ts : List Token) → eq_list w m ≡ false → fill (Is m ∷ ss) (token w g ∷ ts) p ≡ none
  unfolding fill takes put word
  fill_other w m g ts e = rw (fill, e)

  fill_is : (w : Name) (g : Bool) (ts : List Token) → fill (Is w ∷ ss) (token w g ∷ ts) p ≡ fill ss ts p
  unfolding fill takes put word
  fill_is w g ts = rw (fill, is_true (eq_list w w) (eq_list_refl w))

  -- A sign by what it stands for.
  fill_operator : (o : Operator) (g : Bool) (ts : List Token) → fill (Operating ∷ ss) (token (operator_sign o) g ∷ ts) p ≡ fill ss ts (operating p o)
  unfolding fill takes put sign
  fill_operator o g ts = rw (fill, operator_meant_lem o)

  fill_comparison : (c : Comparison) (g : Bool) (ts : List Token) → fill (Comparing ∷ ss) (token (comparison_sign c) g ∷ ts) p ≡ fill ss ts (comparing p c)
  unfolding fill takes put sign
  fill_comparison c g ts = rw (fill, comparison_meant_lem c)

-- An operand left over.
fill_over : (x : Value Name) (g : Bool) (ts : List Token) (p : Parts) → fill [] (value_tokens x g ts) p ≡ none
unfolding fill
fill_over (Literal (pos n)) g ts p = refl
fill_over (Literal (negsuc n)) g ts p = refl
fill_over (Variable w) g ts p = refl

-- All that the table of forms computes with.
unfoldable pub table : Unit {0}
unfolding statement by_form forms fill takes put word eq_list ascii variable_name paper_variable variable_names user_name two_characters paper_word mnemonics numbered letter word_character digit
table = tt

-- The two rows of BR and of CL, behind the mnemonic.
abbrev jump_rows : (Name → Condition Name → Statement Name) → List Form
jump_rows jump =
    form (Target ∷ []) (λ p. Acts (jump p.name Always))
    ∷ form (Target ∷ Is (ascii ",") ∷ Left ∷ Comparing ∷ Right ∷ []) (λ p. Acts (jump p.name (Compare p.left p.comparison p.right)))
    ∷ []

-- The row of one operand, behind the mnemonic.
abbrev left_row : (Value Name → Statement Name) → Form
left_row act = form (Left ∷ []) (λ p. Acts (act p.left))

-- The row of one variable to write, behind the mnemonic.
abbrev written_row : (Name → Statement Name) → Form
written_row act = form (Written ∷ []) (λ p. Acts (act p.written))

-- What is left of the table behind a mnemonic.
module _ (g : Bool) (ts : List Token) where
  rows_lb : statement (token (ascii "LB") g ∷ ts) ≡ by_form (form (New ∷ []) (λ p. Label p.name) ∷ []) ts
  unfolding table
  rows_lb = refl

  rows_va : statement (token (ascii "VA") g ∷ ts) ≡ by_form (form (New ∷ []) (λ p. Declared p.name (pos 0)) ∷ form (New ∷ Is (ascii "=") ∷ Start ∷ []) (λ p. Declared p.name p.start) ∷ []) ts
  unfolding table
  rows_va = refl

  rows_ic : statement (token (ascii "IC") g ∷ ts) ≡ by_form (written_row IC ∷ []) ts
  unfolding table
  rows_ic = refl

  rows_dc : statement (token (ascii "DC") g ∷ ts) ≡ by_form (written_row DC ∷ []) ts
  unfolding table
  rows_dc = refl

  rows_br : statement (token (ascii "BR") g ∷ ts) ≡ by_form (jump_rows BR) ts
  unfolding table
  rows_br = refl

  rows_cl : statement (token (ascii "CL") g ∷ ts) ≡ by_form (jump_rows CL) ts
  unfolding table
  rows_cl = refl

  rows_h : statement (token (ascii "H") g ∷ ts) ≡ by_form (form [] (λ p. Acts H) ∷ left_row Hold ∷ []) ts
  unfolding table
  rows_h = refl

  rows_oe : statement (token (ascii "OE") g ∷ ts) ≡ by_form (form (Target ∷ []) (λ p. Acts (OE p.name)) ∷ form (Is (ascii "0") ∷ []) (λ p. Acts Disarm) ∷ []) ts
  unfolding table
  rows_oe = refl

  rows_ma : statement (token (ascii "MA") g ∷ ts) ≡ by_form (left_row MA ∷ []) ts
  unfolding table
  rows_ma = refl

  rows_mr : statement (token (ascii "MR") g ∷ ts) ≡ by_form (left_row MR ∷ []) ts
  unfolding table
  rows_mr = refl

  rows_sl : statement (token (ascii "SL") g ∷ ts) ≡ by_form (left_row SL ∷ []) ts
  unfolding table
  rows_sl = refl

  rows_pr : statement (token (ascii "PR") g ∷ ts) ≡ by_form (left_row PR ∷ []) ts
  unfolding table
  rows_pr = refl

-- What fills one of these rows.
module _ (act : Value Name → Statement Name) (x : Value Name) (g : Bool) (h : Sound x) where
  left_says : by_form (left_row act ∷ []) (value_tokens x g []) ≡ some (Acts (act x))
  unfolding fill
  left_says = row_filled (left_row act) [] (value_tokens x g []) (on_left no_parts x) (fill_left [] no_parts x g [] h)

written_says : (act : Name → Statement Name) (w : Name) (g : Bool) → T (variable_name w) → by_form (written_row act ∷ []) (token w g ∷ []) ≡ some (Acts (act w))
unfolding fill
written_says act w g t = row_filled (written_row act) [] (token w g ∷ []) (writing no_parts w) (fill_written [] no_parts w g [] t)

jump_says : (jump : Name → Condition Name → Statement Name) (w : Name) (g : Bool) → T (user_name w) → by_form (jump_rows jump) (token w g ∷ []) ≡ some (Acts (jump w Always))
unfolding fill
jump_says jump w g t = row_filled _ _ (token w g ∷ []) (naming no_parts w) (fill_target [] no_parts w g [] t)

-- The tokens of a condition.
abbrev pub compared_tokens : Value Name → Comparison → Value Name → Bool → Bool → Bool → Bool → List Token
compared_tokens x c y g h i j = token (ascii ",") g ∷ value_tokens x h (token (comparison_sign c) i ∷ value_tokens y j [])

compared_says : (jump : Name → Condition Name → Statement Name) (n : Name) (x : Value Name) (c : Comparison) (y : Value Name) (f g h i j : Bool)
    → T (user_name n) → Sound x → Sound y
    → by_form (jump_rows jump) (token n f ∷ compared_tokens x c y g h i j) ≡ some (Acts (jump n (Compare x c y)))
unfolding fill
compared_says jump n x c y f g h i j t p q =
    let ts = compared_tokens x c y g h i j in
    let a = naming no_parts n in
    let b = on_left a x in
    let us = token (comparison_sign c) i ∷ value_tokens y j [] in
    row_passed _ _ (token n f ∷ ts) (fill_target [] no_parts n f ts t)
    ∙ row_filled _ _ (token n f ∷ ts) (on_right (comparing b c) y)
    (fill_target (Is (ascii ",") ∷ Left ∷ Comparing ∷ Right ∷ []) no_parts n f ts t
    ∙ fill_is (Left ∷ Comparing ∷ Right ∷ []) a (ascii ",") g (value_tokens x h us)
    ∙ fill_left (Comparing ∷ Right ∷ []) a x h us p
    ∙ fill_comparison (Right ∷ []) b c i (value_tokens y j [])
    ∙ fill_right [] (comparing b c) y j [] q)

-- What each printed line says by its tokens.
pub says_lb : (w : Name) (g h : Bool) → T (two_characters w) → statement (token (ascii "LB") g ∷ token w h ∷ []) ≡ some (Label w)
unfolding fill
says_lb w g h t = rows_lb g (token w h ∷ []) ∙ row_filled _ _ _ (naming no_parts w) (fill_new [] no_parts w h [] t)

pub says_va : (w : Name) (z : ℤ) (g h i j : Bool) → T (two_characters w) → T (in_range literals z)
    → statement (token (ascii "VA") g ∷ token w h ∷ token (ascii "=") i ∷ literal_tokens z j []) ≡ some (Declared w z)
unfolding fill
says_va w z g h i j t r =
    let ts = token (ascii "=") i ∷ literal_tokens z j [] in
    rows_va g (token w h ∷ ts)
    ∙ row_passed _ _ (token w h ∷ ts) (fill_new [] no_parts w h ts t)
    ∙ row_filled _ _ (token w h ∷ ts) (starting (naming no_parts w) z)
    (fill_new (Is (ascii "=") ∷ Start ∷ []) no_parts w h ts t
    ∙ fill_is (Start ∷ []) (naming no_parts w) (ascii "=") i (literal_tokens z j [])
    ∙ fill_start [] (naming no_parts w) z j [] r)

pub says_ic : (w : Name) (g h : Bool) → T (variable_name w) → statement (token (ascii "IC") g ∷ token w h ∷ []) ≡ some (Acts (IC w))
says_ic w g h t = rows_ic g (token w h ∷ []) ∙ written_says IC w h t

pub says_dc : (w : Name) (g h : Bool) → T (variable_name w) → statement (token (ascii "DC") g ∷ token w h ∷ []) ≡ some (Acts (DC w))
says_dc w g h t = rows_dc g (token w h ∷ []) ∙ written_says DC w h t

pub says_br : (n : Name) (g h : Bool) → T (user_name n) → statement (token (ascii "BR") g ∷ token n h ∷ []) ≡ some (Acts (BR n Always))
says_br n g h t = rows_br g (token n h ∷ []) ∙ jump_says BR n h t

pub says_cl : (n : Name) (g h : Bool) → T (user_name n) → statement (token (ascii "CL") g ∷ token n h ∷ []) ≡ some (Acts (CL n Always))
says_cl n g h t = rows_cl g (token n h ∷ []) ∙ jump_says CL n h t

pub says_oe : (n : Name) (g h : Bool) → T (user_name n) → statement (token (ascii "OE") g ∷ token n h ∷ []) ≡ some (Acts (OE n))
unfolding fill
says_oe n g h t = rows_oe g (token n h ∷ []) ∙ row_filled _ _ (token n h ∷ []) (naming no_parts n) (fill_target [] no_parts n h [] t)

module _ (n : Name) (x : Value Name) (c : Comparison) (y : Value Name) (e f g h i j : Bool) (t : T (user_name n)) (p : Sound x) (q : Sound y) where
  pub says_br_if : statement (token (ascii "BR") e ∷ token n f ∷ compared_tokens x c y g h i j) ≡ some (Acts (BR n (Compare x c y)))
  says_br_if = rows_br e (token n f ∷ compared_tokens x c y g h i j) ∙ compared_says BR n x c y f g h i j t p q

  pub says_cl_if : statement (token (ascii "CL") e ∷ token n f ∷ compared_tokens x c y g h i j) ≡ some (Acts (CL n (Compare x c y)))
  says_cl_if = rows_cl e (token n f ∷ compared_tokens x c y g h i j) ∙ compared_says CL n x c y f g h i j t p q

module _ (x : Value Name) (g h : Bool) (p : Sound x) where
  pub says_ma : statement (token (ascii "MA") g ∷ value_tokens x h []) ≡ some (Acts (MA x))
  says_ma = rows_ma g (value_tokens x h []) ∙ left_says MA x h p

  pub says_mr : statement (token (ascii "MR") g ∷ value_tokens x h []) ≡ some (Acts (MR x))
  says_mr = rows_mr g (value_tokens x h []) ∙ left_says MR x h p

  pub says_sl : statement (token (ascii "SL") g ∷ value_tokens x h []) ≡ some (Acts (SL x))
  says_sl = rows_sl g (value_tokens x h []) ∙ left_says SL x h p

  pub says_pr : statement (token (ascii "PR") g ∷ value_tokens x h []) ≡ some (Acts (PR x))
  says_pr = rows_pr g (value_tokens x h []) ∙ left_says PR x h p

  pub says_hold : statement (token (ascii "H") g ∷ value_tokens x h []) ≡ some (Acts (Hold x))
  says_hold =
      rows_h g (value_tokens x h []) ∙ row_passed (form [] (λ p. Acts H)) (left_row Hold ∷ []) (value_tokens x h []) (fill_over x h [] no_parts)
      ∙ left_says Hold x h p

-- A variable is none of the mnemonics that declare.
not_lb : (v : Name) → T (variable_name v) → eq_list v (ascii "LB") ≡ false
unfolding table
not_lb v t = variable_is_not v (ascii "LB") t tt

not_va : (v : Name) → T (variable_name v) → eq_list v (ascii "VA") ≡ false
unfolding table
not_va v t = variable_is_not v (ascii "VA") t tt

-- A variable, and then =: the rows of LB and VA are passed over.
module _ (v : Name) (f g : Bool) (ts : List Token) (t : T (variable_name v)) where
  abbrev lead : List Token
  lead = token v f ∷ token (ascii "=") g ∷ ts

  not_declared : statement lead ≡ by_form (drop 3 forms) lead
  unfolding statement forms
  not_declared =
      let us = token (ascii "=") g ∷ ts in
      row_passed _ _ lead (fill_other (New ∷ []) no_parts v (ascii "LB") f us (not_lb v t))
      ∙ row_passed _ _ lead (fill_other (New ∷ []) no_parts v (ascii "VA") f us (not_va v t))
      ∙ row_passed _ _ lead (fill_other (New ∷ Is (ascii "=") ∷ Start ∷ []) no_parts v (ascii "VA") f us (not_va v t))

  fill_lead : (ss : List Slot) → fill (Written ∷ Is (ascii "=") ∷ ss) lead no_parts ≡ fill ss ts (writing no_parts v)
  fill_lead ss =
      fill_written (Is (ascii "=") ∷ ss) no_parts v f (token (ascii "=") g ∷ ts) t
      ∙ fill_is ss (writing no_parts v) (ascii "=") g ts

pub says_set : (v : Name) (x : Value Name) (f g h : Bool) → T (variable_name v) → Sound x
    → statement (token v f ∷ token (ascii "=") g ∷ value_tokens x h []) ≡ some (Acts (Set v x))
unfolding forms fill
says_set v x f g h t p =
    let ts = value_tokens x h [] in
    not_declared v f g ts t
    ∙ row_filled _ _ (token v f ∷ token (ascii "=") g ∷ ts) (on_left (writing no_parts v) x)
    (fill_lead v f g ts t (Left ∷ []) ∙ fill_left [] (writing no_parts v) x h [] p)

pub says_set_with : (v : Name) (x : Value Name) (o : Operator) (y : Value Name) (f g h i j : Bool)
    → T (variable_name v) → Sound x → Sound y
    → statement (token v f ∷ token (ascii "=") g ∷ value_tokens x h (token (operator_sign o) i ∷ value_tokens y j [])) ≡ some (Acts (SetWith v x o y))
unfolding forms fill
says_set_with v x o y f g h i j t p q =
    let us = token (operator_sign o) i ∷ value_tokens y j [] in
    let ts = value_tokens x h us in
    let a = writing no_parts v in
    let b = on_left a x in
    not_declared v f g ts t
    ∙ row_passed _ _ (token v f ∷ token (ascii "=") g ∷ ts) (fill_lead v f g ts t (Left ∷ []) ∙ fill_left [] a x h us p)
    ∙ row_filled _ _ (token v f ∷ token (ascii "=") g ∷ ts) (on_right (operating b o) y)
    (fill_lead v f g ts t (Left ∷ Operating ∷ Right ∷ [])
    ∙ fill_left (Operating ∷ Right ∷ []) a x h us p
    ∙ fill_operator (Right ∷ []) b o i (value_tokens y j [])
    ∙ fill_right [] (operating b o) y j [] q)
