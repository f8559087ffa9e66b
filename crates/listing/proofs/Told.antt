-- Each line of a listing, over the names that it prints: its tokens, its bytes, and that it is heard as what was told.
-- Assumes nothing.
use mathlib.Core.Path.{◌≡◌, refl, ap, subst, ◌∙◌}
use mathlib.Core.Bool.{false}
use mathlib.Core.List.{List, [], ◌∷◌, ◌++◌, append-nil}
use mathlib.Core.Option.{some}
use Prim.Native.Nat.{ℕ, ◌≤◌}
use borrow.Author.Tests.{le-ltb}
use lib.Dec.{T}
use lib.IntN.{ℤ}
use lib.ListN.{length}
use Rattle.numbers.specs.Bytes.{ascii}
use Rattle.numbers.specs.Tests.{all_of, any_of, Each}
use Rattle.numbers.proofs.Tests.{each_then, each_none, all_append}
use Rattle.numbers.proofs.Truth.{is_true}
use Rattle.program.specs.Names.{Name, letter, digit, word_character, two_characters, reserved, user_name, free_name}
use Rattle.program.specs.Variables.{in_range, literals}
use Rattle.program.specs.Statements.{Value, Literal, Variable, Condition, Always, Compare, Statement, Set, SetWith, IC, DC, BR, CL, RT, E, H, Hold, OE, Disarm, MA, MR, SL, PR, operands, writes, targets, compared, Operator}
use Rattle.program.proofs.Keys.{free_two, free_not_reserved}
use Rattle.program.proofs.Statements.{Refers}
use Rattle.text.specs.Tokens.{Token, tokens, joins, onto_first_token, printable, uncommented}
use Rattle.text.specs.Forms.{Line, Label, Declared, Acts, operator_sign, comparison_sign, variable_name, statement, reading}
use Rattle.text.specs.Faults.{long_line, bad_form, too_big, big_value, big_in, big_literal, declares, reserved_name, heard}
use Rattle.printing.specs.Listing.{plain}
use Rattle.listing.proofs.Tokens.{token, follows, Stops, fine, fine_printable, fine_uncommented}
use Rattle.listing.proofs.Values.{spelt, spelling, Spelt, two_spelt, user_spelt, variable_spelt, tokens_name, name_fine, value_told, Sound, value_tokens, tokens_value, value_fine, Starts, value_starts}
use Rattle.listing.proofs.Signs.{Sign, equals, comma, operator_sign_lem, comparison_sign_lem}
use Rattle.listing.proofs.Rows.{table, says_lb, says_va, says_ic, says_dc, says_br, says_cl, says_oe, says_br_if, says_cl_if, says_ma, says_mr, says_sl, says_pr, says_hold, says_set, says_set_with}

-- A part of a line, up to its end: its tokens and its bytes.
pub record Part (l : List ℕ) (ts : List Token) : Type 0 where
  pub cut : tokens l ≡ ts
  pub kind : T (all_of fine l)

part_end : Part [] []
unfolding tokens all_of
part_end = record { cut = refl; kind = tt }

-- What stands in front of a part.
module _ {rest : List ℕ} {ts : List Token} (p : Part rest ts) where
  part_name : (w : Name) → Spelt w → Stops rest → Part (w ++ rest) (token w (follows rest) ∷ ts)
  part_name w s e = record {
    cut = tokens_name w rest s e ∙ ap (λ (us : List Token). token w (follows rest) ∷ us) p.cut;
    kind = all_append fine w rest (name_fine w s) p.kind;
  }

  part_value : (x : Value Name) → Sound x → Stops rest → Part (value_told x ++ rest) (value_tokens x (follows rest) ts)
  part_value x s e = record {
    cut = tokens_value x rest s e ∙ ap (value_tokens x (follows rest)) p.cut;
    kind = all_append fine (value_told x) rest (value_fine x s) p.kind;
  }

  part_sign : (w : Name) → Sign w → Starts rest → Part (w ++ rest) (token w (follows rest) ∷ ts)
  part_sign w s e = record {
    cut = s.cuts rest e ∙ ap (λ (us : List Token). token w (follows rest) ∷ us) p.cut;
    kind = all_append fine w rest s.kind p.kind;
  }

name_last : (w : Name) → Spelt w → Part w (token w false ∷ [])
unfolding word_character letter digit
name_last w s = subst (λ (l : List ℕ). Part l (token w false ∷ [])) (append-nil w) (part_name part_end w s refl)

value_last : (x : Value Name) → Sound x → Part (value_told x) (value_tokens x false [])
unfolding word_character letter digit
value_last x s = subst (λ (l : List ℕ). Part l (value_tokens x false [])) (append-nil (value_told x)) (part_value part_end x s refl)

starts_last : (x : Value Name) → Sound x → Starts (value_told x)
starts_last x s = subst Starts (append-nil (value_told x)) (value_starts x [] s)

-- A mnemonic and its space.
part_mnemonic : (m : Name) → T (spelt m) → {rest : List ℕ} {ts : List Token} → Part rest ts → Part (m ++ (32 ∷ rest)) (token m false ∷ ts)
unfolding tokens all_of printable word_character letter digit
part_mnemonic m t {rest} {ts} p = let q : Part (32 ∷ rest) ts = record { cut = p.cut; kind = p.kind } in part_name q m (spelling m t) refl

-- A line as it is printed, and what it says.
pub record Printed (l : List ℕ) (x : Line) : Type 0 where
  pub kind : T (all_of fine l)
  pub reads : reading l ≡ some x

printed : (l : List ℕ) (x : Line) {ts : List Token} → Part l ts → statement ts ≡ some x → Printed l x
unfolding reading
printed l x p e = record { kind = p.kind; reads = rw (fine_printable l p.kind, fine_uncommented l p.kind, p.cut) e }

-- Such a line is heard, where it is short, has no literal that is too big and declares no reserved name.
pub heard_printed : (l : List ℕ) (x : Line) → Printed l x → length l ≤ 64 → big_in x ≡ false → any_of reserved (declares x) ≡ false → heard l ≡ x
unfolding heard long_line bad_form big_literal reserved_name
heard_printed l x p s b r = rw (heard, long_line, bad_form, big_literal, reserved_name, le-ltb 64 (length l) s, p.reads, b, r)

-- All that a word of the table computes with.
letters : Unit {0}
unfolding ascii all_of word_character letter digit
letters = tt

-- The lines that declare.
pub reads_label : (w : Name) → T (two_characters w) → Printed (ascii "LB " ++ w) (Label w)
unfolding letters
reads_label w t =
    printed (ascii "LB " ++ w) (Label w) (part_mnemonic (ascii "LB") tt (name_last w (two_spelt w t)))
    (says_lb w false false t)

pub reads_declared : (w : Name) (z : ℤ) → T (two_characters w) → T (in_range literals z) → Printed (ascii "VA " ++ (w ++ (ascii "=" ++ plain z))) (Declared w z)
unfolding letters
reads_declared w z t r =
    let v = part_sign (value_last (Literal z) r) (ascii "=") equals (starts_last (Literal z) r) in
    printed (ascii "VA " ++ (w ++ (ascii "=" ++ plain z))) (Declared w z)
    (part_mnemonic (ascii "VA") tt (part_name v w (two_spelt w t) (equals.stops (plain z))))
    (says_va w z false _ _ false t r)

-- A variable set.
pub reads_set : (v : Name) (x : Value Name) → T (variable_name v) → Sound x → Printed (v ++ (ascii "=" ++ value_told x)) (Acts (Set v x))
reads_set v x t h =
    let p = part_sign (value_last x h) (ascii "=") equals (starts_last x h) in
    printed (v ++ (ascii "=" ++ value_told x)) (Acts (Set v x)) (part_name p v (variable_spelt v t) (equals.stops (value_told x)))
    (says_set v x _ _ false t h)

pub reads_set_with : (v : Name) (x : Value Name) (o : Operator) (y : Value Name) → T (variable_name v) → Sound x → Sound y
    → Printed (v ++ (ascii "=" ++ (value_told x ++ (operator_sign o ++ value_told y)))) (Acts (SetWith v x o y))
reads_set_with v x o y t h k =
    let w : Name = operator_sign o in
    let g = operator_sign_lem o in
    let p = part_value (part_sign (value_last y k) w g (starts_last y k)) x h (g.stops (value_told y)) in
    let q = part_sign p (ascii "=") equals (value_starts x (w ++ value_told y) h) in
    printed (v ++ (ascii "=" ++ (value_told x ++ (w ++ value_told y)))) (Acts (SetWith v x o y))
    (part_name q v (variable_spelt v t) (equals.stops (value_told x ++ (w ++ value_told y))))
    (says_set_with v x o y _ _ _ _ false t h k)

pub reads_ic : (v : Name) → T (variable_name v) → Printed (ascii "IC " ++ v) (Acts (IC v))
unfolding letters
reads_ic v t =
    printed (ascii "IC " ++ v) (Acts (IC v)) (part_mnemonic (ascii "IC") tt (name_last v (variable_spelt v t)))
    (says_ic v false false t)

pub reads_dc : (v : Name) → T (variable_name v) → Printed (ascii "DC " ++ v) (Acts (DC v))
unfolding letters
reads_dc v t =
    printed (ascii "DC " ++ v) (Acts (DC v)) (part_mnemonic (ascii "DC") tt (name_last v (variable_spelt v t)))
    (says_dc v false false t)

-- A condition as it is printed, and one that a text can have.
abbrev pub condition_told : Condition Name → List ℕ
condition_told Always = []
condition_told (Compare x c y) = ascii "," ++ (value_told x ++ (comparison_sign c ++ value_told y))

abbrev pub Fair : Condition Name → Type 0
Fair c = Each Sound (compared c)

pub reads_br : (n : Name) (c : Condition Name) → T (user_name n) → Fair c → Printed (ascii "BR " ++ (n ++ condition_told c)) (Acts (BR n c))
unfolding letters compared
reads_br n Always t f =
    printed (ascii "BR " ++ (n ++ [])) (Acts (BR n Always)) (part_mnemonic (ascii "BR") tt (part_name part_end n (user_spelt n t) refl))
    (says_br n false false t)
reads_br n (Compare x c y) t f =
    let w : Name = comparison_sign c in
    let g = comparison_sign_lem c in
    let p = part_value (part_sign (value_last y f.1.0) w g (starts_last y f.1.0)) x f.0 (g.stops (value_told y)) in
    let q = part_sign p (ascii ",") comma (value_starts x (w ++ value_told y) f.0) in
    let r = part_name q n (user_spelt n t) (comma.stops (value_told x ++ (w ++ value_told y))) in
    printed (ascii "BR " ++ (n ++ condition_told (Compare x c y))) (Acts (BR n (Compare x c y))) (part_mnemonic (ascii "BR") tt r)
    (says_br_if n x c y false _ _ _ _ false t f.0 f.1.0)

pub reads_cl : (n : Name) (c : Condition Name) → T (user_name n) → Fair c → Printed (ascii "CL " ++ (n ++ condition_told c)) (Acts (CL n c))
unfolding letters compared
reads_cl n Always t f =
    printed (ascii "CL " ++ (n ++ [])) (Acts (CL n Always)) (part_mnemonic (ascii "CL") tt (part_name part_end n (user_spelt n t) refl))
    (says_cl n false false t)
reads_cl n (Compare x c y) t f =
    let w : Name = comparison_sign c in
    let g = comparison_sign_lem c in
    let p = part_value (part_sign (value_last y f.1.0) w g (starts_last y f.1.0)) x f.0 (g.stops (value_told y)) in
    let q = part_sign p (ascii ",") comma (value_starts x (w ++ value_told y) f.0) in
    let r = part_name q n (user_spelt n t) (comma.stops (value_told x ++ (w ++ value_told y))) in
    printed (ascii "CL " ++ (n ++ condition_told (Compare x c y))) (Acts (CL n (Compare x c y))) (part_mnemonic (ascii "CL") tt r)
    (says_cl_if n x c y false _ _ _ _ false t f.0 f.1.0)

pub reads_oe : (n : Name) → T (user_name n) → Printed (ascii "OE " ++ n) (Acts (OE n))
unfolding letters
reads_oe n t =
    printed (ascii "OE " ++ n) (Acts (OE n)) (part_mnemonic (ascii "OE") tt (name_last n (user_spelt n t)))
    (says_oe n false false t)

-- The mnemonics with one operand.
module _ (x : Value Name) (h : Sound x) where
  pub reads_hold : Printed (ascii "H " ++ value_told x) (Acts (Hold x))
  unfolding letters
  reads_hold = printed (ascii "H " ++ value_told x) (Acts (Hold x)) (part_mnemonic (ascii "H") tt (value_last x h)) (says_hold x false false h)

  pub reads_ma : Printed (ascii "MA " ++ value_told x) (Acts (MA x))
  unfolding letters
  reads_ma = printed (ascii "MA " ++ value_told x) (Acts (MA x)) (part_mnemonic (ascii "MA") tt (value_last x h)) (says_ma x false false h)

  pub reads_mr : Printed (ascii "MR " ++ value_told x) (Acts (MR x))
  unfolding letters
  reads_mr = printed (ascii "MR " ++ value_told x) (Acts (MR x)) (part_mnemonic (ascii "MR") tt (value_last x h)) (says_mr x false false h)

  pub reads_sl : Printed (ascii "SL " ++ value_told x) (Acts (SL x))
  unfolding letters
  reads_sl = printed (ascii "SL " ++ value_told x) (Acts (SL x)) (part_mnemonic (ascii "SL") tt (value_last x h)) (says_sl x false false h)

  pub reads_pr : Printed (ascii "PR " ++ value_told x) (Acts (PR x))
  unfolding letters
  reads_pr = printed (ascii "PR " ++ value_told x) (Acts (PR x)) (part_mnemonic (ascii "PR") tt (value_last x h)) (says_pr x false false h)

-- The lines that are the same in every listing.
pub reads_rt : Printed (ascii "RT") (Acts RT)
unfolding table all_of reading tokens onto_first_token joins printable uncommented
reads_rt = record { kind = tt; reads = refl }

pub reads_e : Printed (ascii "E") (Acts E)
unfolding table all_of reading tokens onto_first_token joins printable uncommented
reads_e = record { kind = tt; reads = refl }

pub reads_h : Printed (ascii "H") (Acts H)
unfolding table all_of reading tokens onto_first_token joins printable uncommented
reads_h = record { kind = tt; reads = refl }

pub reads_disarm : Printed (ascii "OE 0") (Acts Disarm)
unfolding table all_of reading tokens onto_first_token joins printable uncommented
reads_disarm = record { kind = tt; reads = refl }

-- A statement as it is printed, and one that a text can have.
unfoldable pub told : Statement Name → List ℕ
told (Set v x) = v ++ (ascii "=" ++ value_told x)
told (SetWith v x o y) = v ++ (ascii "=" ++ (value_told x ++ (operator_sign o ++ value_told y)))
told (IC v) = ascii "IC " ++ v
told (DC v) = ascii "DC " ++ v
told (BR n c) = ascii "BR " ++ (n ++ condition_told c)
told (CL n c) = ascii "CL " ++ (n ++ condition_told c)
told RT = ascii "RT"
told E = ascii "E"
told H = ascii "H"
told (Hold x) = ascii "H " ++ value_told x
told (OE n) = ascii "OE " ++ n
told Disarm = ascii "OE 0"
told (MA x) = ascii "MA " ++ value_told x
told (MR x) = ascii "MR " ++ value_told x
told (SL x) = ascii "SL " ++ value_told x
told (PR x) = ascii "PR " ++ value_told x

abbrev pub Sayable : Statement Name → Type 0
Sayable a = Refers Sound (λ (v : Name). T (variable_name v)) (λ (n : Name). T (user_name n)) a

-- Every statement that a text can have is read back from its line.
pub reads_statement : (a : Statement Name) → Sayable a → Printed (told a) (Acts a)
unfolding told operands writes targets compared
reads_statement (Set v x) h = reads_set v x h.sets.0 h.reads.0
reads_statement (SetWith v x o y) h = reads_set_with v x o y h.sets.0 h.reads.0 h.reads.1.0
reads_statement (IC v) h = reads_ic v h.sets.0
reads_statement (DC v) h = reads_dc v h.sets.0
reads_statement (BR n c) h = reads_br n c h.aims.0 h.reads
reads_statement (CL n c) h = reads_cl n c h.aims.0 h.reads
reads_statement RT h = reads_rt
reads_statement E h = reads_e
reads_statement H h = reads_h
reads_statement (Hold x) h = reads_hold x h.reads.0
reads_statement (OE n) h = reads_oe n h.aims.0
reads_statement Disarm h = reads_disarm
reads_statement (MA x) h = reads_ma x h.reads.0
reads_statement (MR x) h = reads_mr x h.reads.0
reads_statement (SL x) h = reads_sl x h.reads.0
reads_statement (PR x) h = reads_pr x h.reads.0

-- None of its literals is too big.
sound_small : (x : Value Name) → Sound x → big_value x ≡ false
unfolding big_value too_big
sound_small (Literal z) h = rw (is_true (in_range literals z) h)
sound_small (Variable w) h = refl

small : (a : Statement Name) → Sayable a → any_of big_value (operands a) ≡ false
small a h = each_none big_value (operands a) (each_then Sound (λ (x : Value Name). big_value x ≡ false) sound_small (operands a) h.reads)

-- A line of a listing: its bytes, and that it is heard as what it tells.
pub record Heard (l : List ℕ) (x : Line) : Type 0 where
  pub kind : T (all_of fine l)
  pub hears : heard l ≡ x

pub hears_statement : (a : Statement Name) → Sayable a → length (told a) ≤ 64 → Heard (told a) (Acts a)
unfolding big_in declares any_of
hears_statement a h s =
    let p = reads_statement a h in
    record { kind = p.kind; hears = heard_printed (told a) (Acts a) p s (small a h) refl }

pub hears_label : (w : Name) → T (free_name w) → length (ascii "LB " ++ w) ≤ 64 → Heard (ascii "LB " ++ w) (Label w)
unfolding big_in declares any_of
hears_label w t s =
    let p = reads_label w (free_two w t) in
    record { kind = p.kind; hears = heard_printed (ascii "LB " ++ w) (Label w) p s refl (rw (free_not_reserved w t)) }

pub hears_declared : (w : Name) (z : ℤ) → T (free_name w) → T (in_range literals z) → length (ascii "VA " ++ (w ++ (ascii "=" ++ plain z))) ≤ 64
    → Heard (ascii "VA " ++ (w ++ (ascii "=" ++ plain z))) (Declared w z)
unfolding big_in declares any_of too_big
hears_declared w z t r s =
    let p = reads_declared w z (free_two w t) r in
    record {
      kind = p.kind;
      hears = heard_printed (ascii "VA " ++ (w ++ (ascii "=" ++ plain z))) (Declared w z) p s (rw (is_true (in_range literals z) r)) (rw (free_not_reserved w t));
    }
