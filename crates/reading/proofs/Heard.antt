-- What the layers above need of a line that is heard: its names are words, and what the paper asks of it is asked of its reading.
-- Assumes nothing.
use mathlib.Core.Path.{◌≡◌, refl, sym, ap, ap₂, subst, ◌∙◌}
use mathlib.Core.Bool.{Bool, true, false, cond, ◌&&◌, ◌||◌, not, or-false}
use mathlib.Core.List.{List, [], ◌∷◌}
use mathlib.Core.Logic.{⊎_elim}
use mathlib.Core.Option.{Option, none, some}
use Prim.Native.Nat.{ℕ, ◌<◌}
use native.Mathlib.Omega.{arith}
use borrow.Author.Tests.{ne_eqb}
use lib.Dec.{T, eqb, leb, leb→le, eqb→eq}
use lib.ListN.{length}
use Rattle.std.specs.Prelude.{Ok, Err}
use Rattle.numbers.specs.Bytes.{number}
use Rattle.numbers.specs.Tests.{all_of, any_of, lowest, Each}
use Rattle.numbers.proofs.Truth.{neither, both, both_of, either}
use Rattle.program.specs.Names.{Name, letter, digit, word_character, paper_variable, two_characters, reserved, user_name, free_name}
use Rattle.program.specs.Variables.{read_only}
use Rattle.program.specs.Code.{key, name_of}
use Rattle.program.specs.Cells as Cells
use Rattle.program.specs.Cells.{cell, cell_of, jump_of, no_target, operator_number, comparison_number}
use Rattle.program.specs.Statements as Said
use Rattle.program.specs.Statements.{Literal, Variable, Always, Compare, Statement, operands, writes, targets, compared, Set, SetWith, IC, DC, BR, CL, RT, E, H, Hold, OE, Disarm, MA, MR, SL, PR}
use Rattle.program.specs.declared.Cell.{Cell}
use Rattle.program.specs.declared.Operand.{Operand}
use Rattle.program.specs.declared.Operand.TheVariants as O
use Rattle.program.proofs.Keys.{name_key_lem, key_positive, user_word, user_two, free_word}
use Rattle.program.proofs.Statements as Fields
use Rattle.text.specs.Tokens as Paper
use Rattle.text.specs.Tokens.{printable, uncommented, tokens}
use Rattle.text.specs.Forms as Form
use Rattle.text.specs.Forms.{Line, Blank, Label, Declared, Acts, Parts, no_parts, fill, by_form, statement, reading, variable_name}
use Rattle.text.specs.Faults.{long_line, bad_form, big_literal, reserved_name, big_in, big_value, too_big, declares, declares_it, makes_cell, makes_label, heard, faults, repeated, too_many, undeclared, read_only_written, first_makes, unknown_variable, unknown_value, unknown_in}
use Rattle.reading.specs.Code.{said_by, reading_of, fault_number, faulty_by, told_by, in_declared, in_cell, aims_at, in_operand, placed, written, operand_with, resolved}
use Rattle.reading.specs.declared.Said.{Said}
use Rattle.reading.specs.declared.LineFault.TheVariants as E
use Rattle.text.proofs.Words.{variable_word}
use Rattle.text.proofs.Heard.{heard_by}
use Rattle.text.proofs.Filled.{HoldsAt, Filled, filled, Known, Named, Sound}
use Rattle.reading.proofs.Rows.{Rows, last, next, rows}

-- What a form makes sure of.
abbrev pub SoundAt : Option Line → Type 0
SoundAt none = Unit
SoundAt (some x) = Sound x

form_sound : {ns : List ℕ} {fs : List Form.Form} → Rows ns fs → (ts : List Paper.Token) → SoundAt (by_form fs ts)
unfolding by_form
form_sound last ts = tt
form_sound (next {n} {f} {ns} {fs} r rs) ts = pick (fill f.slots ts no_parts) (filled f.slots ts no_parts) (form_sound rs ts)
  where
    pick : (o : Option Parts) → HoldsAt (Filled f.slots no_parts) o → SoundAt (by_form fs ts) → SoundAt (elim o [ none ↦ by_form fs ts | some p ↦ some (f.says p) ])
    pick none h ih = ih
    pick (some p) h ih = r.sound h

statement_sound : (ts : List Paper.Token) → SoundAt (statement ts)
unfolding statement
statement_sound [] = tt
statement_sound (t ∷ ts) = form_sound rows (t ∷ ts)

pub reading_sound : (l : List ℕ) → SoundAt (reading l)
unfolding reading
reading_sound l = pick (all_of printable l)
  where
    pick : (b : Bool) → SoundAt (cond b (statement (tokens (uncommented l))) none)
    pick true = statement_sound (tokens (uncommented l))
    pick false = tt

-- What is known of a line that is heard: it may declare its name, no literal is too big, and names are words.
abbrev pub Fine : Line → Type 0
Fine Blank = Unit
Fine (Label w) = T (free_name w)
Fine (Declared w z) = T (free_name w) × (too_big z ≡ false)
Fine (Acts s) = Named s × (any_of big_value (operands s) ≡ false)

own_name : (w : Name) → T (two_characters w) → (reserved w || false) ≡ false → T (free_name w)
unfolding free_name
own_name w t e = both_of (two_characters w) (not (reserved w)) t (subst (λ (b : Bool). T (not b)) (sym (neither (reserved w) false e).0) tt)

fine : (x : Line) → Sound x → big_in x ≡ false → any_of reserved (declares x) ≡ false → Fine x
unfolding big_in any_of declares
fine Blank s b r = tt
fine (Label w) s b r = own_name w s r
fine (Declared w z) s b r = (own_name w s r, b)
fine (Acts s) n b r = (n, b)

pub heard_fine : (l : List ℕ) → Fine (heard l)
heard_fine l = heard_by Fine l tt (λ x e b r. fine x (subst SoundAt e (reading_sound l)) b r)

-- What a line says to others, by its reading.
told_law : (long bad big kept : Bool) (x y : Line) → y ≡ cond (long || (bad || (big || kept))) Blank x
    → told_by (cond long (Err E.LongLine) (cond bad (Err E.BadForm) (cond big (Err E.BigLiteral) (cond kept (Err E.ReservedName) (Ok (said_by y)))))) ≡ said_by y
unfolding said_by
told_law true bad big kept x y e = rw e
told_law false true big kept x y e = rw e
told_law false false true kept x y e = rw e
told_law false false false true x y e = rw e
told_law false false false false x y e = refl

pub reading_told : (l : List ℕ) → told_by (reading_of l) ≡ said_by (heard l)
unfolding reading_of heard
reading_told l = told_law (long_line l) (bad_form l) (big_literal l) (reserved_name l) _ (heard l) refl

-- What a line makes, by what it says.
pub cell_said : (x : Line) → makes_cell x ≡ in_cell (λ c. true) (said_by x)
unfolding makes_cell said_by in_cell
cell_said Blank = refl
cell_said (Label w) = refl
cell_said (Declared w z) = refl
cell_said (Acts s) = refl

-- The lowest fault: one of the four of the line by itself, or one of the other four.
lowest_fault : (a b c d : Bool) (rest : List Bool) (said : Said)
    → lowest 2 (a ∷ b ∷ c ∷ d ∷ rest)
    ≡ faulty_by (lowest 6 rest) (cond a (Err E.LongLine) (cond b (Err E.BadForm) (cond c (Err E.BigLiteral) (cond d (Err E.ReservedName) (Ok said)))))
unfolding lowest faulty_by fault_number
lowest_fault true b c d rest said = refl
lowest_fault false true c d rest said = refl
lowest_fault false false true d rest said = refl
lowest_fault false false false true rest said = refl
lowest_fault false false false false rest said = refl

pub line_fault : (text before : List Line) (l : List ℕ)
    → lowest 2 (faults text before l)
    ≡ faulty_by (lowest 6 (repeated before (heard l) ∷ too_many before (heard l) ∷ undeclared text (heard l) ∷ read_only_written (heard l) ∷ [])) (reading_of l)
unfolding faults reading_of
line_fault text before l = lowest_fault (long_line l) (bad_form l) (big_literal l) (reserved_name l) _ (said_by (heard l))

-- The names of a statement, by its cell: a key of a name is neither 0 nor the target of no label.
character_low : (c : ℕ) → T (word_character c) → c < 91
unfolding word_character letter digit
character_low c t =
    ⊎_elim
    (λ p. let h = leb→le c 90 (both (leb 65 c) (leb c 90) p).1 in omega arith)
    (λ p. let h = leb→le c 57 (both (leb 48 c) (leb c 57) p).1 in omega arith)
    (either (leb 65 c && leb c 90) (leb 48 c && leb c 57) t)

letter_low : (c : ℕ) → T (letter c) → c < 91
unfolding letter
letter_low c t = let h = leb→le c 90 (both (leb 65 c) (leb c 90) t).1 in omega arith

two_low : (w : Name) → T (two_characters w) → key w < 65535
unfolding two_characters key number
two_low [] t = omega arith
two_low (a ∷ []) t = absurd t
two_low (a ∷ b ∷ []) t =
    let p = both (letter a) (word_character b) t in
    let h = letter_low a p.0 in
    let k = character_low b p.1 in
    omega arith
two_low (a ∷ b ∷ c ∷ w) t =
    let e = eqb→eq (length (a ∷ b ∷ c ∷ w)) 2 (both (eqb (length (a ∷ b ∷ c ∷ w)) 2) (letter a && word_character b) t).0 in
    absurd (omega arith)

-- The target of a cell is the key of a label.
aims_at_lem : (n : Name) → T (user_name n) → aims_at (key n) ≡ true
unfolding no_target
aims_at_lem n t =
    let i = user_word n t in
    let p = key_positive i in
    let h = two_low n (user_two n t) in
    rw (ne_eqb (key n) 0 (λ e. omega arith), ne_eqb (key n) 65535 (λ e. omega arith))

-- What a test finds in an operand of a cell.
module _ (P : Name → Bool) where
  one_aim : (n : Name) → T (user_name n) → any_of P (n ∷ []) ≡ (aims_at (key n) && P (name_of (key n)))
  unfolding any_of
  one_aim n t = or-false (P n) ∙ sym (ap₂ (λ (b : Bool) (w : Name). b && P w) (aims_at_lem n t) (name_key_lem n (user_word n t)))

  one_write : (v : Name) → T (variable_name v) → any_of P (v ∷ []) ≡ (not (eqb (key v) 0) && P (name_of (key v)))
  unfolding any_of
  one_write v t =
      let i = variable_word v t in
      or-false (P v) ∙ sym (ap₂ (λ (b : Bool) (w : Name). not b && P w) (ne_eqb (key v) 0 (λ e. let p = key_positive i in omega arith)) (name_key_lem v i))

  aim_asked : {ns : List Name} {t : ℕ} → Fields.AimedBy key key ns t → Each (λ (n : Name). T (user_name n)) ns → any_of P ns ≡ (aims_at t && P (name_of t))
  unfolding any_of no_target
  aim_asked Fields.unaimed h = refl
  aim_asked Fields.disarmed h = refl
  aim_asked (Fields.aimed n) h = one_aim n h.0

  write_asked : {vs : List Name} {w : ℕ} → Fields.WrittenBy key key vs w → Each (λ (v : Name). T (variable_name v)) vs → any_of P vs ≡ (not (eqb w 0) && P (name_of w))
  unfolding any_of
  write_asked Fields.unwritten h = refl
  write_asked (Fields.wrote v) h = one_write v h.0

  -- A test of a statement's label, and of the variable that it writes.
  pub target_asked : (s : Statement Name) → Named s → any_of P (targets s) ≡ (aims_at (cell_of key key s).target && P (name_of (cell_of key key s).target))
  target_asked s h = aim_asked (Fields.cell_has key key s).target h.aims

  pub written_asked : (s : Statement Name) → Named s → any_of P (writes s) ≡ (not (eqb (cell_of key key s).written 0) && P (name_of (cell_of key key s).written))
  written_asked s h = write_asked (Fields.cell_has key key s).written h.sets

module _ (P : Said.Value Name → Bool) where
  in_operand_lem : (x : Said.Value Name) → Known x → in_operand P (Cells.operand_of key key x) ≡ P x
  unfolding Cells.operand_of
  in_operand_lem (Literal z) k = refl
  in_operand_lem (Variable v) k = ap (λ (w : Name). P (Variable w)) (name_key_lem v (variable_word v k))

  one_read : (x : Said.Value Name) → Known x → any_of P (x ∷ []) ≡ (in_operand P (Cells.operand_of key key x) || false)
  unfolding any_of
  one_read x k = ap (λ (b : Bool). b || false) (sym (in_operand_lem x k))

  two_read : (x y : Said.Value Name) → Known x → Known y → any_of P (x ∷ y ∷ []) ≡ (in_operand P (Cells.operand_of key key x) || in_operand P (Cells.operand_of key key y))
  unfolding any_of
  two_read x y k j = ap₂ (λ (a b : Bool). a || b) (sym (in_operand_lem x k)) (or-false (P y) ∙ sym (in_operand_lem y j))

  read_asked : {xs : List (Said.Value Name)} {l r : Operand} → Fields.ReadBy key key xs l r → Each Known xs → any_of P xs ≡ (in_operand P l || in_operand P r)
  unfolding any_of
  read_asked Fields.none h = refl
  read_asked (Fields.one x) h = one_read x h.0
  read_asked (Fields.two x y) h = two_read x y h.0 h.1.0

  -- A test of a statement's operands.
  pub operands_asked : (s : Statement Name) → Named s → any_of P (operands s) ≡ (in_operand P (cell_of key key s).left || in_operand P (cell_of key key s).right)
  operands_asked s h = read_asked (Fields.cell_has key key s).read h.reads

module _ (place number : Name → ℕ) where
  aim_with : (n : Name) → T (user_name n) → place n ≡ placed place (key n)
  aim_with n t = sym (ap₂ (λ (b : Bool) (w : Name). cond b (place w) (key n)) (aims_at_lem n t) (name_key_lem n (user_word n t)))

  write_with : (v : Name) → T (variable_name v) → number v ≡ written number (key v)
  write_with v t =
      let i = variable_word v t in
      sym (ap₂ (λ (b : Bool) (w : Name). cond b 0 (number w)) (ne_eqb (key v) 0 (λ e. let p = key_positive i in omega arith)) (name_key_lem v i))

  read_with : (x : Said.Value Name) → Known x → Cells.operand_of place number x ≡ operand_with number (Cells.operand_of key key x)
  unfolding Cells.operand_of
  read_with (Literal z) k = refl
  read_with (Variable v) k = ap (λ (w : Name). O.Variable (number w)) (sym (name_key_lem v (variable_word v k)))

  -- The cell of a statement, from the cell that has the keys of its names.
  pub cell_resolved : (s : Statement Name) → Named s → cell_of place number s ≡ resolved place number (cell_of key key s)
  unfolding cell_of jump_of no_target targets writes operands compared
  cell_resolved (Set v x) h = ap₂ (λ (k : ℕ) (z : Operand). cell 1 k 0 z O.Nothing 0) (write_with v h.sets.0) (read_with x h.reads.0)
  cell_resolved (SetWith v x o y) h =
      ap₂ (λ (k : ℕ) (z : Operand). cell 2 k (operator_number o) z (Cells.operand_of place number y) 0) (write_with v h.sets.0) (read_with x h.reads.0)
      ∙ ap (λ (u : Operand). cell 2 (written number (key v)) (operator_number o) (operand_with number (Cells.operand_of key key x)) u 0) (read_with y h.reads.1.0)
  cell_resolved (IC v) h = ap (λ (k : ℕ). cell 3 k 0 O.Nothing O.Nothing 0) (write_with v h.sets.0)
  cell_resolved (DC v) h = ap (λ (k : ℕ). cell 4 k 0 O.Nothing O.Nothing 0) (write_with v h.sets.0)
  cell_resolved (BR n Always) h = ap (λ (k : ℕ). cell 5 0 0 O.Nothing O.Nothing k) (aim_with n h.aims.0)
  cell_resolved (BR n (Compare x c y)) h =
      ap₂ (λ (k : ℕ) (z : Operand). cell 5 0 (comparison_number c) z (Cells.operand_of place number y) k) (aim_with n h.aims.0) (read_with x h.reads.0)
      ∙ ap (λ (u : Operand). cell 5 0 (comparison_number c) (operand_with number (Cells.operand_of key key x)) u (placed place (key n))) (read_with y h.reads.1.0)
  cell_resolved (CL n Always) h = ap (λ (k : ℕ). cell 6 0 0 O.Nothing O.Nothing k) (aim_with n h.aims.0)
  cell_resolved (CL n (Compare x c y)) h =
      ap₂ (λ (k : ℕ) (z : Operand). cell 6 0 (comparison_number c) z (Cells.operand_of place number y) k) (aim_with n h.aims.0) (read_with x h.reads.0)
      ∙ ap (λ (u : Operand). cell 6 0 (comparison_number c) (operand_with number (Cells.operand_of key key x)) u (placed place (key n))) (read_with y h.reads.1.0)
  cell_resolved RT h = refl
  cell_resolved E h = refl
  cell_resolved H h = refl
  cell_resolved (Hold x) h = ap (λ (z : Operand). cell 9 0 0 z O.Nothing 0) (read_with x h.reads.0)
  cell_resolved (OE n) h = ap (λ (k : ℕ). cell 10 0 0 O.Nothing O.Nothing k) (aim_with n h.aims.0)
  cell_resolved Disarm h = refl
  cell_resolved (MA x) h = ap (λ (z : Operand). cell 11 0 0 z O.Nothing 0) (read_with x h.reads.0)
  cell_resolved (MR x) h = ap (λ (z : Operand). cell 12 0 0 z O.Nothing 0) (read_with x h.reads.0)
  cell_resolved (SL x) h = ap (λ (z : Operand). cell 13 0 0 z O.Nothing 0) (read_with x h.reads.0)
  cell_resolved (PR x) h = ap (λ (z : Operand). cell 14 0 0 z O.Nothing 0) (read_with x h.reads.0)

-- The faults 6 to 9 of a line that is heard, by what it says.
pub repeated_asked : (before : List Line) (x : Line) → Fine x → repeated before x ≡ in_declared (λ w. any_of (declares_it w) before) (said_by x)
unfolding repeated declares any_of said_by in_declared
repeated_asked before Blank f = refl
repeated_asked before (Label v) f =
    or-false (any_of (declares_it v) before) ∙ ap (λ (w : Name). any_of (declares_it w) before) (sym (name_key_lem v (free_word v f)))
repeated_asked before (Declared v z) f =
    or-false (any_of (declares_it v) before) ∙ ap (λ (w : Name). any_of (declares_it w) before) (sym (name_key_lem v (free_word v f.0)))
repeated_asked before (Acts s) f = refl

-- A test of the cell of a line: of its label, of the variable that it writes, of its operands.
abbrev pub unknown_asked : List Line → Cell → Bool
unknown_asked text c =
    (aims_at c.target && not (first_makes makes_label (name_of c.target) text))
    || ((not (eqb c.written 0) && unknown_variable text (name_of c.written)) || (in_operand (unknown_value text) c.left || in_operand (unknown_value text) c.right))

pub undeclared_asked : (text : List Line) (x : Line) → Fine x → undeclared text x ≡ in_cell (unknown_asked text) (said_by x)
unfolding undeclared unknown_in said_by in_cell
undeclared_asked text Blank f = refl
undeclared_asked text (Label v) f = refl
undeclared_asked text (Declared v z) f = refl
undeclared_asked text (Acts s) f =
    ap₂ (λ (a b : Bool). a || b) (target_asked (λ n. not (first_makes makes_label n text)) s f.0)
    (ap₂ (λ (a b : Bool). a || b) (written_asked (unknown_variable text) s f.0) (operands_asked (unknown_value text) s f.0))

pub read_only_asked : (x : Line) → Fine x
    → read_only_written x ≡ in_cell (λ c. not (eqb c.written 0) && read_only (paper_variable (name_of c.written))) (said_by x)
unfolding read_only_written said_by in_cell
read_only_asked Blank f = refl
read_only_asked (Label v) f = refl
read_only_asked (Declared v z) f = refl
read_only_asked (Acts s) f = written_asked (λ v. read_only (paper_variable v)) s f.0
