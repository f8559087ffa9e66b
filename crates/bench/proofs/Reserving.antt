-- Q-10 follows from demand 1: calls that meet it do what the request asks, the bench's own among them.
-- Assumes nothing.
use mathlib.Core.Path.{◌≡◌, refl, sym, subst, ap, ◌∙◌}
use mathlib.Core.Bool.{true, false, ◌||◌, not, false≢true, or-false, and-false}
use mathlib.Core.List.{List, [], ◌∷◌, ◌++◌, append-nil}
use mathlib.Core.Logic.{◌↔◌}
use mathlib.Core.Option.{some, some-injective}
use Prim.Native.Nat.{ℕ, zero, suc, ◌+◌, ◌≤◌, ◌<◌}
use native.Mathlib.Omega.{arith}
use borrow.Author.Tests.{le-ltb, not-false}
use lib.Dec.{T, eqb}
use lib.IntN.{ℤ}
use lib.ListN.{length, get_or, length-append}
use Rattle.numbers.specs.Bytes.{ascii}
use Rattle.numbers.specs.Tests.{any_of, any_below, eq_list, NoRow}
use Rattle.numbers.proofs.Truth.{is_true, is_no, true_is, left_of_lem, right_of, neither}
use Rattle.numbers.proofs.Tests.{eq_list_refl, none_below, any_below_lem}
use Rattle.program.specs.Names.{Name, paper_variable, two_characters, reserved, newly_reserved, user_name, free_name}
use Rattle.program.specs.Variables.{in_range, literals, most_cells}
use Rattle.program.specs.Statements.{Literal, Variable, Always, Statement, Set, BR, PR, operands, writes, targets, compared}
use Rattle.program.proofs.Keys.{two_long, user_two, newly_user}
use Rattle.text.specs.Lines.{lines}
use Rattle.text.specs.Forms.{Line, Blank, Label, Declared, Acts, reading, variable_name}
use Rattle.text.specs.Faults.{overlong, long_line, bad_form, big_literal, reserved_name, too_big, big_value, big_in, declares, declares_it, heard, repeated, too_many, makes_cell, makes_label, makes_variable, how_many, faults_of}
use Rattle.text.proofs.Filled.{Sound}
use Rattle.reading.proofs.Heard.{SoundAt, reading_sound}
use Rattle.refusals.specs.Lines.{line_at, Says, DeclaredAt, is_name, uses, UsedAt}
use Rattle.refusals.proofs.Rows.{row_2, row_3, row_4, row_5, row_6, row_7}
use Rattle.refusals.proofs.Uses.{one_name, reserved_declared, used_undeclared}
use Rattle.agreement.proofs.Names.{declares_it_lem}
use Rattle.image.specs.Layout.{label_count, variable_count}
use Rattle.image.specs.Check.{record_name, bad_name, bad_target, bad_start, bad_records, image_faults}
use Rattle.printing.specs.Listing.{plain}
use Rattle.listing.proofs.Cut.{lines_cut}
use Rattle.listing.proofs.Tokens.{fine_in_line}
use Rattle.listing.proofs.Told.{Printed, heard_printed, reads_label, reads_declared, reads_set, reads_br, reads_pr}
use Rattle.listing.proofs.Literals.{literal_length}
use Rattle.bench.specs.declared.Translated.{Translated}
use Rattle.bench.specs.Translating.{answered}
use Rattle.bench.specs.Demands.{Translate, Check, Run, Demand1, our_translate, our_check}
use Rattle.bench.specs.Requests.{NoneBefore, alone, Request10}
use Rattle.bench.proofs.Demands.{demand1}

-- ---- a text of one line

no_line_0 : (text : List ℕ) (i : ℕ) → get_or (faults_of text 0) i false ≡ false
unfolding faults_of
no_line_0 text i = refl

module _ (l : List ℕ) (x : Line) (p : Printed l x) (h : length l ≤ 64) (b : big_in x ≡ false) where
  one_line : lines (alone l) ≡ l ∷ []
  unfolding lines
  one_line = lines_cut l [] (fine_in_line l p.kind)

  one_says : Says (alone l) 1 x
  one_says = (omega arith, rw one_line (omega arith), rw one_line p.reads)

  one_short : overlong (alone l) ≡ false
  unfolding overlong
  one_short = le-ltb 16384 (length (alone l)) (rw length-append (omega arith))

  here : line_at (alone l) 1 ≡ l
  here = rw one_line refl

  not_long : long_line l ≡ false
  unfolding long_line
  not_long = le-ltb 64 (length l) h

  good_form : bad_form l ≡ false
  unfolding bad_form
  good_form = rw (bad_form, p.reads)

  small_literals : big_literal l ≡ false
  unfolding big_literal
  small_literals = rw (big_literal, p.reads) b

  -- It has none of the faults 2, 3 and 4, and there is no line before it.
  one_before : NoneBefore (alone l) 3 1
  one_before = (row, before) where
    fits : 1 ≤ length (lines (alone l))
    fits = one_says.1

    row : (j : ℕ) → j < 3 → get_or (faults_of (alone l) 1) j false ≡ false
    row zero k = row_2 (alone l) 1 (omega arith) fits ∙ ap long_line here ∙ not_long
    row (suc zero) k = row_3 (alone l) 1 (omega arith) fits ∙ ap bad_form here ∙ good_form
    row (suc (suc zero)) k = row_4 (alone l) 1 (omega arith) fits ∙ ap big_literal here ∙ small_literals
    row (suc (suc (suc j))) k = absurd (omega arith)

    before : (j : ℕ) → j < 1 → NoRow (faults_of (alone l) j)
    before zero k i = no_line_0 (alone l) i
    before (suc j) k i = absurd (omega arith)

  -- What it declares is what its line says.
  one_declared : (k : ℕ) (w : Name) → DeclaredAt (alone l) k w → declares_it w x ≡ true
  one_declared k w (y, (low, high, e), d) =
      let n : length (lines (alone l)) ≡ 1 = ap length one_line in
      let f : k ≡ 1 = omega arith in
      let g : some y ≡ some x = sym e ∙ ap (λ (j : ℕ). reading (line_at (alone l) j)) f ∙ one_says.2 in
      subst (λ (z : Line). declares_it w z ≡ true) (some-injective y x g) d

-- A statement by itself has none of the faults 2 to 7.
module _ (l : List ℕ) (s : Statement Name) (p : Printed l (Acts s)) (h : length l ≤ 64) (b : big_in (Acts s) ≡ false) where
  said_here : heard (line_at (alone l) 1) ≡ Acts s
  unfolding declares any_of
  said_here = ap heard (here l (Acts s) p h b) ∙ heard_printed l (Acts s) p h b refl

  one_used : NoneBefore (alone l) 6 1
  unfolding reserved_name declares any_of repeated too_many makes_cell makes_label makes_variable how_many most_cells
  one_used = (row, (one_before l (Acts s) p h b).1) where
    fits : 1 ≤ length (lines (alone l))
    fits = (one_says l (Acts s) p h b).1

    row : (j : ℕ) → j < 6 → get_or (faults_of (alone l) 1) j false ≡ false
    row zero k = (one_before l (Acts s) p h b).0 0 (omega arith)
    row (suc zero) k = (one_before l (Acts s) p h b).0 1 (omega arith)
    row (suc (suc zero)) k = (one_before l (Acts s) p h b).0 2 (omega arith)
    row (suc (suc (suc zero))) k = row_5 (alone l) 1 (omega arith) fits ∙ ap reserved_name (here l (Acts s) p h b) ∙ rw (reserved_name, p.reads)
    row (suc (suc (suc (suc zero)))) k = row_6 (alone l) 1 (omega arith) fits ∙ ap (repeated []) said_here
    row (suc (suc (suc (suc (suc zero))))) k = row_7 (alone l) 1 (omega arith) fits ∙ ap (too_many []) said_here
    row (suc (suc (suc (suc (suc (suc j)))))) k = absurd (omega arith)

-- ---- the request

same_answer : (a : Translated) {n l k : ℕ} → a.number ≡ n → a.line ≡ l → a.length ≡ k → a ≡ answered n l k
same_answer a e f g = rw (← e, ← f, ← g) refl

-- A name that a line of the right form declares has two characters.
declared_two : (x : Line) (w : Name) → Sound x → declares_it w x ≡ true → T (two_characters w)
unfolding declares_it declares any_of
declared_two Blank w s e = absurd (false≢true e)
declared_two (Label v) w s e = rw (one_name w v e) s
declared_two (Declared v z) w s e = rw (one_name w v e) s
declared_two (Acts a) w s e = absurd (false≢true e)

-- The lines that the request names: what each declares or uses, and that it is short.
self : (w : Name) → (eq_list w w || false) ≡ true
self w = rw (is_true (eq_list w w) (eq_list_refl w))

module _ (w : Name) where
  label_declares : declares_it w (Label w) ≡ true
  unfolding declares
  label_declares = declares_it_lem w (Label w) refl

  label_alone : (v : Name) → declares_it v (Label w) ≡ true → v ≡ w
  unfolding declares_it declares any_of
  label_alone v e = one_name v w e

  variable_declares : (z : ℤ) → declares_it w (Declared w z) ≡ true
  unfolding declares
  variable_declares z = declares_it_lem w (Declared w z) refl

  variable_alone : (z : ℤ) (v : Name) → declares_it v (Declared w z) ≡ true → v ≡ w
  unfolding declares_it declares any_of
  variable_alone z v e = one_name v w e

  read_uses : uses w (PR (Variable w)) ≡ true
  unfolding uses is_name any_of operands writes targets
  read_uses = self w

  target_uses : uses w (BR w Always) ≡ true
  unfolding uses any_of targets
  target_uses = rw (self w)

  written_uses : (z : ℤ) → uses w (Set w (Literal z)) ≡ true
  unfolding uses any_of targets writes
  written_uses z = rw (self w)

  newly_two : newly_reserved w ≡ true → T (two_characters w)
  newly_two n = user_two w (newly_user w (true_is (newly_reserved w) n))

  newly_variable : newly_reserved w ≡ true → T (variable_name w)
  unfolding variable_name
  newly_variable n = right_of (not (eqb (paper_variable w) 0)) (user_name w) (newly_user w (true_is (newly_reserved w) n))

  reads_jump : T (user_name w) → Printed (ascii "BR " ++ w) (Acts (BR w Always))
  unfolding compared
  reads_jump t = subst (λ (v : Name). Printed (ascii "BR " ++ v) (Acts (BR w Always))) (append-nil w) (reads_br w Always t tt)

name_short : (m : List ℕ) (w : Name) → length m ≡ 3 → T (two_characters w) → length (m ++ w) ≤ 64
name_short m w e t = rw length-append (omega (arith, two_long w t))

module _ (w : Name) (z : ℤ) (t : T (two_characters w)) where
  set_short : length (w ++ (ascii "=" ++ plain z)) ≤ 64
  unfolding ascii
  set_short = rw length-append (omega (arith, two_long w t, literal_length z))

  declared_short : length (ascii "VA " ++ (w ++ (ascii "=" ++ plain z))) ≤ 64
  unfolding ascii
  declared_short = rw (length-append (ascii "VA ") (w ++ (ascii "=" ++ plain z)), length-append w (ascii "=" ++ plain z)) (omega (arith, two_long w t, literal_length z))

not_big : (z : ℤ) → in_range literals z ≡ true → too_big z ≡ false
unfolding too_big
not_big z r = rw r

-- A record with a reserved name is bad, and one that is not bad has a free name.
module _ (s : List ℕ) (k : ℕ) (h : k < label_count s + variable_count s) where
  bad_record_lem : reserved (record_name s k) ≡ true → bad_records s ≡ true
  unfolding bad_records bad_name free_name
  bad_record_lem r = rw (any_below_lem (bad_name s) (label_count s + variable_count s) k h bad) where
    bad : bad_name s k ≡ true
    bad = is_true (bad_name s k) (left_of_lem (not (free_name (record_name s k))) (any_below k (λ j. eq_list (record_name s j) (record_name s k))) (rw (r, and-false (two_characters (record_name s k))) tt))

  good_record : bad_records s ≡ false → free_name (record_name s k) ≡ true
  unfolding bad_records bad_name
  good_record e =
      let n = (neither (any_below (label_count s + variable_count s) (bad_name s)) (any_below (label_count s) (bad_target s) || any_below (variable_count s) (bad_start s)) e).0 in
      let g = none_below (bad_name s) (label_count s + variable_count s) n k h in
      not-false (free_name (record_name s k)) (neither (not (free_name (record_name s k))) (any_below k (λ j. eq_list (record_name s j) (record_name s k))) g).0

module _ {translate : Translate} {check : Check} {run : Run} (d : Demand1 translate check run) where
  five_exactly : (text buffer : List ℕ) (l : ℕ)
      → (((translate text buffer).answer.number ≡ 5) × ((translate text buffer).answer.line ≡ l))
      ↔ ((overlong text ≡ false) × NoneBefore text 3 l × ((w : Name) × (reserved w ≡ true) × DeclaredAt text l w))
  five_exactly text buffer l =
      let f = (d.translating text buffer).faulty 3 l (omega arith) in (
        λ q. let g = f.0 q in (g.0, (g.1.0.1, g.1.1), (reserved_declared text l).0 g.1.0.0),
        λ q. f.1 (q.0, (((reserved_declared text l).1 q.2, q.1.0), q.1.1)),
      )

  -- A line by itself that declares one name.
  five_alone : (l : List ℕ) (x : Line) (w : Name) (buffer : List ℕ) → Printed l x → length l ≤ 64 → big_in x ≡ false → declares_it w x ≡ true → ((v : Name) → declares_it v x ≡ true → v ≡ w)
      → ((translate (alone l) buffer).answer.number ≡ 5) ↔ (reserved w ≡ true)
  five_alone l x w buffer p h b self only = (
    λ e.
        let g = ((five_exactly (alone l) buffer (translate (alone l) buffer).answer.line).0 (e, refl)).2 in
        subst (λ (v : Name). reserved v ≡ true) (only g.0 (one_declared l x p h b _ g.0 g.2)) g.1,
    λ r. ((five_exactly (alone l) buffer 1).1 (one_short l x p h b, one_before l x p h b, (w, r, (x, one_says l x p h b, self)))).0,
  )

  free_declared : (text buffer : List ℕ) → (translate text buffer).answer.number ≡ 0 → (l : ℕ) (w : Name) → DeclaredAt text l w → free_name w ≡ true
  unfolding free_name
  free_declared text buffer e l w (x, says, it) =
      let none = ((d.translating text buffer).number_0.0 e).1 in
      let sound : Sound x = subst SoundAt says.2 (reading_sound (line_at text l)) in
      let r : reserved w ≡ false = is_no (reserved w) (λ t. false≢true (sym (none l 3) ∙ (reserved_declared text l).1 (w, is_true (reserved w) t, (x, says, it)))) in
      rw (is_true (two_characters w) (declared_two x w sound it), r)

  eight_at : (text buffer : List ℕ) (l : ℕ) (w : Name) → newly_reserved w ≡ true → UsedAt text l w → overlong text ≡ false → NoneBefore text 6 l
      → ((translate text buffer).answer.number ≡ 8) × ((translate text buffer).answer.line ≡ l)
  eight_at text buffer l w n u short none =
      let row = none.0 in
      ((d.translating text buffer).faulty 6 l (omega arith)).1
      (short, ((used_undeclared w n text l u (row 0 (omega arith)) (row 1 (omega arith)) (row 2 (omega arith)) (row 3 (omega arith)), row), none.1))

  -- A statement by itself that uses such a word.
  eight_alone : (l : List ℕ) (s : Statement Name) (w : Name) (buffer : List ℕ) → newly_reserved w ≡ true → uses w s ≡ true → Printed l (Acts s) → length l ≤ 64
      → big_in (Acts s) ≡ false → (translate (alone l) buffer).answer ≡ answered 8 1 0
  eight_alone l s w buffer n u p h b =
      let t = translate (alone l) buffer in
      let e = eight_at (alone l) buffer 1 w n (s, one_says l (Acts s) p h b, u) (one_short l (Acts s) p h b) (one_used l s p h b) in
      same_answer t.answer e.0 e.1 ((d.translating (alone l) buffer).length_refused (λ z. absurd (let y = e.0 in omega arith)))

  pub request10 : Request10 translate check
  unfolding big_in big_value any_of operands writes targets compared image_faults ascii
  request10 =
      record {
        five = five_exactly;
        five_label = λ w buffer t.
            let two = true_is (two_characters w) t in
            five_alone (ascii "LB " ++ w) (Label w) w buffer (reads_label w two) (name_short (ascii "LB ") w refl two) refl (label_declares w) (label_alone w);
        five_variable = λ w z buffer t r.
            let two = true_is (two_characters w) t in
            five_alone (ascii "VA " ++ (w ++ (ascii "=" ++ plain z))) (Declared w z) w buffer (reads_declared w z two (true_is (in_range literals z) r))
            (declared_short w z two) (not_big z r) (variable_declares w z) (variable_alone w z);
        free_text = free_declared;
        twenty_five = λ s k h r none. ((d.checking s).refused 4).1 (bad_record_lem s k h r, none);
        free_image = λ s e k h. good_record s k h ((d.checking s).none.0 e 4);
        eight = eight_at;
        eight_read = λ w buffer n.
            eight_alone (ascii "PR " ++ w) (PR (Variable w)) w buffer n (read_uses w) (reads_pr (Variable w) (newly_variable w n))
            (name_short (ascii "PR ") w refl (newly_two w n)) refl;
        eight_target = λ w buffer n.
            eight_alone (ascii "BR " ++ w) (BR w Always) w buffer n (target_uses w) (reads_jump w (newly_user w (true_is (newly_reserved w) n)))
            (name_short (ascii "BR ") w refl (newly_two w n)) refl;
        eight_written = λ w z buffer n r.
            eight_alone (w ++ (ascii "=" ++ plain z)) (Set w (Literal z)) w buffer n (written_uses w z)
            (reads_set w (Literal z) (newly_variable w n) (true_is (in_range literals z) r)) (set_short w z (newly_two w n)) (or-false (too_big z) ∙ not_big z r);
      }

-- The bench's own calls do what Q-10 asks.
pub request10_ours : Request10 our_translate our_check
request10_ours = request10 demand1
