-- Document 02, Q-10: fault 5 is for a line that declares a reserved name; no other line declares one, so a line that uses one has fault 8.
-- Assumes nothing.
use mathlib.Core.Path.{◌≡◌, refl, sym, subst, ap, ◌∙◌}
use mathlib.Core.Bool.{Bool, true, false, ◌||◌, not, false≢true, or-false}
use mathlib.Core.List.{List, [], ◌∷◌, map}
use mathlib.Core.Logic.{◌↔◌, ⊎_elim}
use mathlib.Core.Option.{Option, none, some}
use Prim.Native.Nat.{ℕ, ◌≤◌, ◌<◌}
use lib.Dec.{T, eqb}
use lib.ListN.{length}
use borrow.Author.Tests.{not-false}
use Rattle.numbers.specs.Tests.{any_of, eq_list, numbered}
use Rattle.numbers.proofs.Truth.{is_true, is_false, is_no, true_is, both, either, neither, left_of_lem, right_of}
use Rattle.numbers.proofs.Tests.{eq_list_eq, eq_list_refl, any_then}
use Rattle.program.specs.Names.{Name, mnemonics, paper_variable, paper_word, reserved, newly_reserved}
use Rattle.program.specs.Statements.{Value, Literal, Variable, Statement, operands, writes, targets}
use Rattle.text.specs.Lines.{lines}
use Rattle.text.specs.Forms.{Line, Blank, Label, Declared, Acts, reading}
use Rattle.text.specs.Faults.{reserved_name, declares, declares_it, heard, first_makes, makes_label, makes_variable, unknown_variable, unknown_value, unknown_in, undeclared, said}
use Rattle.text.proofs.Heard.{heard_by}
use Rattle.refusals.specs.Lines.{line_at, DeclaredAt, is_name, uses, UsedAt}
use Rattle.refusals.proofs.Rows.{has, row_2, row_3, row_4, row_5, row_8, fault_range}

-- ---- Q-10 3: which lines have fault 5

-- A line says one name to be declared, or none.
declared_found : (x : Line) → any_of reserved (declares x) ≡ true → (w : Name) × (reserved w ≡ true) × (declares_it w x ≡ true)
unfolding any_of declares declares_it
declared_found Blank e = absurd (false≢true e)
declared_found (Label w) e = (w, sym (or-false (reserved w)) ∙ e, rw (is_true (eq_list w w) (eq_list_refl w)))
declared_found (Declared w z) e = (w, sym (or-false (reserved w)) ∙ e, rw (is_true (eq_list w w) (eq_list_refl w)))
declared_found (Acts s) e = absurd (false≢true e)

pub one_name : (w v : Name) → (eq_list w v || false) ≡ true → w ≡ v
one_name w v e = eq_list_eq w v (true_is (eq_list w v) (sym (or-false (eq_list w v)) ∙ e))

same_reserved : (v w : Name) → (eq_list w v || false) ≡ true → reserved w ≡ true → reserved v ≡ true
same_reserved v w e r = subst (λ (u : Name). reserved u ≡ true) (one_name w v e) r

declared_reserved : (x : Line) (w : Name) → reserved w ≡ true → declares_it w x ≡ true → any_of reserved (declares x) ≡ true
unfolding any_of declares declares_it
declared_reserved Blank w r e = absurd (false≢true e)
declared_reserved (Label v) w r e = rw (same_reserved v w e r)
declared_reserved (Declared v z) w r e = rw (same_reserved v w e r)
declared_reserved (Acts s) w r e = absurd (false≢true e)

module _ (text : List ℕ) (l : ℕ) where
  -- Line l of a text has fault 5 exactly if it declares a reserved name.
  pub reserved_declared : (has text 5 l ≡ true) ↔ ((w : Name) × (reserved w ≡ true) × DeclaredAt text l w)
  unfolding reserved_name
  reserved_declared = (there, back) where
    there : has text 5 l ≡ true → (w : Name) × (reserved w ≡ true) × DeclaredAt text l w
    there h = pick (reading (line_at text l)) refl (sym (row_5 text l p.1 p.2) ∙ h) where
      p : (3 < 8) × (1 ≤ l) × (l ≤ length (lines text))
      p = fault_range text 3 l h

      pick : (o : Option Line) → reading (line_at text l) ≡ o → elim o [ none ↦ false | some x ↦ any_of reserved (declares x) ] ≡ true
          → (w : Name) × (reserved w ≡ true) × DeclaredAt text l w
      pick none e q = absurd (false≢true q)
      pick (some x) e q = let f = declared_found x q in (f.0, f.1, (x, (p.1, p.2, e), f.2))

    back : (w : Name) × (reserved w ≡ true) × DeclaredAt text l w → has text 5 l ≡ true
    back (w, r, (x, s, d)) =
        row_5 text l s.0 s.1
        ∙ ap (λ (o : Option Line). elim o [ none ↦ false | some y ↦ any_of reserved (declares y) ]) s.2
        ∙ declared_reserved x w r d

-- ---- Q-10 5: a reserved name has no declaration

-- What is heard declares no reserved name.
heard_other : (w : Name) (l : List ℕ) → reserved w ≡ true → declares_it w (heard l) ≡ false
unfolding declares_it declares any_of
heard_other w l r =
    heard_by (λ x. declares_it w x ≡ false) l refl
    (λ x e b k. is_no (declares_it w x) (λ d. false≢true (sym k ∙ declared_reserved x w r (is_true (declares_it w x) d))))

module _ (w : Name) (r : reserved w ≡ true) (make : Line → Bool) where
  first_none : (ls : List (List ℕ)) → first_makes make w (map heard ls) ≡ false
  unfolding first_makes
  first_none [] = refl
  first_none (l ∷ ls) = rw (heard_other w l r) (first_none ls)

-- A statement that uses a newly reserved word names something that is not declared.
module _ (w : Name) (n : newly_reserved w ≡ true) (text : List ℕ) where
  new_reserved : reserved w ≡ true
  unfolding newly_reserved
  new_reserved = is_true (reserved w) (both (reserved w) (not (paper_word w)) (true_is (newly_reserved w) n)).0

  no_paper : eqb (paper_variable w) 0 ≡ true
  unfolding newly_reserved paper_word
  no_paper = not-false _ (neither (not (eqb (numbered mnemonics w) 0)) (not (eqb (paper_variable w) 0)) (is_false (paper_word w) (both (reserved w) (not (paper_word w)) (true_is (newly_reserved w) n)).1)).1

  -- As a label, as a variable, in an operand.
  unknown_label : (v : Name) → T (eq_list w v) → T (not (first_makes makes_label v (said text)))
  unfolding said
  unknown_label v t = rw (← eq_list_eq w v t, first_none w new_reserved makes_label (lines text)) tt

  unknown_name : (v : Name) → T (eq_list w v) → T (unknown_variable (said text) v)
  unfolding unknown_variable said
  unknown_name v t = rw (← eq_list_eq w v t, no_paper, first_none w new_reserved makes_variable (lines text)) tt

  unknown_operand_lem : (x : Value Name) → T (is_name w x) → T (unknown_value (said text) x)
  unfolding is_name unknown_value
  unknown_operand_lem (Literal z) t = absurd t
  unknown_operand_lem (Variable v) t = unknown_name v t

  unknown_use : (s : Statement Name) → uses w s ≡ true → unknown_in (said text) s ≡ true
  unfolding uses unknown_in
  unknown_use s e =
      let label = any_of (λ v. not (first_makes makes_label v (said text))) (targets s) in
      let written = any_of (unknown_variable (said text)) (writes s) in
      let read = any_of (unknown_value (said text)) (operands s) in
      is_true (label || (written || read))
      (⊎_elim
      (λ t. left_of_lem label (written || read) (any_then (eq_list w) (λ v. not (first_makes makes_label v (said text))) unknown_label (targets s) t))
      (λ m. right_of label (written || read)
      (⊎_elim
      (λ t. left_of_lem written read (any_then (eq_list w) (unknown_variable (said text)) unknown_name (writes s) t))
      (λ t. right_of written read (any_then (is_name w) (unknown_value (said text)) unknown_operand_lem (operands s) t))
      (either (any_of (eq_list w) (writes s)) (any_of (is_name w) (operands s)) m)))
      (either (any_of (eq_list w) (targets s)) (any_of (eq_list w) (writes s) || any_of (is_name w) (operands s)) (true_is (uses w s) e)))

  -- A line that uses such a word, and has none of the faults 2 to 5, has fault 8.
  pub used_undeclared : (l : ℕ) → UsedAt text l w → (has text 2 l ≡ false) → (has text 3 l ≡ false) → (has text 4 l ≡ false) → (has text 5 l ≡ false) → has text 8 l ≡ true
  unfolding heard undeclared
  used_undeclared l (s, (low, high, e), u) a b c d =
      row_8 text l low high
      ∙ rw (sym (row_2 text l low high) ∙ a, sym (row_3 text l low high) ∙ b, sym (row_4 text l low high) ∙ c, sym (row_5 text l low high) ∙ d, e)
      (unknown_use s u)
