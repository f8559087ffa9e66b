-- Each cell of an accepted image is the cell of its own statement, whose variables and labels are all there.
-- Assumes nothing.
use mathlib.Core.Path.{◌≡◌, refl, sym, subst}
use mathlib.Core.Bool.{Bool, true, false, cond, ◌&&◌, not}
use mathlib.Core.List.{List}
use mathlib.Core.Logic.{⊎_elim}
use Prim.Native.Nat.{ℕ, ◌+◌, ◌*◌, ◌/◌, ◌%◌, ◌≤◌}
use native.Mathlib.Omega.{arith}
use borrow.Author.Tests.{ne_eqb, eqb-true}
use lib.Dec.{T, eqb, leb, leb→le, eqb→eq}
use Rattle.numbers.specs.Bytes.{field}
use Rattle.numbers.specs.Bits.{signed32}
use Rattle.numbers.specs.Tests.{any_of, any_below}
use Rattle.program.specs.Variables.{in_range, literals, present, read_only}
use Rattle.program.specs.Statements.{Value, Literal, Variable, Statement, compared, operands, writes, targets}
use Rattle.program.specs.Cells.{no_target, cell, same, operand_of, jump_of, cell_of, value_of, condition_of, hold_of, statement_by, statement_of}
use Rattle.program.specs.declared.Cell.{Cell}
use Rattle.program.specs.declared.Operand.{Operand}
use Rattle.program.specs.declared.Operand.TheVariants as O
use Rattle.numbers.proofs.Truth.{both, either}
use Rattle.numbers.proofs.Tests.{from_any}
use Rattle.program.proofs.Statements.{Refers}
use Rattle.program.proofs.Selectors.{operator_number_lem, comparison_number_lem}
use Rattle.image.specs.Layout.{label_count, variable_count, cell_at, operand_at, label_target}
use Rattle.image.specs.Check.{Use, uses, layouts, fits, good_written, good_selector, good_operand, good_target}
use Rattle.listing.proofs.Cells.{Fit, fitting}

-- One row of a table and those behind it.
infixr 5 ◌then◌
◌then◌ : {A B : Type 0} → A → B → A × B
a then b = (a, b)

-- A statement of an image: what it writes is there and not read-only, what it reads is there, what it names has a label.
module _ (s : List ℕ) where
  abbrev pub Written : ℕ → Type 0
  Written v = T (present (variable_count s) v) × T (not (read_only v))

  abbrev pub Read : Value ℕ → Type 0
  Read (Literal z) = T (in_range literals z)
  Read (Variable v) = T (present (variable_count s) v)

  abbrev pub Aimed : ℕ → Type 0
  Aimed n = T (any_below (label_count s) (λ k. eqb (label_target s k) n))

  abbrev pub Resolved : Statement ℕ → Type 0
  Resolved a = Refers Read Written Aimed a

  -- An operand that is there.
  abbrev Used : Operand → Type 0
  Used O.Nothing = ⊥
  Used (O.Literal z) = T (in_range literals z)
  Used (O.Variable v) = T (present (variable_count s) v)

  -- A cell that is that of its statement.
  pub record Stands (c : Cell) : Type 0 where
    pub resolved : Resolved (statement_of c)
    pub again : cell_of same same (statement_of c) ≡ c

  operand_again : (o : Operand) → Used o → operand_of same same (value_of o) ≡ o
  unfolding operand_of value_of
  operand_again O.Nothing u = absurd u
  operand_again (O.Literal z) u = refl
  operand_again (O.Variable v) u = refl

  operand_read : (o : Operand) → Used o → Read (value_of o)
  unfolding value_of
  operand_read O.Nothing u = absurd u
  operand_read (O.Literal z) u = u
  operand_read (O.Variable v) u = u

  -- Each layout.
  set_stands : (v : ℕ) (l : Operand) → Written v → Used l → Stands (cell 1 v 0 l O.Nothing 0)
  unfolding operands writes targets compared statement_of statement_by cell_of
  set_stands v l w u = record { resolved = record { reads = (operand_read l u, tt); sets = (w, tt); aims = tt }; again = rw (operand_again l u) }

  set_with_stands : (v o : ℕ) (l r : Operand) → Written v → (1 ≤ o) × (o ≤ 7) → Used l → Used r → Stands (cell 2 v o l r 0)
  unfolding operands writes targets compared statement_of statement_by cell_of
  set_with_stands v o l r w h u t =
      record { resolved = record { reads = (operand_read l u, (operand_read r t, tt)); sets = (w, tt); aims = tt }; again = rw (operand_again l u, operand_again r t, operator_number_lem o h.0 h.1) }

  ic_stands : (v : ℕ) → Written v → Stands (cell 3 v 0 O.Nothing O.Nothing 0)
  unfolding operands writes targets compared statement_of statement_by cell_of
  ic_stands v w = record { resolved = record { reads = tt; sets = (w, tt); aims = tt }; again = refl }

  dc_stands : (v : ℕ) → Written v → Stands (cell 4 v 0 O.Nothing O.Nothing 0)
  unfolding operands writes targets compared statement_of statement_by cell_of
  dc_stands v w = record { resolved = record { reads = tt; sets = (w, tt); aims = tt }; again = refl }

  br_stands : (n : ℕ) → Aimed n → Stands (cell 5 0 0 O.Nothing O.Nothing n)
  unfolding operands writes targets compared statement_of statement_by condition_of cell_of jump_of
  br_stands n a = record { resolved = record { reads = tt; sets = tt; aims = (a, tt) }; again = refl }

  cl_stands : (n : ℕ) → Aimed n → Stands (cell 6 0 0 O.Nothing O.Nothing n)
  unfolding operands writes targets compared statement_of statement_by condition_of cell_of jump_of
  cl_stands n a = record { resolved = record { reads = tt; sets = tt; aims = (a, tt) }; again = refl }

  br_if_stands : (n c : ℕ) (l r : Operand) → Aimed n → (1 ≤ c) × (c ≤ 6) → Used l → Used r → Stands (cell 5 0 c l r n)
  unfolding operands writes targets compared statement_of statement_by condition_of cell_of jump_of
  br_if_stands n c l r a h u t = record {
    resolved = rw (ne_eqb c 0 (λ e. omega arith)) (record { reads = (operand_read l u, (operand_read r t, tt)); sets = tt; aims = (a, tt) });
    again = rw (ne_eqb c 0 (λ e. omega arith)) (rw (operand_again l u, operand_again r t, comparison_number_lem c h.0 h.1));
  }

  cl_if_stands : (n c : ℕ) (l r : Operand) → Aimed n → (1 ≤ c) × (c ≤ 6) → Used l → Used r → Stands (cell 6 0 c l r n)
  unfolding operands writes targets compared statement_of statement_by condition_of cell_of jump_of
  cl_if_stands n c l r a h u t = record {
    resolved = rw (ne_eqb c 0 (λ e. omega arith)) (record { reads = (operand_read l u, (operand_read r t, tt)); sets = tt; aims = (a, tt) });
    again = rw (ne_eqb c 0 (λ e. omega arith)) (rw (operand_again l u, operand_again r t, comparison_number_lem c h.0 h.1));
  }

  rt_stands : Stands (cell 7 0 0 O.Nothing O.Nothing 0)
  unfolding operands writes targets compared statement_of statement_by cell_of
  rt_stands = record { resolved = record { reads = tt; sets = tt; aims = tt }; again = refl }

  e_stands : Stands (cell 8 0 0 O.Nothing O.Nothing 0)
  unfolding operands writes targets compared statement_of statement_by cell_of
  e_stands = record { resolved = record { reads = tt; sets = tt; aims = tt }; again = refl }

  h_stands : Stands (cell 9 0 0 O.Nothing O.Nothing 0)
  unfolding operands writes targets compared statement_of statement_by hold_of cell_of
  h_stands = record { resolved = record { reads = tt; sets = tt; aims = tt }; again = refl }

  hold_stands : (l : Operand) → Used l → Stands (cell 9 0 0 l O.Nothing 0)
  unfolding operands writes targets compared statement_of statement_by hold_of cell_of operand_of
  hold_stands O.Nothing u = absurd u
  hold_stands (O.Literal z) u = record { resolved = record { reads = (u, tt); sets = tt; aims = tt }; again = refl }
  hold_stands (O.Variable v) u = record { resolved = record { reads = (u, tt); sets = tt; aims = tt }; again = refl }

  ma_stands : (l : Operand) → Used l → Stands (cell 11 0 0 l O.Nothing 0)
  unfolding operands writes targets compared statement_of statement_by cell_of
  ma_stands l u = record { resolved = record { reads = (operand_read l u, tt); sets = tt; aims = tt }; again = rw (operand_again l u) }

  mr_stands : (l : Operand) → Used l → Stands (cell 12 0 0 l O.Nothing 0)
  unfolding operands writes targets compared statement_of statement_by cell_of
  mr_stands l u = record { resolved = record { reads = (operand_read l u, tt); sets = tt; aims = tt }; again = rw (operand_again l u) }

  sl_stands : (l : Operand) → Used l → Stands (cell 13 0 0 l O.Nothing 0)
  unfolding operands writes targets compared statement_of statement_by cell_of
  sl_stands l u = record { resolved = record { reads = (operand_read l u, tt); sets = tt; aims = tt }; again = rw (operand_again l u) }

  pr_stands : (l : Operand) → Used l → Stands (cell 14 0 0 l O.Nothing 0)
  unfolding operands writes targets compared statement_of statement_by cell_of
  pr_stands l u = record { resolved = record { reads = (operand_read l u, tt); sets = tt; aims = tt }; again = rw (operand_again l u) }

  -- OE of a label, or of none.
  armed : (n : ℕ) (b : Bool) → eqb n no_target ≡ b → T (good_target s 10 true n) → Stands (cell 10 0 0 O.Nothing O.Nothing n)
  unfolding operands writes targets compared good_target statement_of statement_by cell_of
  armed n true e t = record { resolved = rw e (record { reads = tt; sets = tt; aims = tt }); again = rw e (rw (eqb-true n no_target e)) }
  armed n false e t = record { resolved = rw e (record { reads = tt; sets = tt; aims = (rw e at t, tt) }); again = rw e }

  -- What a layout tells of the fields.
  written_there : (v : ℕ) → T (good_written (variable_count s) true v) → Written v
  unfolding good_written
  written_there v t = both (present (variable_count s) v) (not (read_only v)) t

  used : (shape place : ℕ) → T (good_operand (variable_count s) true shape (field 4 place s)) → Used (operand_at shape place s)
  unfolding good_operand operand_at
  used shape place t =
      let n = field 4 place s in
      ⊎_elim
      (λ p. let q = both (eqb shape 1) (in_range literals (signed32 n)) p in let e = eqb→eq shape 1 q.0 in rw e q.1)
      (λ p. let q = both (eqb shape 2) (present (variable_count s) n) p in let e = eqb→eq shape 2 q.0 in rw e q.1)
      (either (eqb shape 1 && in_range literals (signed32 n)) (eqb shape 2 && present (variable_count s) n) t)

  aimed : (o n : ℕ) → eqb o 10 ≡ false → T (good_target s o true n) → Aimed n
  unfolding good_target
  aimed o n e t = rw e at t

  chosen : (last n : ℕ) → eqb last 0 ≡ false → T (good_selector last n) → (1 ≤ n) × (n ≤ last)
  unfolding good_selector
  chosen last n e t = let q = both (leb 1 n) (leb n last) (rw e at t) in (leb→le 1 n q.0, leb→le n last q.1)

  -- The fields that a layout does not use are empty.
  unwritten : (b : Bool) (v : ℕ) → T (good_written (variable_count s) b v) → v ≡ cond b v 0
  unfolding good_written
  unwritten true v t = refl
  unwritten false v t = eqb→eq v 0 t

  unchosen : (last n : ℕ) → T (good_selector last n) → n ≡ cond (eqb last 0) 0 n
  unfolding good_selector
  unchosen last n t = go (eqb last 0) t where
    go : (b : Bool) → T (cond b (eqb n 0) (leb 1 n && leb n last)) → n ≡ cond b 0 n
    go true h = eqb→eq n 0 h
    go false h = refl

  unused : (b : Bool) (shape place : ℕ) → T (good_operand (variable_count s) b shape (field 4 place s)) → operand_at shape place s ≡ cond b (operand_at shape place s) O.Nothing
  unfolding good_operand operand_at
  unused true shape place t = refl
  unused false shape place t = let e = eqb→eq shape 0 (both (eqb shape 0) (eqb (field 4 place s) 0) t).0 in rw e

  unaimed : (o : ℕ) (b : Bool) (n : ℕ) → T (good_target s o b n) → n ≡ cond b n 0
  unfolding good_target
  unaimed o true n t = refl
  unaimed o false n t = eqb→eq n 0 t

  module _ (k : ℕ) where
    abbrev at : Cell
    at = cell_at s k

    -- The cell with just the fields that the layout uses.
    by_use : (u : Use) → Fit s (16 * k) u
        → at ≡ cell u.operation (cond u.writes at.written 0) (cond (eqb u.selectors 0) 0 at.selector)
        (cond u.left at.left O.Nothing) (cond u.right at.right O.Nothing) (cond u.target at.target 0)
    unfolding cell_at
    by_use u f =
        fields f.operation (unwritten u.writes (field 1 (16 * k + 1) s) f.written) (unchosen u.selectors (field 1 (16 * k + 2) s) f.selector)
        (unused u.left (field 1 (16 * k + 3) s % 4) (16 * k + 4) f.left) (unused u.right (field 1 (16 * k + 3) s / 4) (16 * k + 8) f.right)
        (unaimed u.operation u.target (field 2 (16 * k + 12) s) f.target)
      where
        fields : {a a' b b' c c' d d' : ℕ} {l l' r r' : Operand} → a ≡ a' → b ≡ b' → c ≡ c' → l ≡ l' → r ≡ r' → d ≡ d' → cell a b c l r d ≡ cell a' b' c' l' r' d'
        fields p q e f g h = cc

    fit : (u : Use) → ((f : Fit s (16 * k) u) → Stands (cell u.operation (cond u.writes at.written 0) (cond (eqb u.selectors 0) 0 at.selector)
        (cond u.left at.left O.Nothing) (cond u.right at.right O.Nothing) (cond u.target at.target 0)))
        → T (fits s (16 * k) u) → Stands at
    fit u h t = let f = fitting s (16 * k) u t in subst Stands (sym (by_use u f)) (h f)

    wrote : T (good_written (variable_count s) true (field 1 (16 * k + 1) s)) → Written at.written
    unfolding cell_at
    wrote t = written_there (field 1 (16 * k + 1) s) t

    left : T (good_operand (variable_count s) true (field 1 (16 * k + 3) s % 4) (field 4 (16 * k + 4) s)) → Used at.left
    unfolding cell_at
    left t = used (field 1 (16 * k + 3) s % 4) (16 * k + 4) t

    right : T (good_operand (variable_count s) true (field 1 (16 * k + 3) s / 4) (field 4 (16 * k + 8) s)) → Used at.right
    unfolding cell_at
    right t = used (field 1 (16 * k + 3) s / 4) (16 * k + 8) t

    aims : (o : ℕ) → eqb o 10 ≡ false → T (good_target s o true (field 2 (16 * k + 12) s)) → Aimed at.target
    unfolding cell_at
    aims o e t = aimed o (field 2 (16 * k + 12) s) e t

    chooses : (last : ℕ) → eqb last 0 ≡ false → T (good_selector last (field 1 (16 * k + 2) s)) → (1 ≤ at.selector) × (at.selector ≤ last)
    unfolding cell_at
    chooses last e t = chosen last (field 1 (16 * k + 2) s) e t

    arms : T (good_target s 10 true (field 2 (16 * k + 12) s)) → Stands (cell 10 0 0 O.Nothing O.Nothing at.target)
    unfolding cell_at
    arms t = armed (field 2 (16 * k + 12) s) (eqb (field 2 (16 * k + 12) s) no_target) refl t

    -- A cell that has one of the layouts.
    pub stands : T (any_of (fits s (16 * k)) layouts) → Stands (cell_at s k)
    unfolding layouts
    stands t =
        from_any (fits s (16 * k)) (Stands at) layouts
        (fit (uses 1 true 0 true false false) (λ f. set_stands at.written at.left (wrote f.written) (left f.left))
        then fit (uses 2 true 7 true true false) (λ f. set_with_stands at.written at.selector at.left at.right (wrote f.written) (chooses 7 refl f.selector) (left f.left) (right f.right))
        then fit (uses 3 true 0 false false false) (λ f. ic_stands at.written (wrote f.written))
        then fit (uses 4 true 0 false false false) (λ f. dc_stands at.written (wrote f.written))
        then fit (uses 5 false 0 false false true) (λ f. br_stands at.target (aims 5 refl f.target))
        then fit (uses 5 false 6 true true true) (λ f. br_if_stands at.target at.selector at.left at.right (aims 5 refl f.target) (chooses 6 refl f.selector) (left f.left) (right f.right))
        then fit (uses 6 false 0 false false true) (λ f. cl_stands at.target (aims 6 refl f.target))
        then fit (uses 6 false 6 true true true) (λ f. cl_if_stands at.target at.selector at.left at.right (aims 6 refl f.target) (chooses 6 refl f.selector) (left f.left) (right f.right))
        then fit (uses 7 false 0 false false false) (λ f. rt_stands)
        then fit (uses 8 false 0 false false false) (λ f. e_stands)
        then fit (uses 9 false 0 false false false) (λ f. h_stands)
        then fit (uses 9 false 0 true false false) (λ f. hold_stands at.left (left f.left))
        then fit (uses 10 false 0 false false true) (λ f. arms f.target)
        then fit (uses 11 false 0 true false false) (λ f. ma_stands at.left (left f.left))
        then fit (uses 12 false 0 true false false) (λ f. mr_stands at.left (left f.left))
        then fit (uses 13 false 0 true false false) (λ f. sl_stands at.left (left f.left))
        then fit (uses 14 false 0 true false false) (λ f. pr_stands at.left (left f.left))
        then tt)
        t
