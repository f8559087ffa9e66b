-- A text whose lines have none of the faults 2 to 5, declare each name once, keep the limits and name what is declared, has no fault.
-- Assumes nothing.
use mathlib.Core.Path.{◌≡◌, refl, sym, subst, ◌∙◌}
use mathlib.Core.Bool.{Bool, true, false, cond, ◌&&◌, ◌||◌, not}
use mathlib.Core.List.{List, [], ◌∷◌, ◌++◌, map, flat_map, append_assoc, append-nil}
use Prim.Native.Nat.{ℕ, suc, ◌+◌, ◌≤◌}
use native.Mathlib.Omega.{arith}
use borrow.Author.Tests.{lt-leb}
use lib.Dec.{T, leb}
use Rattle.numbers.specs.Tests.{all_of, any_of, eq_list, lowest}
use Rattle.numbers.proofs.Lists.{flat_append}
use Rattle.numbers.proofs.Truth.{both, is_false, neither}
use Rattle.program.specs.Names.{Name}
use Rattle.program.specs.Variables.{most_cells, most_labels, most_variables}
use Rattle.text.specs.Forms.{Line, Blank, Label, Declared, Acts}
use Rattle.text.specs.Faults.{long_line, bad_form, big_literal, reserved_name, heard, declares, repeated, too_many, undeclared, read_only_written, faults, fault, first_from, faults_from, how_many, makes_cell, makes_label, makes_variable}
use Rattle.listing.proofs.Clear.{faulty}
use Rattle.names.proofs.Lines.{count_append}
use Rattle.listing.proofs.Declaring.{declared_by, declared_any}

-- ---- names that are new

abbrev pub New : List Name → List Name → Type 0
New before [] = Unit {0}
New before (w ∷ ws) = (any_of (eq_list w) before ≡ false) × New (before ++ (w ∷ [])) ws

pub new_both : (before vs ws : List Name) → New before vs → New (before ++ vs) ws → New before (vs ++ ws)
new_both before [] ws h g = subst (λ (b : List Name). New b ws) (append-nil before) g
new_both before (v ∷ vs) ws h g =
    (h.0, new_both (before ++ (v ∷ [])) vs ws h.1 (subst (λ (b : List Name). New b ws) (sym (append_assoc before (v ∷ []) vs)) g))

-- A line whose names are new repeats none.
module _ (before : List Line) where
  not_repeated : (x : Line) (ws : List Name) → New (declared_by before) (declares x ++ ws) → repeated before x ≡ false
  unfolding repeated declares any_of
  not_repeated Blank ws h = refl
  not_repeated (Label w) ws h = rw (declared_any w before, h.0)
  not_repeated (Declared w z) ws h = rw (declared_any w before, h.0)
  not_repeated (Acts st) ws h = refl

  new_behind : (x : Line) (ws : List Name) → New (declared_by before) (declares x ++ ws) → New (declared_by (before ++ (x ∷ []))) ws
  unfolding declares flat_map
  new_behind Blank ws h = subst (λ (b : List Name). New b ws) (sym (flat_append declares before (Blank ∷ []) ∙ append-nil (declared_by before))) h
  new_behind (Label w) ws h = subst (λ (b : List Name). New b ws) (sym (flat_append declares before (Label w ∷ []))) h.1
  new_behind (Declared w z) ws h = subst (λ (b : List Name). New b ws) (sym (flat_append declares before (Declared w z ∷ []))) h.1
  new_behind (Acts st) ws h = subst (λ (b : List Name). New b ws) (sym (flat_append declares before (Acts st ∷ []) ∙ append-nil (declared_by before))) h

-- ---- limits

pub record Few (xs : List Line) : Type 0 where
  pub cells : how_many makes_cell xs ≤ 256
  pub labels : how_many makes_label xs ≤ 160
  pub variables : how_many makes_variable xs ≤ 32

room : (b : Bool) (most n m : ℕ) → n + cond b (suc m) m ≤ most → (b && leb most n) ≡ false
room true most n m h = lt-leb most n (omega arith)
room false most n m h = refl

has_room : (p : Line → Bool) (most : ℕ) (before : List Line) (x : Line) (xs : List Line) → how_many p (before ++ (x ∷ xs)) ≤ most → (p x && leb most (how_many p before)) ≡ false
unfolding how_many
has_room p most before x xs h = room (p x) most (how_many p before) (how_many p xs) (subst (λ (n : ℕ). n ≤ most) (count_append p before (x ∷ xs)) h)

not_many : (before : List Line) (x : Line) (xs : List Line) → Few (before ++ (x ∷ xs)) → too_many before x ≡ false
unfolding too_many most_cells most_labels most_variables
not_many before x xs f =
    rw (has_room makes_cell 256 before x xs f.cells, has_room makes_label 160 before x xs f.labels, has_room makes_variable 32 before x xs f.variables)

-- ---- all faults

-- A line names only what is declared, and writes nothing read-only.
abbrev pub fine : List Line → Line → Bool
fine text x = not (undeclared text x) && not (read_only_written x)

-- No test holds: the lowest is none.
no_faults : (text before : List Line) (l : List ℕ) → T (not (faulty l)) → repeated before (heard l) ≡ false → too_many before (heard l) ≡ false → T (fine text (heard l))
    → lowest 2 (faults text before l) ≡ 0
unfolding faults lowest
no_faults text before l c r m f =
    let a = neither (long_line l) (bad_form l || (big_literal l || reserved_name l)) (is_false (faulty l) c) in
    let b = neither (bad_form l) (big_literal l || reserved_name l) a.1 in
    let d = neither (big_literal l) (reserved_name l) b.1 in
    let e = both (not (undeclared text (heard l))) (not (read_only_written (heard l))) f in
    rw (a.0, b.0, d.0, d.1, r, m, is_false (undeclared text (heard l)) e.0, is_false (read_only_written (heard l)) e.1)

pub no_fault_from : (text before : List Line) (line : ℕ) (ls : List (List ℕ)) → T (all_of (λ l. not (faulty l)) ls)
    → New (declared_by before) (declared_by (map heard ls)) → Few (before ++ map heard ls) → T (all_of (fine text) (map heard ls))
    → first_from line (faults_from text before ls) ≡ fault 0 0
unfolding all_of first_from faults_from flat_map
no_fault_from text before line [] c n f w = refl
no_fault_from text before line (l ∷ ls) c n f w =
    let x = heard l in
    let xs = map heard ls in
    let p = both (not (faulty l)) (all_of (λ k. not (faulty k)) ls) c in
    let q = both (fine text x) (all_of (fine text) xs) w in
    let e = no_faults text before l p.0 (not_repeated before x (declared_by xs) n) (not_many before x xs f) q.0 in
    rw e
    (no_fault_from text (before ++ (x ∷ [])) (suc line) ls p.1 (new_behind before x (declared_by xs) n)
    (subst Few (sym (append_assoc before (x ∷ []) xs)) f) q.1)
