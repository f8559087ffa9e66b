-- What a statement of an accepted text refers to is there: its labels have records, its variables numbers that are present.
-- Assumes nothing.
use mathlib.Core.Path.{◌≡◌, refl, sym, subst, ap}
use mathlib.Core.Bool.{Bool, true, false, cond, ◌&&◌, ◌||◌, not, and-false, or-true}
use mathlib.Core.List.{List, [], ◌∷◌, ◌++◌}
use Prim.Native.Nat.{ℕ, ◌+◌, ◌≤◌, ◌<◌}
use native.Mathlib.Omega.{arith}
use borrow.Author.Tests.{le-leb, lt-leb, lt-ltb, eq-eqb, eqb-false, not-false}
use lib.Dec.{T, eqb, leb}
use Rattle.numbers.specs.Tests.{any_of, eq_list, Each}
use Rattle.numbers.proofs.Tests.{eq_list_eq, each_then, each_both, none_each}
use Rattle.numbers.proofs.Truth.{neither}
use Rattle.program.specs.Names.{Name, paper_variable}
use Rattle.program.specs.Variables.{in_range, literals, present, read_only}
use Rattle.program.specs.Statements.{Value, Literal, Variable, Statement, operands, writes, targets}
use Rattle.program.proofs.Places.{paper_most}
use Rattle.text.specs.Forms.{Line, Blank, Label, Declared, Acts}
use Rattle.text.specs.Faults.{how_many, makes_label, makes_variable, declares, declares_it, first_makes, place_of, rank_of, number_of, unknown_variable, unknown_value, unknown_in, undeclared, read_only_written, too_big, big_value}
use Rattle.image.specs.Layout.{label_target}
use Rattle.image.specs.Code.{labelled}
use Rattle.image.proofs.Any.{that_is}
use Rattle.image.proofs.Accepted.{Writes, Reads, Names, Acceptable}
use Rattle.translation.specs.Images.{image_of}
use Rattle.agreement.proofs.Sound.{Fine, Good}
use Rattle.agreement.proofs.Places.{rank_by, rank_rank, rank_below, count_behind}
use Rattle.agreement.proofs.Records.{label_count_lem, label_target_lem}

-- ---- variables

-- A number of the paper's is present, and so is one of the user's.
module _ (users n : ℕ) where
  paper_present : 1 ≤ n → n ≤ 20 → present users n ≡ true
  paper_present l m = rw (le-leb 1 n l, le-leb n 20 m)

  user_present : n < users → present users (32 + n) ≡ true
  user_present h =
      rw (lt-leb (32 + n) 20 (omega arith), le-leb 32 (32 + n) (omega arith), lt-ltb (32 + n) (32 + users) (omega arith)) (or-true (leb 1 (32 + n) && false))

  user_writable : read_only (32 + n) ≡ false
  user_writable = rw (lt-leb (32 + n) 20 (omega arith)) (and-false (leb 14 (32 + n)))

module _ (xs : List Line) (v : Name) where
  -- a variable that is known has a number that is present
  pub number_present : unknown_variable xs v ≡ false → present (how_many makes_variable xs) (number_of xs v) ≡ true
  unfolding unknown_variable number_of
  number_present h = go (eqb (paper_variable v) 0) refl h
    where
      go : (b : Bool) → eqb (paper_variable v) 0 ≡ b → (b && not (first_makes makes_variable v xs)) ≡ false
          → present (how_many makes_variable xs) (cond b (32 + rank_of xs v) (paper_variable v)) ≡ true
      go true e k =
          let m = not-false (first_makes makes_variable v xs) k in
          rw (rank_rank xs v) (user_present (how_many makes_variable xs) (rank_by makes_variable xs v) (rank_below makes_variable v xs m))
      go false e k =
          let l = eqb-false (paper_variable v) 0 e in
          paper_present (how_many makes_variable xs) (paper_variable v) (omega arith) (paper_most v)

  -- and one that is not read-only by its name is not so by its number
  pub number_writable : read_only (paper_variable v) ≡ false → read_only (number_of xs v) ≡ false
  unfolding number_of
  number_writable h = go (eqb (paper_variable v) 0)
    where
      go : (b : Bool) → read_only (cond b (32 + rank_of xs v) (paper_variable v)) ≡ false
      go true = user_writable 0 (rank_of xs v)
      go false = h

-- ---- labels

-- The line of a label that the text has.
pub record LabelOf (xs : List Line) (w : Name) : Type 0 where
  pub before : List Line
  pub rest : List Line
  pub whole : xs ≡ before ++ (Label w ∷ rest)

-- The first line that declares a name, where it makes a label.
declares_label : (w : Name) (x : Line) → declares_it w x ≡ true → makes_label x ≡ true → x ≡ Label w
unfolding declares_it declares any_of makes_label
declares_label w Blank d m = let z : ◌≡◌ {A = ℕ} 0 1 = cc in absurd (omega arith)
declares_label w (Label v) d m = ap Label (sym (eq_list_eq w v (only (eq_list w v) d)))
  where
    only : (b : Bool) → (b || false) ≡ true → T b
    only true e = tt
    only false e = let z : ◌≡◌ {A = ℕ} 0 1 = cc in absurd (omega arith)
declares_label w (Declared v y) d m = let z : ◌≡◌ {A = ℕ} 0 1 = cc in absurd (omega arith)
declares_label w (Acts s) d m = let z : ◌≡◌ {A = ℕ} 0 1 = cc in absurd (omega arith)

pub label_of : (xs : List Line) (w : Name) → first_makes makes_label w xs ≡ true → LabelOf xs w
unfolding first_makes
label_of [] w e = let z : ◌≡◌ {A = ℕ} 0 1 = cc in absurd (omega arith)
label_of (x ∷ xs) w e = go (declares_it w x) refl e (label_of xs w)
  where
    go : (b : Bool) → declares_it w x ≡ b → cond b (makes_label x) (first_makes makes_label w xs) ≡ true
        → (first_makes makes_label w xs ≡ true → LabelOf xs w) → LabelOf (x ∷ xs) w
    go true d m r = record { before = []; rest = xs; whole = ap (λ (y : Line). y ∷ xs) (declares_label w x d m) }
    go false d m r =
        let l = r m in
        record { before = x ∷ l.before; rest = l.rest; whole = ap (λ (ys : List Line). x ∷ ys) l.whole }

module _ (xs : List Line) (f : Fine xs) where
  -- a label that is declared has a record with its place
  pub label_there : (w : Name) → first_makes makes_label w xs ≡ true → labelled (image_of xs) (place_of xs w) ≡ true
  unfolding labelled makes_label
  label_there w e =
      let l = label_of xs w e in
      let below : how_many makes_label l.before < how_many makes_label xs =
      subst (λ (ys : List Line). how_many makes_label l.before < how_many makes_label ys) (sym l.whole) (count_behind makes_label l.before (Label w) l.rest refl) in
      sym
      (that_is (λ k. eqb (label_target (image_of xs) k) (place_of xs w)) (how_many makes_label l.before) (sym (label_count_lem xs f)) below refl
      (eq-eqb (label_target (image_of xs) (how_many makes_label l.before)) (place_of xs w) (label_target_lem xs f l.before l.rest w l.whole)))

  -- ---- a statement

  abbrev Writes' : Name → Type 0
  Writes' v = Writes (place_of xs) (number_of xs) (image_of xs) (how_many makes_variable xs) v

  abbrev Reads' : Value Name → Type 0
  Reads' x = Reads (place_of xs) (number_of xs) (image_of xs) (how_many makes_variable xs) x

  abbrev Names' : Name → Type 0
  Names' n = Names (place_of xs) (number_of xs) (image_of xs) (how_many makes_variable xs) n

  written : (v : Name) → unknown_variable xs v ≡ false → read_only (paper_variable v) ≡ false → Writes' v
  unfolding Writes
  written v u r = rw (number_present xs v u, number_writable xs v r)

  known : (x : Value Name) → big_value x ≡ false → unknown_value xs x ≡ false → Reads' x
  unfolding Reads big_value too_big unknown_value
  known (Literal z) b u = not-false (in_range literals z) b
  known (Variable v) b u = number_present xs v u

  named : (n : Name) → not (first_makes makes_label n xs) ≡ false → Names' n
  unfolding Names
  named n e = label_there n (not-false (first_makes makes_label n xs) e)

  -- what two tests leave of each of a list
  each_of : {A : Type 0} (p q : A → Bool) (P : A → Type 0) → ((x : A) → p x ≡ false → q x ≡ false → P x) → (l : List A) → any_of p l ≡ false → any_of q l ≡ false → Each P l
  each_of p q P f l e g =
      each_then (λ x. (p x ≡ false) × (q x ≡ false)) P (λ x h. f x h.0 h.1) l
      (each_both (λ x. p x ≡ false) (λ x. q x ≡ false) l (none_each p l e) (none_each q l g))

  -- the statement of a line of the text is one that the check of its image accepts
  pub acceptable : (before : List Line) (s : Statement Name) → Good xs before (Acts s)
      → Acceptable (place_of xs) (number_of xs) (image_of xs) (how_many makes_variable xs) s
  unfolding undeclared unknown_in read_only_written
  acceptable before s g =
      let t = neither (any_of (λ n. not (first_makes makes_label n xs)) (targets s)) _ g.known in
      let w = neither (any_of (unknown_variable xs) (writes s)) (any_of (unknown_value xs) (operands s)) t.1 in
      record {
        reads = each_of big_value (unknown_value xs) Reads' known (operands s) g.heard.1 w.1;
        sets = each_of (unknown_variable xs) (λ v. read_only (paper_variable v)) Writes' written (writes s) w.0 g.writable;
        aims = each_then (λ n. not (first_makes makes_label n xs) ≡ false) Names' named (targets s) (none_each (λ n. not (first_makes makes_label n xs)) (targets s) t.0);
      }
