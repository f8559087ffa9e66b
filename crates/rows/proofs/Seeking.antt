-- Looking a name up in the arrangement is seeking it from the front of the lines.
-- Assumes nothing.
use mathlib.Core.Path.{◌≡◌, refl, sym, ap, ◌∙◌}
use mathlib.Core.Bool.{Bool, true, false, cond, ◌||◌, not, or-false, true≢false}
use mathlib.Core.List.{List, [], ◌∷◌}
use Prim.Native.Nat.{ℕ, suc, ◌+◌, ◌≤◌, ◌<◌}
use native.Mathlib.Nat.{add-zero}
use native.Mathlib.Omega.{arith}
use borrow.Author.Tests.{lt-ltb, le-ltb}
use lib.Dec.{T, eqb, ltb}
use lib.ListN.{length, get_or, set, replicate, length-replicate, length-set, get_or-replicate, get_or-eq_default}
use lib.Seq.{set_out, get_or-set_same, get_or-set_other}
use Rattle.numbers.specs.Tests.{eq_list, any_of, Each}
use Rattle.numbers.proofs.Truth.{is_true, true_is, if_below, of_both}
use Rattle.numbers.proofs.Tests.{eq_list_refl, eq_list_eq}
use Rattle.program.specs.Names.{Name, paper_variable, two_characters, user_name}
use Rattle.program.proofs.Keys.{user_two, user_no_paper}
use Rattle.text.specs.Forms.{Line, Blank, Label, Declared, Acts}
use Rattle.text.specs.Faults.{declares, declares_it, makes_cell, makes_label, makes_variable, first_makes, place_of, rank_of, number_of}
use Rattle.rows.specs.Rows.{row_of, Row, kind, line, place, no_row, row_at, enter, made, entered, plus, arranged_from, arranged, lines_before, Sought}
use Rattle.rows.proofs.Order.{below, past, apart}

-- The names that lines declare are the user's.
abbrev pub Spelt : Line → Type 0
Spelt Blank = Unit {0}
Spelt (Label w) = T (user_name w)
Spelt (Declared w z) = T (user_name w)
Spelt (Acts s) = Unit {0}

-- The first of two rows that holds something.
kept : Row → Row → Row
kept r q = cond (ltb 0 (kind r)) r q

-- Two names that are told apart have two rows.
rows_apart : (v w : Name) → T (two_characters v) → eq_list w v ≡ false → row_of v ≡ row_of w → ⊥
rows_apart v w t e h = pick (two_characters w) refl
  where
    pick : (b : Bool) → two_characters w ≡ b → ⊥
    pick true p =
        let same : w ≡ v = sym (apart v w t (true_is (two_characters w) p) h) in
        true≢false (sym (rw same (is_true (eq_list v v) (eq_list_refl v))) ∙ e)
    pick false p = let k = below v t in let q = past w p in absurd (omega arith)

-- What stands in the row of w once v is entered.
module _ (rows : List Row) (long : length rows ≡ 936) (v w : Name) (t : T (two_characters v)) (r : Row) where
  entered_own : row_at (enter rows v r) v ≡ kept (row_at rows v) r
  unfolding enter row_at kept
  entered_own = pick (ltb 0 (kind (get_or rows (row_of v) no_row)))
    where
      pick : (b : Bool) → get_or (cond b rows (set rows (row_of v) r)) (row_of v) no_row ≡ cond b (get_or rows (row_of v) no_row) r
      pick true = refl
      pick false = get_or-set_same rows (row_of v) r no_row (omega (arith, below v t))

  enter_at : (b : Bool) → eq_list w v ≡ b → row_at (enter rows v r) w ≡ cond b (kept (row_at rows w) r) (row_at rows w)
  unfolding enter row_at
  enter_at true e = rw (eq_list_eq w v (true_is (eq_list w v) e)) entered_own
  enter_at false e =
      of_both (λ (z : List Row). get_or z (row_of w) no_row ≡ get_or rows (row_of w) no_row) (ltb 0 (kind (row_at rows v))) refl
      (get_or-set_other rows (row_of v) (row_of w) r no_row (λ h. rows_apart v w t e (sym h)))

-- A name past the rows; one in whose row something stands, or nothing.
module _ (rows : List Row) (w : Name) {i : ℕ} (e : i ≡ row_of w) where
  pub look_past : length rows ≤ i → no_row ≡ row_at rows w
  unfolding row_at
  look_past h = sym (get_or-eq_default rows no_row {n = row_of w} (omega arith))

  pub look_at : get_or rows i no_row ≡ row_at rows w
  unfolding row_at
  look_at = rw e

  module _ (r : Row) where
    pub enter_past : length rows ≤ i → rows ≡ enter rows w r
    unfolding enter
    enter_past h = of_both (λ (z : List Row). rows ≡ z) (ltb 0 (kind (row_at rows w))) refl (sym (set_out rows (row_of w) r (omega arith)))

    pub enter_there : 0 < kind (get_or rows i no_row) → rows ≡ enter rows w r
    unfolding enter
    enter_there h = rw (← look_at, lt-ltb 0 (kind (get_or rows i no_row)) h)

    pub enter_new : kind (get_or rows i no_row) ≤ 0 → set rows i r ≡ enter rows w r
    unfolding enter
    enter_new h = rw (← e, ← look_at, le-ltb 0 (kind (get_or rows i no_row)) h)

-- The arrangement keeps its length.
pub enter_long : (rows : List Row) (w : Name) (r : Row) → length (enter rows w r) ≡ length rows
unfolding enter
enter_long rows w r = of_both (λ (z : List Row). length z ≡ length rows) (ltb 0 (kind (row_at rows w))) refl (length-set rows (row_of w) r)

entered_long : (n cells variables : ℕ) (x : Line) (rows : List Row) → length (entered n cells variables x rows) ≡ length rows
unfolding entered
entered_long n c v Blank rows = refl
entered_long n c v (Label w) rows = enter_long rows w _
entered_long n c v (Declared w z) rows = enter_long rows w _
entered_long n c v (Acts s) rows = refl

-- What stands in the row of a name behind one line more.
entered_at : (n c v : ℕ) (x : Line) (rows : List Row) (w : Name) → Spelt x → length rows ≡ 936
    → row_at (entered n c v x rows) w ≡ cond (declares_it w x) (kept (row_at rows w) (made n c v x)) (row_at rows w)
unfolding entered declares_it declares any_of
entered_at n c v Blank rows w t long = refl
entered_at n c v (Label u) rows w t long = rw (or-false (eq_list w u)) (enter_at rows long u w (user_two u t) (made n c v (Label u)) (eq_list w u) refl)
entered_at n c v (Declared u z) rows w t long = rw (or-false (eq_list w u)) (enter_at rows long u w (user_two u t) (made n c v (Declared u z)) (eq_list w u) refl)
entered_at n c v (Acts s) rows w t long = refl

-- A row that a line makes of a name that it declares holds something.
made_some : (n c v : ℕ) (x : Line) (w : Name) → declares_it w x ≡ true → ltb 0 (kind (made n c v x)) ≡ true
unfolding declares_it declares any_of made
made_some n c v Blank w e = e
made_some n c v (Label u) w e = refl
made_some n c v (Declared u z) w e = refl
made_some n c v (Acts s) w e = e

-- Seeking from the front, behind so many lines, cells and variables; d where no line declares the name.
seek_from : Row → Name → ℕ → ℕ → ℕ → List Line → Row
seek_from d w n c v [] = d
seek_from d w n c v (x ∷ xs) =
    let more = seek_from d w (suc n) (plus (makes_cell x) c) (plus (makes_variable x) v) xs in
    cond (declares_it w x) (made n c v x) more

-- Seeking among the lines behind one.
abbrev seek_behind : Line → Row → Name → ℕ → ℕ → ℕ → List Line → Row
seek_behind x d w n c v xs = seek_from d w (suc n) (plus (makes_cell x) c) (plus (makes_variable x) v) xs

module _ (w : Name) where
  looked_from : (xs : List Line) (n c v : ℕ) (rows : List Row) → Each Spelt xs → length rows ≡ 936
      → row_at (arranged_from n c v xs rows) w ≡ kept (row_at rows w) (seek_from (row_at rows w) w n c v xs)
  unfolding arranged_from seek_from kept
  looked_from [] n c v rows t long = of_both (λ (z : Row). row_at rows w ≡ z) (ltb 0 (kind (row_at rows w))) refl refl
  looked_from (x ∷ xs) n c v rows t long =
      looked_from xs (suc n) (plus (makes_cell x) c) (plus (makes_variable x) v) (entered n c v x rows) t.1 (entered_long n c v x rows ∙ long)
      ∙ pick (declares_it w x) refl (entered_at n c v x rows w t.0 long)
    where
      r : Row
      r = row_at rows w

      r' : Row
      r' = row_at (entered n c v x rows) w

      q : Row
      q = made n c v x

      pick : (b : Bool) → declares_it w x ≡ b → r' ≡ cond b (kept r q) r
          → kept r' (seek_behind x r' w n c v xs) ≡ kept r (cond b q (seek_behind x r w n c v xs))
      pick false d e = ap (λ (z : Row). kept z (seek_behind x z w n c v xs)) e
      pick true d e = ap (λ (z : Row). kept z (seek_behind x z w n c v xs)) e ∙ go (ltb 0 (kind r)) refl
        where
          go : (b : Bool) → ltb 0 (kind r) ≡ b → kept (kept r q) (seek_behind x (kept r q) w n c v xs) ≡ kept r q
          go true h = rw (h, h)
          go false h = rw (h, made_some n c v x w d)

-- Nothing stands in any row at first.
none_yet : (w : Name) → row_at (replicate 936 no_row) w ≡ no_row
unfolding row_at
none_yet w =
    if_below (row_of w) 936
    (λ h. get_or-replicate 936 (row_of w) no_row no_row h)
    (λ h. get_or-eq_default (replicate 936 no_row) no_row {n = row_of w} (omega (arith, length-replicate 936 no_row)))

-- What seeking finds, behind so many lines, cells and variables.
record SoughtFrom (n c v : ℕ) (xs : List Line) (w : Name) (r : Row) : Type 0 where
  label : eqb (kind r) 1 ≡ first_makes makes_label w xs
  variable : eqb (kind r) 2 ≡ first_makes makes_variable w xs
  none : eqb (kind r) 0 ≡ not (any_of (declares_it w) xs)
  first : eqb (kind r) 0 ≡ false → line r ≡ n + lines_before xs w
  placed : eqb (kind r) 1 ≡ true → place r ≡ c + place_of xs w
  ranked : eqb (kind r) 2 ≡ true → place r ≡ v + rank_of xs w

one_more : (b : Bool) (c n : ℕ) → plus b c + n ≡ c + cond b (suc n) n
unfolding plus
one_more true c n = omega arith
one_more false c n = refl

-- The row of a name that a line declares.
made_is : (n c v : ℕ) (w : Name) (x : Line) → declares_it w x ≡ true
    → let r = made n c v x in
    (eqb (kind r) 1 ≡ makes_label x) × (eqb (kind r) 2 ≡ makes_variable x) × (eqb (kind r) 0 ≡ false)
    × (line r ≡ n) × (eqb (kind r) 1 ≡ true → place r ≡ c) × (eqb (kind r) 2 ≡ true → place r ≡ v)
unfolding made declares_it declares any_of makes_label makes_variable
made_is n c v w Blank d = absurd (true≢false (sym d))
made_is n c v w (Label u) d = (refl, refl, refl, refl, (λ h. refl), λ h. absurd (true≢false (sym h)))
made_is n c v w (Declared u z) d = (refl, refl, refl, refl, (λ h. absurd (true≢false (sym h))), λ h. refl)
made_is n c v w (Acts s) d = absurd (true≢false (sym d))

module _ (w : Name) (x : Line) (xs : List Line) (n c v : ℕ) where
  -- The first of the lines declares the name.
  found_here : declares_it w x ≡ true → SoughtFrom n c v (x ∷ xs) w (made n c v x)
  unfolding first_makes any_of lines_before place_of rank_of
  found_here d =
      let m = made_is n c v w x d in
      record {
        label = rw d m.0;
        variable = rw d m.1;
        none = rw d m.2;
        first = λ h. rw (d, add-zero) m.3;
        placed = λ h. rw (d, add-zero) (m.4 h);
        ranked = λ h. rw (d, add-zero) (m.5 h);
      }

  -- It does not.
  found_later : (r : Row) → declares_it w x ≡ false → SoughtFrom (suc n) (plus (makes_cell x) c) (plus (makes_variable x) v) xs w r → SoughtFrom n c v (x ∷ xs) w r
  unfolding first_makes any_of lines_before place_of rank_of
  found_later r d h =
      record {
        label = rw d h.label;
        variable = rw d h.variable;
        none = rw d h.none;
        first = λ k. rw d (h.first k ∙ omega arith);
        placed = λ k. rw d (h.placed k ∙ one_more (makes_cell x) c (place_of xs w));
        ranked = λ k. rw d (h.ranked k ∙ one_more (makes_variable x) v (rank_of xs w));
      }

sought_from : (w : Name) (xs : List Line) (n c v : ℕ) → SoughtFrom n c v xs w (seek_from no_row w n c v xs)
unfolding seek_from first_makes any_of
sought_from w [] n c v = record { label = refl; variable = refl; none = refl; first = λ h. absurd (true≢false h); placed = λ h. absurd (true≢false (sym h)); ranked = λ h. absurd (true≢false (sym h)) }
sought_from w (x ∷ xs) n c v = pick (declares_it w x) refl (sought_from w xs (suc n) (plus (makes_cell x) c) (plus (makes_variable x) v))
  where
    r : Row
    r = seek_behind x no_row w n c v xs

    pick : (b : Bool) → declares_it w x ≡ b → SoughtFrom (suc n) (plus (makes_cell x) c) (plus (makes_variable x) v) xs w r → SoughtFrom n c v (x ∷ xs) w (cond b (made n c v x) r)
    pick true d ih = found_here w x xs n c v d
    pick false d ih = found_later w x xs n c v r d ih

looked : (text : List Line) (w : Name) → Each Spelt text → row_at (arranged text) w ≡ seek_from no_row w 1 0 0 text
unfolding arranged kept
looked text w t = looked_from w text 1 0 0 (replicate 936 no_row) t (length-replicate 936 no_row) ∙ rw (none_yet w)

-- A name that is declared is no variable of the paper, so its number is the user's.
same_free : (w v : Name) → T (user_name v) → (eq_list w v || false) ≡ true → paper_variable w ≡ 0
same_free w v t d =
    let same : w ≡ v = eq_list_eq w v (true_is (eq_list w v) (sym (or-false (eq_list w v)) ∙ d)) in
    rw same (user_no_paper v t)

line_free : (w : Name) (x : Line) → Spelt x → declares_it w x ≡ true → paper_variable w ≡ 0
unfolding declares_it declares any_of
line_free w Blank t d = absurd (true≢false (sym d))
line_free w (Label v) t d = same_free w v t d
line_free w (Declared v z) t d = same_free w v t d
line_free w (Acts s) t d = absurd (true≢false (sym d))

variable_free : (w : Name) (xs : List Line) → Each Spelt xs → first_makes makes_variable w xs ≡ true → paper_variable w ≡ 0
unfolding first_makes
variable_free w [] t h = absurd (true≢false (sym h))
variable_free w (x ∷ xs) t h = pick (declares_it w x) refl h (variable_free w xs t.1)
  where
    pick : (b : Bool) → declares_it w x ≡ b → cond b (makes_variable x) (first_makes makes_variable w xs) ≡ true → (first_makes makes_variable w xs ≡ true → paper_variable w ≡ 0) → paper_variable w ≡ 0
    pick true d k ih = line_free w x t.0 d
    pick false d k ih = ih k

number_is : (text : List Line) (w : Name) → Each Spelt text → first_makes makes_variable w text ≡ true → 32 + rank_of text w ≡ number_of text w
unfolding number_of
number_is text w t h = rw (variable_free w text t h)

-- Q-3 2, Q-3 3: looking a name up finds what seeking it from the front does.
pub looked_up : (text : List Line) (w : Name) → Each Spelt text → Sought text w (row_at (arranged text) w)
looked_up text w t =
    let s = sought_from w text 1 0 0 in
    rw (looked text w t)
    (record {
      label = s.label;
      variable = s.variable;
      none = s.none;
      first = λ h. s.first h ∙ omega arith;
      placed = λ h. s.placed h ∙ omega arith;
      numbered = λ h. omega (arith, s.ranked h, number_is text w t (sym s.variable ∙ h));
    })

-- The arrangement has a row for each name.
long_from : (xs : List Line) (n c v : ℕ) (rows : List Row) → length (arranged_from n c v xs rows) ≡ length rows
unfolding arranged_from
long_from [] n c v rows = refl
long_from (x ∷ xs) n c v rows = long_from xs (suc n) _ _ (entered n c v x rows) ∙ entered_long n c v x rows

pub long : (text : List Line) → length (arranged text) ≡ 936
unfolding arranged
long text = long_from text 1 0 0 (replicate 936 no_row) ∙ length-replicate 936 no_row

pub plus_most : (b : Bool) (n : ℕ) → plus b n ≤ n + 1
unfolding plus
plus_most true n = omega arith
plus_most false n = omega arith

-- No place is past the lines.
near_from : (w : Name) (xs : List Line) (n c v most : ℕ) → c ≤ most → v ≤ most → place (seek_from no_row w n c v xs) ≤ most + length xs
unfolding seek_from made
near_from w [] n c v most h k = omega arith
near_from w (x ∷ xs) n c v most h k =
    pick (declares_it w x)
    (near_from w xs (suc n) _ _ (suc most) (omega (arith, plus_most (makes_cell x) c)) (omega (arith, plus_most (makes_variable x) v)))
  where
    own : (x : Line) → place (made n c v x) ≤ most
    own Blank = omega arith
    own (Label w) = h
    own (Declared w z) = k
    own (Acts s) = omega arith

    pick : (b : Bool) → place (seek_behind x no_row w n c v xs) ≤ suc most + length xs
        → place (cond b (made n c v x) (seek_behind x no_row w n c v xs)) ≤ most + suc (length xs)
    pick true i = omega (arith, own x)
    pick false i = omega arith

pub near : (text : List Line) (w : Name) → Each Spelt text → place (row_at (arranged text) w) ≤ length text
near text w t = rw (looked text w t) (omega (arith, near_from w text 1 0 0 0 (omega arith) (omega arith)))
