-- Lines by their place: the line that makes the cell, label or variable with a number, and what walks over the lines find there.
-- Assumes nothing.
use mathlib.Core.Path.{◌≡◌, refl, ap}
use mathlib.Core.Bool.{Bool, true, false, cond}
use mathlib.Core.List.{List, [], ◌∷◌, ◌++◌}
use Prim.Native.Nat.{ℕ, zero, suc, ◌≤◌, ◌<◌}
use native.Mathlib.Omega.{arith}
use lib.IntN.{ℤ}
use lib.ListN.{length, get_or}
use Rattle.numbers.specs.Tests.{any_of}
use Rattle.numbers.proofs.Truth.{neither}
use Rattle.program.specs.Names.{Name}
use Rattle.program.specs.Statements.{Statement}
use Rattle.text.specs.Forms.{Line, Blank, Label, Declared, Acts}
use Rattle.text.specs.Faults.{how_many, makes_cell, makes_label, makes_variable, declares_it, first_makes, place_of, rank_of}
use Rattle.names.proofs.Lines.{count_append}
use Rattle.translation.specs.Places.{line_at, starts}

-- The line that passes a test behind k others that do.
pub record Here (p : Line → Bool) (xs : List Line) (k : ℕ) : Type 0 where
  pub before : List Line
  pub line : Line
  pub rest : List Line
  pub whole : xs ≡ before ++ (line ∷ rest)
  pub passes : p line ≡ true
  pub rank : how_many p before ≡ k

module _ (p : Line → Bool) where
  pub here : (xs : List Line) (k : ℕ) → k < how_many p xs → Here p xs k
  unfolding how_many
  here [] k h = absurd (omega arith)
  here (x ∷ xs) k h = go (p x) k refl h (here xs) where
    go : (b : Bool) (k : ℕ) → p x ≡ b → k < cond b (suc (how_many p xs)) (how_many p xs) → ((j : ℕ) → j < how_many p xs → Here p xs j) → Here p (x ∷ xs) k
    go true zero e h r = record { before = []; line = x; rest = xs; whole = refl; passes = e; rank = refl }
    go true (suc j) e h r =
        let i = r j (omega arith) in
        record {
          before = x ∷ i.before;
          line = i.line;
          rest = i.rest;
          whole = ap (λ (l : List Line). x ∷ l) i.whole;
          passes = i.passes;
          rank = rw e (ap suc i.rank);
        }
    go false k e h r =
        let i = r k h in
        record {
          before = x ∷ i.before;
          line = i.line;
          rest = i.rest;
          whole = ap (λ (l : List Line). x ∷ l) i.whole;
          passes = i.passes;
          rank = rw e i.rank;
        }

  -- a line that passes is behind fewer than all
  pub count_behind : (before : List Line) (x : Line) (rest : List Line) → p x ≡ true → how_many p before < how_many p (before ++ (x ∷ rest))
  unfolding how_many
  count_behind before x rest e =
      let h : how_many p (x ∷ rest) ≡ suc (how_many p rest) = rw e in
      omega (arith, count_append p before (x ∷ rest))

-- Of two fronts of one list, the one with fewer lines of a kind has no more of another.
pub fronts : (p q : Line → Bool) (a b c d : List Line) → a ++ b ≡ c ++ d → how_many p a < how_many p c → how_many q a ≤ how_many q c
unfolding how_many
fronts p q [] b c d e h = omega arith
fronts p q (x ∷ a) b [] d e h = absurd (omega arith)
fronts p q (x ∷ a) b (y ∷ c) d e h =
    let first : x ≡ y = cc in
    let more : a ++ b ≡ c ++ d = cc in
    rw first (go (p y) (q y) (fronts p q a b c d more) (rw first at h))
  where
    go : (s t : Bool) → (how_many p a < how_many p c → how_many q a ≤ how_many q c) → cond s (suc (how_many p a)) (how_many p a) < cond s (suc (how_many p c)) (how_many p c)
        → cond t (suc (how_many q a)) (how_many q a) ≤ cond t (suc (how_many q c)) (how_many q c)
    go true true r h = let l = r (omega arith) in omega arith
    go true false r h = r (omega arith)
    go false true r h = let l = r h in omega arith
    go false false r h = r h

-- What a line makes says what it is.
pub cell_is : (x : Line) → makes_cell x ≡ true → (s : Statement Name) × (x ≡ Acts s)
unfolding makes_cell
cell_is Blank e = let z : ◌≡◌ {A = ℕ} 0 1 = cc in absurd (omega arith)
cell_is (Label w) e = let z : ◌≡◌ {A = ℕ} 0 1 = cc in absurd (omega arith)
cell_is (Declared w z) e = let z : ◌≡◌ {A = ℕ} 0 1 = cc in absurd (omega arith)
cell_is (Acts s) e = (s, refl)

pub label_is : (x : Line) → makes_label x ≡ true → (w : Name) × (x ≡ Label w)
unfolding makes_label
label_is Blank e = let z : ◌≡◌ {A = ℕ} 0 1 = cc in absurd (omega arith)
label_is (Label w) e = (w, refl)
label_is (Declared w z) e = let z : ◌≡◌ {A = ℕ} 0 1 = cc in absurd (omega arith)
label_is (Acts s) e = let z : ◌≡◌ {A = ℕ} 0 1 = cc in absurd (omega arith)

pub variable_is : (x : Line) → makes_variable x ≡ true → (w : Name) × (z : ℤ) × (x ≡ Declared w z)
unfolding makes_variable
variable_is Blank e = let z : ◌≡◌ {A = ℕ} 0 1 = cc in absurd (omega arith)
variable_is (Label w) e = let z : ◌≡◌ {A = ℕ} 0 1 = cc in absurd (omega arith)
variable_is (Declared w z) e = (w, z, refl)
variable_is (Acts s) e = let z : ◌≡◌ {A = ℕ} 0 1 = cc in absurd (omega arith)

-- The statement at a place, and the start value of a variable.
pub line_at_lem : (before : List Line) (s : Statement Name) (rest : List Line) → line_at (before ++ (Acts s ∷ rest)) (how_many makes_cell before) ≡ s
unfolding line_at how_many makes_cell
line_at_lem [] s rest = refl
line_at_lem (Blank ∷ xs) s rest = line_at_lem xs s rest
line_at_lem (Label w ∷ xs) s rest = line_at_lem xs s rest
line_at_lem (Declared w z ∷ xs) s rest = line_at_lem xs s rest
line_at_lem (Acts t ∷ xs) s rest = line_at_lem xs s rest

pub start_at : (before : List Line) (w : Name) (z d : ℤ) (rest : List Line) → get_or (starts (before ++ (Declared w z ∷ rest))) (how_many makes_variable before) d ≡ z
unfolding starts how_many makes_variable
start_at [] w z d rest = refl
start_at (Blank ∷ xs) w z d rest = start_at xs w z d rest
start_at (Label v ∷ xs) w z d rest = start_at xs w z d rest
start_at (Declared v y ∷ xs) w z d rest = start_at xs w z d rest
start_at (Acts s ∷ xs) w z d rest = start_at xs w z d rest

pub starts_length : (xs : List Line) → length (starts xs) ≡ how_many makes_variable xs
unfolding starts how_many makes_variable
starts_length [] = refl
starts_length (Blank ∷ xs) = starts_length xs
starts_length (Label w ∷ xs) = starts_length xs
starts_length (Declared w z ∷ xs) = ap suc (starts_length xs)
starts_length (Acts s ∷ xs) = starts_length xs

-- How many lines pass a test before the first that declares the name: place_of and rank_of are this.
unfoldable pub rank_by : (Line → Bool) → List Line → Name → ℕ
rank_by p [] w = 0
rank_by p (x ∷ xs) w = let more = rank_by p xs w in cond (declares_it w x) 0 (cond (p x) (suc more) more)

pub place_rank : (xs : List Line) (w : Name) → place_of xs w ≡ rank_by makes_cell xs w
unfolding place_of rank_by
place_rank [] w = refl
place_rank (x ∷ xs) w = rw (place_rank xs w)

pub rank_rank : (xs : List Line) (w : Name) → rank_of xs w ≡ rank_by makes_variable xs w
unfolding rank_of rank_by
rank_rank [] w = refl
rank_rank (x ∷ xs) w = rw (rank_rank xs w)

module _ (p : Line → Bool) (w : Name) where
  -- behind a line that declares a name that no line before it does
  pub rank_here : (before : List Line) (x : Line) (rest : List Line) → any_of (declares_it w) before ≡ false → declares_it w x ≡ true
      → rank_by p (before ++ (x ∷ rest)) w ≡ how_many p before
  unfolding rank_by any_of how_many
  rank_here [] x rest h e = rw e
  rank_here (y ∷ before) x rest h e =
      let n = neither (declares_it w y) (any_of (declares_it w) before) h in
      rw (n.0, rank_here before x rest n.1 e)

  -- no more than all, and fewer where the first line that declares the name passes
  pub rank_most : (xs : List Line) → rank_by p xs w ≤ how_many p xs
  unfolding rank_by how_many
  rank_most [] = omega arith
  rank_most (x ∷ xs) = go (declares_it w x) (p x) (rank_most xs) where
    go : (b c : Bool) → rank_by p xs w ≤ how_many p xs → cond b 0 (cond c (suc (rank_by p xs w)) (rank_by p xs w)) ≤ cond c (suc (how_many p xs)) (how_many p xs)
    go true c h = omega arith
    go false true h = omega arith
    go false false h = h

  pub rank_below : (xs : List Line) → first_makes p w xs ≡ true → rank_by p xs w < how_many p xs
  unfolding rank_by how_many first_makes
  rank_below [] e = let z : ◌≡◌ {A = ℕ} 0 1 = cc in absurd (omega arith)
  rank_below (x ∷ xs) e = go (declares_it w x) (p x) e (rank_below xs) where
    go : (b c : Bool) → cond b c (first_makes p w xs) ≡ true → (first_makes p w xs ≡ true → rank_by p xs w < how_many p xs)
        → cond b 0 (cond c (suc (rank_by p xs w)) (rank_by p xs w)) < cond c (suc (how_many p xs)) (how_many p xs)
    go true true e h = omega arith
    go true false e h = let z : ◌≡◌ {A = ℕ} 0 1 = cc in absurd (omega arith)
    go false true e h = let l = h e in omega arith
    go false false e h = h e
