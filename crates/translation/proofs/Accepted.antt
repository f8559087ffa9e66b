-- What an accepted text is like: no line of it has any of the faults 2 to 9.
-- Assumes nothing.
use mathlib.Core.Path.{◌≡◌, refl}
use mathlib.Core.Bool.{Bool, true, false, cond, ◌&&◌}
use mathlib.Core.List.{List, [], ◌∷◌, ◌++◌, map, append_assoc, append-nil}
use Prim.Native.Nat.{ℕ, zero, suc, ◌≤◌}
use native.Mathlib.Omega.{arith}
use lib.Dec.{eqb, eqb-suc-zero, leb}
use borrow.Author.Tests.{leb-false}
use Rattle.numbers.specs.Tests.{lowest, Each}
use Rattle.numbers.proofs.Truth.{neither}
use Rattle.program.specs.Variables.{most_cells, most_labels, most_variables}
use Rattle.rows.specs.Rows.{plus}
use Rattle.names.proofs.Lines.{count_more}
use Rattle.text.specs.Lines.{lines}
use Rattle.text.specs.Forms.{Line}
use Rattle.text.specs.Faults.{long_line, reserved_name, heard, repeated, too_many, undeclared, read_only_written, faults, first_from, faults_from, text_faults, first_fault, fault, said, how_many, makes_cell, makes_label, makes_variable}

-- none of the tests holds
abbrev pub NoneOf : List Bool → Type 0
NoneOf bs = Each (λ (b : Bool). b ≡ false) bs

lowest_none : (n : ℕ) (bs : List Bool) → lowest (suc n) bs ≡ 0 → NoneOf bs
unfolding lowest
lowest_none n [] h = tt
lowest_none n (true ∷ bs) h = let z : ◌≡◌ {A = ℕ} (suc n) 0 = h in absurd (omega arith)
lowest_none n (false ∷ bs) h = (refl, lowest_none (suc n) bs h)

-- each line, behind those before it, has none of the faults
abbrev pub Clean : List Line → List Line → List (List ℕ) → Type 0
Clean text before [] = Unit {0}
Clean text before (l ∷ ls) = NoneOf (faults text before l) × Clean text (before ++ (heard l ∷ [])) ls

clean_step : (text before : List Line) (line n : ℕ) (l : List ℕ) (ls : List (List ℕ)) → lowest 2 (faults text before l) ≡ n
    → ((first_from (suc line) (faults_from text (before ++ (heard l ∷ [])) ls)).number ≡ 0 → Clean text (before ++ (heard l ∷ [])) ls)
    → (cond (eqb n 0) (first_from (suc line) (faults_from text (before ++ (heard l ∷ [])) ls)) (fault n line)).number ≡ 0 → Clean text before (l ∷ ls)
clean_step text before line zero l ls e ih h = (lowest_none 1 (faults text before l) e, ih h)
clean_step text before line (suc n) l ls e ih h =
    let z : ◌≡◌ {A = ℕ} (suc n) 0 = rw (eqb-suc-zero n) at h in absurd (omega arith)

pub clean : (text before : List Line) (line : ℕ) (ls : List (List ℕ)) → (first_from line (faults_from text before ls)).number ≡ 0 → Clean text before ls
unfolding first_from faults_from
clean text before line [] h = tt
clean text before line (l ∷ ls) h = clean_step text before line (lowest 2 (faults text before l)) l ls refl (clean text (before ++ (heard l ∷ [])) (suc line) ls) h

-- no more lines pass a test than are allowed, where each that does is behind fewer
limit_step : (b : Bool) (most n : ℕ) → (b && leb most n) ≡ false → n ≤ most → plus b n ≤ most
unfolding plus
limit_step true most n h k = leb-false most n h
limit_step false most n h k = k

module _ (p : Line → Bool) (most : ℕ) where
  abbrev Behind : List Line → List (List ℕ) → Type 0
  Behind before [] = Unit {0}
  Behind before (l ∷ ls) = ((p (heard l) && leb most (how_many p before)) ≡ false) × Behind (before ++ (heard l ∷ [])) ls

  limit : (before : List Line) (ls : List (List ℕ)) → Behind before ls → how_many p before ≤ most → how_many p (before ++ map heard ls) ≤ most
  limit before [] h k = rw (append-nil before) k
  limit before (l ∷ ls) h k =
      rw (← append_assoc before (heard l ∷ []) (map heard ls))
      (limit (before ++ (heard l ∷ [])) ls h.1 (rw (count_more p before (heard l)) (limit_step (p (heard l)) most (how_many p before) h.0 k)))

-- the faults of one line, by name
module _ (text before : List Line) (l : List ℕ) (h : NoneOf (faults text before l)) where
  pub no_long : long_line l ≡ false
  unfolding faults
  no_long = h.0

  pub no_reserved : reserved_name l ≡ false
  unfolding faults
  no_reserved = h.1.1.1.0

  pub no_repeated : repeated before (heard l) ≡ false
  unfolding faults
  no_repeated = h.1.1.1.1.0

  pub no_many : too_many before (heard l) ≡ false
  unfolding faults
  no_many = h.1.1.1.1.1.0

  pub no_undeclared : undeclared text (heard l) ≡ false
  unfolding faults
  no_undeclared = h.1.1.1.1.1.1.0

  pub no_read_only : read_only_written (heard l) ≡ false
  unfolding faults
  no_read_only = h.1.1.1.1.1.1.1.0

abbrev tests : (Line → Bool) → ℕ → List Line → List ℕ → Bool
tests p most before l = p (heard l) && leb most (how_many p before)

module _ (text : List Line) where
  cells_behind : (before : List Line) (ls : List (List ℕ)) → Clean text before ls → Behind makes_cell most_cells before ls
  unfolding too_many
  cells_behind before [] h = tt
  cells_behind before (l ∷ ls) h = ((neither _ _ (no_many text before l h.0)).0, cells_behind (before ++ (heard l ∷ [])) ls h.1)

  labels_behind : (before : List Line) (ls : List (List ℕ)) → Clean text before ls → Behind makes_label most_labels before ls
  unfolding too_many
  labels_behind before [] h = tt
  labels_behind before (l ∷ ls) h = (
    (neither (tests makes_label most_labels before l) _ (neither (tests makes_cell most_cells before l) _ (no_many text before l h.0)).1).0,
    labels_behind (before ++ (heard l ∷ [])) ls h.1,
  )

  variables_behind : (before : List Line) (ls : List (List ℕ)) → Clean text before ls → Behind makes_variable most_variables before ls
  unfolding too_many
  variables_behind before [] h = tt
  variables_behind before (l ∷ ls) h = (
    (neither (tests makes_label most_labels before l) _ (neither (tests makes_cell most_cells before l) _ (no_many text before l h.0)).1).1,
    variables_behind (before ++ (heard l ∷ [])) ls h.1,
  )

-- a text without a fault keeps the limits
module _ (text : List ℕ) (h : (first_fault text).number ≡ 0) where
  pub all_clean : Clean (said text) [] (lines text)
  unfolding first_fault text_faults
  all_clean = clean (said text) [] 1 (lines text) h

  pub few_cells : how_many makes_cell (said text) ≤ 256
  unfolding said most_cells how_many
  few_cells = limit makes_cell most_cells [] (lines text) (cells_behind (said text) [] (lines text) all_clean) (omega arith)

  pub few_labels : how_many makes_label (said text) ≤ 160
  unfolding said most_labels how_many
  few_labels = limit makes_label most_labels [] (lines text) (labels_behind (said text) [] (lines text) all_clean) (omega arith)

  pub few_variables : how_many makes_variable (said text) ≤ 32
  unfolding said most_variables how_many
  few_variables = limit makes_variable most_variables [] (lines text) (variables_behind (said text) [] (lines text) all_clean) (omega arith)
