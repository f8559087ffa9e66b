-- Document 01, Refusals 2 to 9: each fault number is the row of the table that it names, and a line has no other.
-- Assumes nothing.
use mathlib.Core.Path.{◌≡◌, refl, sym, ap, ◌∙◌}
use mathlib.Core.Bool.{Bool, true, false, false≢true}
use mathlib.Core.List.{List, [], ◌∷◌, ◌++◌, map, append_assoc, append-nil}
use Prim.Native.Nat.{ℕ, zero, suc, ◌-◌, ◌≤◌, ◌<◌}
use native.Mathlib.Omega.{arith}
use borrow.Author.Tests.{leb-true, leb-false}
use lib.Dec.{leb}
use lib.ListN.{length, take, get_or, get_or-eq_default}
use Rattle.text.specs.Lines.{lines}
use Rattle.text.specs.Forms.{Line}
use Rattle.text.specs.Faults.{long_line, bad_form, big_literal, reserved_name, heard, repeated, too_many, undeclared, read_only_written, faults, faults_from, said, text_faults, faults_of}
use Rattle.refusals.specs.Lines.{line_at}

-- What the lines before line l say.
abbrev pub said_before : List ℕ → ℕ → List Line
said_before text l = take (l - 1) (said text)

-- Each line has its rows, behind the lines before it.
module _ (text : List Line) where
  faults_at : (before : List Line) (ls : List (List ℕ)) (i : ℕ) → i < length ls
      → get_or (faults_from text before ls) i [] ≡ faults text (before ++ take i (map heard ls)) (get_or ls i [])
  unfolding faults_from
  faults_at before [] i h = absurd (omega arith)
  faults_at before (l ∷ ls) zero h = rw (append-nil before)
  faults_at before (l ∷ ls) (suc i) h =
      faults_at (before ++ (heard l ∷ [])) ls i (omega arith) ∙ rw (append_assoc before (heard l ∷ []) (take i (map heard ls)))

  faults_length : (before : List Line) (ls : List (List ℕ)) → length (faults_from text before ls) ≡ length ls
  unfolding faults_from
  faults_length before [] = refl
  faults_length before (l ∷ ls) = ap suc (faults_length (before ++ (heard l ∷ [])) ls)

pub rows_at : (text : List ℕ) (l : ℕ) → 1 ≤ l → l ≤ length (lines text) → faults_of text l ≡ faults (said text) (said_before text l) (line_at text l)
unfolding faults_of text_faults said
rows_at text zero low high = absurd (omega arith)
rows_at text (suc i) low high = let e : suc i - 1 ≡ i = omega arith in rw e (faults_at (said text) [] (lines text) i high)

-- Line l has fault n.
abbrev pub has : List ℕ → ℕ → ℕ → Bool
has text n l = get_or (faults_of text l) (n - 2) false

module _ (text : List ℕ) (l : ℕ) (low : 1 ≤ l) (high : l ≤ length (lines text)) where
  -- Fault n is row n.
  pub row : (n : ℕ) → has text n l ≡ get_or (faults (said text) (said_before text l) (line_at text l)) (n - 2) false
  row n = ap (λ (rows : List Bool). get_or rows (n - 2) false) (rows_at text l low high)

  -- No. 2: the line is too long.
  pub row_2 : has text 2 l ≡ long_line (line_at text l)
  unfolding faults
  row_2 = row 2

  -- No. 3: a byte or a form that no line may have.
  pub row_3 : has text 3 l ≡ bad_form (line_at text l)
  unfolding faults
  row_3 = row 3

  -- No. 4: a literal that is too big or too small.
  pub row_4 : has text 4 l ≡ big_literal (line_at text l)
  unfolding faults
  row_4 = row 4

  -- No. 5: a reserved name is declared.
  pub row_5 : has text 5 l ≡ reserved_name (line_at text l)
  unfolding faults
  row_5 = row 5

  -- No. 6: a name is declared again.
  pub row_6 : has text 6 l ≡ repeated (said_before text l) (heard (line_at text l))
  unfolding faults
  row_6 = row 6

  -- No. 7: one more than there may be.
  pub row_7 : has text 7 l ≡ too_many (said_before text l) (heard (line_at text l))
  unfolding faults
  row_7 = row 7

  -- No. 8: a name has no declaration, or its first is of another kind.
  pub row_8 : has text 8 l ≡ undeclared (said text) (heard (line_at text l))
  unfolding faults
  row_8 = row 8

  -- No. 9: what may only be read is written.
  pub row_9 : has text 9 l ≡ read_only_written (heard (line_at text l))
  unfolding faults
  row_9 = row 9

-- A test that holds stands in the list.
held_below : (bs : List Bool) (k : ℕ) → get_or bs k false ≡ true → k < length bs
held_below bs k e = go (leb (length bs) k) refl where
  go : (t : Bool) → leb (length bs) k ≡ t → k < length bs
  go true i = absurd (false≢true (sym (get_or-eq_default bs false (leb-true (length bs) k i)) ∙ e))
  go false i = leb-false (length bs) k i

-- A row of the table, from 0, and a line of the text.
abbrev pub Possible : List ℕ → ℕ → ℕ → Type 0
Possible text k l = (k < 8) × (1 ≤ l) × (l ≤ length (lines text))

-- Each row that holds is of that kind.
pub fault_range : (text : List ℕ) (k l : ℕ) → get_or (faults_of text l) k false ≡ true → Possible text k l
unfolding faults_of text_faults faults
fault_range text k zero e = absurd (false≢true e)
fault_range text k (suc i) e = go (leb (length (lines text)) i) refl where
  go : (t : Bool) → leb (length (lines text)) i ≡ t → Possible text k (suc i)
  go true h =
      let none : get_or (text_faults text) i [] ≡ [] = get_or-eq_default (text_faults text) [] (omega (arith, faults_length (said text) [] (lines text), leb-true (length (lines text)) i h)) in
      absurd (false≢true (rw none at e))
  go false h =
      let b = leb-false (length (lines text)) i h in
      let r = rows_at text (suc i) (omega arith) b in
      omega (arith, held_below (faults (said text) (said_before text (suc i)) (line_at text (suc i))) k (rw r at e))
