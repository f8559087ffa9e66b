-- The names of a text, entered line by line, and what their rows tell of it.
-- Assumes nothing.
use mathlib.Core.Path.{◌≡◌, refl, ap, ◌∙◌}
use mathlib.Core.List.{List, [], ◌∷◌, ◌++◌, map}
use Prim.Native.Nat.{ℕ, suc, ◌+◌, ◌≤◌}
use native.Mathlib.Numerals.{add-one}
use native.Mathlib.Omega.{arith}
use lib.ListN.{length, replicate, length-replicate}
use Rattle.numbers.specs.Tests.{Each}
use Rattle.program.specs.Names.{Name}
use Rattle.program.proofs.Keys.{name_key_lem, free_word, free_user}
use Rattle.text.specs.Forms.{Line, Blank, Label, Declared, Acts}
use Rattle.text.specs.Lines.{lines}
use Rattle.text.specs.Faults.{heard, said, makes_cell, makes_variable}
use Rattle.reading.specs.Code.{Reading, told_by, said_by, reading_of}
use Rattle.reading.specs.declared.Said.{Said}
use Rattle.reading.specs.declared.Said.TheVariants as S
use Rattle.reading.proofs.Heard.{Fine, heard_fine, reading_told}
use Rattle.rows.specs.Rows.{Row, row, place, no_row, row_at, enter, made, entered, plus, arranged_from, arranged, Sought}
use Rattle.rows.proofs.Seeking as Seeking
use Rattle.rows.proofs.Seeking.{Spelt, looked_up, enter_long}
use Rattle.names.specs.declared.Counts.{Counts}
use Rattle.names.specs.Code.{Reached, counted, entered_by}
use Rattle.names.proofs.Lines.{few_said}
use Rattle.names.proofs.Passing.{reached_first, reached_more}

-- The names that a text declares are the user's. So its rows tell what the paper's walks find.
spelt : (x : Line) → Fine x → Spelt x
spelt Blank f = tt
spelt (Label w) f = free_user w f
spelt (Declared w z) f = free_user w f.0
spelt (Acts s) f = tt

all_spelt : (ls : List (List ℕ)) → Each Spelt (map heard ls)
all_spelt [] = tt
all_spelt (l ∷ ls) = (spelt (heard l) (heard_fine l), all_spelt ls)

pub sought : (s : List ℕ) (w : Name) → Sought (said s) w (row_at (arranged (said s)) w)
unfolding said
sought s w = looked_up (said s) w (all_spelt (lines s))

pub near : (s : List ℕ) (w : Name) → place (row_at (arranged (said s)) w) ≤ length s
unfolding said
near s w = omega (arith, Seeking.near (said s) w (all_spelt (lines s)), few_said s)

-- A line by what it says.
entered_by_lem : (n c v : ℕ) (x : Line) (rows : List Row) → Fine x → entered_by n c v (said_by x) rows ≡ entered n c v x rows
unfolding entered_by made entered said_by
entered_by_lem n c v Blank rows f = refl
entered_by_lem n c v (Label w) rows f = ap (λ (u : Name). enter rows u (row 1 n c)) (name_key_lem w (free_word w f))
entered_by_lem n c v (Declared w z) rows f = ap (λ (u : Name). enter rows u (row 2 n v)) (name_key_lem w (free_word w f.0))
entered_by_lem n c v (Acts s) rows f = refl

pub entered_long : (n c v : ℕ) (x : Said) (rows : List Row) → length (entered_by n c v x rows) ≡ length rows
unfolding entered_by
entered_long n c v S.Blank rows = refl
entered_long n c v (S.Label k) rows = enter_long rows _ _
entered_long n c v (S.Declared k z) rows = enter_long rows _ _
entered_long n c v (S.Acts c') rows = refl

counted_cells : (n : Counts) (x : Line) → (counted n (said_by x)).cells ≡ plus (makes_cell x) n.cells
unfolding counted said_by plus makes_cell
counted_cells n Blank = refl
counted_cells n (Label w) = refl
counted_cells n (Declared w z) = refl
counted_cells n (Acts s) = add-one n.cells

counted_variables : (n : Counts) (x : Line) → (counted n (said_by x)).variables ≡ plus (makes_variable x) n.variables
unfolding counted said_by plus makes_variable
counted_variables n Blank = refl
counted_variables n (Label w) = refl
counted_variables n (Declared w z) = add-one n.variables
counted_variables n (Acts s) = refl

-- So many lines are passed: entering those that are left gives the whole.
pub record Arranging (s : List ℕ) (rows : List Row) (n : Counts) (k : ℕ) (rest : List (List ℕ)) : Type 0 where
  pub before : List (List ℕ)
  pub reached : Reached s before n k rest
  pub long : length rows ≡ 936
  pub left : arranged_from (suc k) n.cells n.variables (map heard rest) rows ≡ arranged (said s)

pub arranging : (s t : List ℕ) (k : ℕ) → t ≡ s → k ≡ 0 → Arranging s (replicate 936 no_row) (record { cells = 0; labels = 0; variables = 0 }) k (lines t)
unfolding arranged said
arranging s t k e z = rw (e, z) (record { before = []; reached = reached_first s; long = length-replicate 936 no_row; left = refl })

module _ {s : List ℕ} {rows : List Row} {n : Counts} {k : ℕ} {rest : List (List ℕ)} (h : Arranging s rows n k rest) where
  arrange_one : {l : List ℕ} {more : List (List ℕ)} {q : Reading} {x : Said} {rows' : List Row} {m : Counts} → rest ≡ l ∷ more → q ≡ reading_of l
      → x ≡ told_by q → rows' ≡ entered_by (k + 1) n.cells n.variables x rows → m ≡ counted n x → Arranging s rows' m (k + 1) more
  unfolding arranged_from
  arrange_one {l} {more} {q} {x} {rows'} {m} r e f g i =
      let y = heard l in
      let told : x ≡ said_by y = f ∙ rw e (reading_told l) in
      let row : rows' ≡ entered (suc k) n.cells n.variables y rows = g ∙ rw (told, add-one k) (entered_by_lem (suc k) n.cells n.variables y rows (heard_fine l)) in
      let counts : m ≡ counted n (said_by y) = i ∙ rw told in
      record {
        before = h.before ++ (l ∷ []);
        reached = reached_more h.reached r counts;
        long = ap length g ∙ entered_long (k + 1) n.cells n.variables x rows ∙ h.long;
        left = rw (row, add-one k, counts, counted_cells n y, counted_variables n y) (rw r at h.left);
      }

  pub arrange_more : {l : List ℕ} {more : List (List ℕ)} {q : Reading} {x : Said} {rows' : List Row} {m : Counts} {i j : ℕ} → rest ≡ l ∷ more → i ≡ k → j ≡ k + 1
      → q ≡ reading_of l → x ≡ told_by q → rows' ≡ entered_by (i + 1) n.cells n.variables x rows → m ≡ counted n x → Arranging s rows' m j more
  arrange_more r u v e f g c = rw v (arrange_one r e f (g ∙ rw u) c)

  pub arranged_all : rest ≡ [] → rows ≡ arranged (said s)
  unfolding arranged_from
  arranged_all e = rw e at h.left
