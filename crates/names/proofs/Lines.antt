-- What a walk over the lines of a text passes, line by line: what is said, counted and faulty.
-- Assumes nothing.
use mathlib.Core.Path.{◌≡◌, refl, ap, ◌∙◌}
use mathlib.Core.Bool.{Bool, true, false, cond}
use mathlib.Core.List.{List, [], ◌∷◌, ◌++◌, map}
use Prim.Native.Nat.{ℕ, suc, ◌+◌, ◌-◌, ◌≤◌}
use native.Mathlib.Numerals.{add-one}
use native.Mathlib.Omega.{arith}
use lib.ListN.{length, take, drop, length-map}
use Rattle.numbers.specs.Tests.{any_of}
use Rattle.numbers.proofs.Truth.{neither}
use Rattle.program.specs.Names.{Name}
use Rattle.text.specs.Lines.{lines}
use Rattle.text.specs.Forms.{Line, Blank, Label, Declared, Acts}
use Rattle.text.specs.Faults.{heard, said, declares_it, makes_cell, makes_label, makes_variable, first_makes, how_many}
use Rattle.text.specs.Code.{LineAt}
use Rattle.reading.specs.Code.{said_by}
use Rattle.text.specs.declared.Span.{Span}
use Rattle.text.proofs.Lines.{lines_end, lines_fit}
use Rattle.rows.specs.Rows.{plus}
use Rattle.names.specs.Code.{counted, counts_of}

-- What is said from a place on: by the line there and those behind it; nothing at the end.
pub said_next : (s : List ℕ) (at : ℕ) (r : Span) → LineAt s at r → said (drop at s) ≡ heard (take (r.end - at) (drop at s)) ∷ said (drop r.next s)
unfolding said
said_next s at r l = ap (map heard) l.cut

pub said_end : (s : List ℕ) (at : ℕ) → length s ≤ at → said (drop at s) ≡ []
unfolding said
said_end s at h = ap (map heard) (lines_end s at h)

-- A text says no more than it has bytes.
pub few_said : (s : List ℕ) → length (said s) ≤ length s
unfolding said
few_said s = omega (arith, length-map (lines s) heard, lines_fit s)

-- The first line that declares a name, behind lines that do not; one that no line before it does it for.
pub makes_behind : (p : Line → Bool) (w : Name) (xs ys : List Line) → any_of (declares_it w) xs ≡ false → first_makes p w (xs ++ ys) ≡ first_makes p w ys
unfolding any_of first_makes
makes_behind p w [] ys h = refl
makes_behind p w (x ∷ xs) ys h = let n = neither (declares_it w x) (any_of (declares_it w) xs) h in rw n.0 (makes_behind p w xs ys n.1)

pub first_makes_lem : (p : Line → Bool) (w : Name) (before : List Line) (x : Line) (rest : List Line) → any_of (declares_it w) before ≡ false → declares_it w x ≡ true
    → first_makes p w (before ++ (x ∷ rest)) ≡ p x
unfolding first_makes
first_makes_lem p w before x rest h d = makes_behind p w before (x ∷ rest) h ∙ rw d

-- Lines that pass a test are counted over two texts one behind the other.
pub count_append : (p : Line → Bool) (xs ys : List Line) → how_many p (xs ++ ys) ≡ how_many p xs + how_many p ys
unfolding how_many
count_append p [] ys = omega arith
count_append p (x ∷ xs) ys = rw (count_append p xs ys) (go (p x) (how_many p xs) (how_many p ys))
  where
    go : (b : Bool) (m n : ℕ) → cond b (suc (m + n)) (m + n) ≡ cond b (suc m) m + n
    go true m n = omega arith
    go false m n = refl

-- Counting one line more at the end.
pub count_more : (p : Line → Bool) (xs : List Line) (x : Line) → how_many p (xs ++ (x ∷ [])) ≡ plus (p x) (how_many p xs)
unfolding how_many plus
count_more p xs x = count_append p xs (x ∷ []) ∙ go (p x) (how_many p xs)
  where
    go : (b : Bool) (n : ℕ) → n + cond b 1 0 ≡ cond b (suc n) n
    go true n = omega arith
    go false n = omega arith

counted_by : (xs : List Line) (x : Line) → counted (counts_of xs) (said_by x)
    ≡ record {
      cells = plus (makes_cell x) (how_many makes_cell xs);
      labels = plus (makes_label x) (how_many makes_label xs);
      variables = plus (makes_variable x) (how_many makes_variable xs);
    }
unfolding counted counts_of said_by plus makes_cell makes_label makes_variable
counted_by xs Blank = refl
counted_by xs (Label w) = rw add-one
counted_by xs (Declared w z) = rw add-one
counted_by xs (Acts s) = rw add-one

pub counted_more : (xs : List Line) (x : Line) → counted (counts_of xs) (said_by x) ≡ counts_of (xs ++ (x ∷ []))
unfolding counts_of
counted_more xs x = counted_by xs x ∙ rw (count_more makes_cell xs x, count_more makes_label xs x, count_more makes_variable xs x)

-- No test counts more lines than there are.
pub count_most : (p : Line → Bool) (xs : List Line) → how_many p xs ≤ length xs
unfolding how_many
count_most p [] = omega arith
count_most p (x ∷ xs) = go (p x) (count_most p xs)
  where
    go : (b : Bool) → how_many p xs ≤ length xs → cond b (suc (how_many p xs)) (how_many p xs) ≤ suc (length xs)
    go true h = omega arith
    go false h = omega arith
