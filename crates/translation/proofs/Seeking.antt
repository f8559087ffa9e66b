-- The line that makes a cell, sought line by line: what seeking from here on finds, seeking in the whole text does.
-- Assumes nothing.
use mathlib.Core.Path.{◌≡◌, refl, sym, ap, ◌∙◌}
use mathlib.Core.Bool.{Bool, true, false, ◌&&◌}
use mathlib.Core.List.{List, [], ◌∷◌, ◌++◌}
use Prim.Native.Nat.{ℕ, zero, suc, ◌+◌, ◌-◌, ◌≤◌, ◌<◌}
use native.Mathlib.Numerals.{add-one}
use native.Mathlib.Omega.{arith}
use borrow.Author.Tests.{ne_eqb}
use lib.Dec.{eqb}
use lib.ListN.{length, take, drop, get_or, length-append}
use lib.Seq.{take_at, get_or_at}
use Rattle.std.specs.Prelude.{Some, None}
use Rattle.text.specs.Lines.{lines}
use Rattle.text.specs.Forms.{Line, Blank, Label, Declared, Acts}
use Rattle.text.specs.Faults.{heard, said, how_many, makes_cell}
use Rattle.text.specs.Code.{Starts, LineAt}
use Rattle.reading.specs.Code.{Reading, told_by, in_cell, reading_of}
use Rattle.text.specs.declared.Span.{Span}
use Rattle.reading.specs.declared.Said.{Said}
use Rattle.text.proofs.Lines.{starts_first, lines_split, lines_next}
use Rattle.reading.proofs.Heard.{reading_told, cell_said}
use Rattle.names.proofs.Lines.{said_next, said_end}
use Rattle.translation.specs.Places.{line_at, line_from, line_of, line_bytes}
use Rattle.translation.specs.Code.{fewer, PlacedAt}

-- Seeking from a line on: it is the one; or it is not.
from_here : (line : ℕ) (x : Line) (xs : List Line) (n : ℕ) → (makes_cell x && eqb n 0) ≡ true → line_from line (x ∷ xs) n ≡ line
unfolding line_from makes_cell
from_here line Blank xs n e = let z : ◌≡◌ {A = ℕ} 0 1 = cc in absurd (omega arith)
from_here line (Label w) xs n e = let z : ◌≡◌ {A = ℕ} 0 1 = cc in absurd (omega arith)
from_here line (Declared w y) xs n e = let z : ◌≡◌ {A = ℕ} 0 1 = cc in absurd (omega arith)
from_here line (Acts s) xs zero e = refl
from_here line (Acts s) xs (suc n) e =
    let f = ne_eqb (suc n) 0 (λ x. absurd (omega arith)) in
    let z : ◌≡◌ {A = ℕ} 0 1 = cc in absurd (omega arith)

from_next : (line : ℕ) (x : Line) (xs : List Line) (n : ℕ) → (makes_cell x && eqb n 0) ≡ false → line_from line (x ∷ xs) n ≡ line_from (suc line) xs (fewer (makes_cell x) n)
unfolding line_from makes_cell fewer
from_next line Blank xs n e = refl
from_next line (Label w) xs n e = refl
from_next line (Declared w y) xs n e = refl
from_next line (Acts s) xs zero e = let z : ◌≡◌ {A = ℕ} 0 1 = cc in absurd (omega arith)
from_next line (Acts s) xs (suc n) e = let k : suc n - 1 ≡ n = omega arith in rw k

-- At the start of the line with this number: so many lines stand before it, and so many cells are still to be passed.
pub record Sought (s : List ℕ) (place left line at : ℕ) : Type 0 where
  pub starts : Starts s at
  pub near : at ≤ length s + 1
  pub numbered : line ≤ at + 1
  pub passed : line ≡ suc (length (lines (take at s)))
  pub rest : line_from line (said (drop at s)) left ≡ line_of (said s) place

pub sought_first : (s : List ℕ) (place : ℕ) → Sought s place place 1 0
unfolding lines line_of
sought_first s place = record { starts = starts_first s; near = omega arith; numbered = omega arith; passed = refl; rest = refl }

module _ {s : List ℕ} {place left line at : ℕ} (p : Sought s place left line at) where
  module _ {r : Span} {q : Reading} {x : Said} {t : Bool} (l : LineAt s at r) (e : q ≡ reading_of (take (r.end - at) (drop at s))) (f : x ≡ told_by q) (g : t ≡ in_cell (λ c. true) x) where
    abbrev here : List ℕ
    here = take (r.end - at) (drop at s)

    made_here : makes_cell (heard here) ≡ t
    made_here = cell_said (heard here) ∙ sym (g ∙ ap (in_cell (λ c. true)) (f ∙ ap told_by e ∙ reading_told here))

    -- the lines of the text: those passed, this one, those behind it
    whole : lines s ≡ lines (take at s) ++ (here ∷ lines (drop r.next s))
    whole = sym (lines_split s at p.starts) ∙ ap (λ (ls : List (List ℕ)). lines (take at s) ++ ls) l.cut

    pub sought_more : {m : ℕ} → (t && eqb left 0) ≡ false → m ≡ fewer t left → Sought s place m (line + 1) r.next
    sought_more h c =
        let n = p.numbered in
        record {
          starts = l.starts;
          near = l.fits;
          numbered = omega (arith, l.moves);
          passed = rw (lines_next s at r p.starts l, length-append) (omega (arith, p.passed));
          rest = rw (c, add-one line, ← made_here) (sym (from_next line (heard here) (said (drop r.next s)) left (rw made_here h)) ∙ (rw (said_next s at r l) at p.rest));
        }

    pub placed_here : (t && eqb left 0) ≡ true → PlacedAt s place (Some (record { line = line; start = at; end = r.end }))
    unfolding line_bytes
    placed_here h =
        record {
          line = sym (from_here line (heard here) (said (drop r.next s)) left (rw made_here h)) ∙ (rw (said_next s at r l) at p.rest);
          span = rw (p.passed, whole) (sym (get_or_at (lines (take at s)) here (lines (drop r.next s)) [] (length (lines (take at s))) refl));
          before = let k : line - 1 ≡ length (lines (take at s)) = omega (arith, p.passed) in rw (k, whole) (sym (take_at (lines (take at s)) (here ∷ lines (drop r.next s)) (length (lines (take at s))) refl));
          ordered = l.from;
          within = l.within;
          counted = omega (arith, p.passed);
        }

  pub placed_none : length s ≤ at → PlacedAt s place None
  unfolding line_from
  placed_none h = sym (rw (said_end s at h) at p.rest)

-- one line further on
behind : {line k : ℕ} {y : Line} (xs : List Line) (x : Line) → (suc line ≤ k) × (get_or xs (k - suc line) Blank ≡ y) → (line ≤ k) × (get_or (x ∷ xs) (k - line) Blank ≡ y)
behind {line} {k} xs x p = let l = p.0 in let e : k - line ≡ suc (k - suc line) = omega arith in (omega arith, rw e p.1)

-- A place with a statement has a line, and that line says the statement; a place without one has none.
pub from_there : (line n : ℕ) (xs : List Line) → n < how_many makes_cell xs
    → (line ≤ line_from line xs n) × (get_or xs (line_from line xs n - line) Blank ≡ Acts (line_at xs n))
unfolding line_from line_at how_many makes_cell
from_there line n [] h = absurd (omega arith)
from_there line n (Blank ∷ xs) h = behind xs Blank (from_there (suc line) n xs h)
from_there line n (Label w ∷ xs) h = behind xs (Label w) (from_there (suc line) n xs h)
from_there line n (Declared w z ∷ xs) h = behind xs (Declared w z) (from_there (suc line) n xs h)
from_there line zero (Acts s ∷ xs) h = let e : line - line ≡ 0 = omega arith in (omega arith, rw e)
from_there line (suc n) (Acts s ∷ xs) h = behind xs (Acts s) (from_there (suc line) n xs (omega arith))

pub line_there : (xs : List Line) (n : ℕ) → n < how_many makes_cell xs → get_or xs (line_of xs n - 1) Blank ≡ Acts (line_at xs n)
unfolding line_of
line_there xs n h = (from_there 1 n xs h).1

pub from_none : (line n : ℕ) (xs : List Line) → how_many makes_cell xs ≤ n → line_from line xs n ≡ 0
unfolding line_from how_many makes_cell
from_none line n [] h = refl
from_none line n (Blank ∷ xs) h = from_none (suc line) n xs h
from_none line n (Label w ∷ xs) h = from_none (suc line) n xs h
from_none line n (Declared w z ∷ xs) h = from_none (suc line) n xs h
from_none line zero (Acts s ∷ xs) h = absurd (omega arith)
from_none line (suc n) (Acts s ∷ xs) h = from_none (suc line) n xs (omega arith)

pub line_none : (xs : List Line) (n : ℕ) → how_many makes_cell xs ≤ n → line_of xs n ≡ 0
unfolding line_of
line_none xs n h = from_none 1 n xs h
