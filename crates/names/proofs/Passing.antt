-- A pass over the lines of a text: how many lines there are before the next, and what they make.
-- Assumes nothing.
use mathlib.Core.Path.{◌≡◌, refl, ap, ◌∙◌}
use mathlib.Core.List.{List, [], ◌∷◌, ◌++◌, map, map-append, append_assoc}
use Prim.Native.Nat.{ℕ, ◌+◌, ◌≤◌, ◌<◌}
use native.Mathlib.Omega.{arith}
use lib.ListN.{length, length-append, length-map}
use Rattle.text.specs.Lines.{lines}
use Rattle.text.specs.Faults.{heard, how_many, makes_cell, makes_label, makes_variable}
use Rattle.text.proofs.Lines.{lines_fit}
use Rattle.reading.specs.Code.{said_by}
use Rattle.names.specs.declared.Counts.{Counts}
use Rattle.names.specs.Code.{Below, Reached, counted, counts_of}
use Rattle.names.proofs.Lines.{count_most, counted_more}

pub reached_first : (s : List ℕ) → Reached s [] (record { cells = 0; labels = 0; variables = 0 }) 0 (lines s)
unfolding counts_of how_many
reached_first s = record { whole = refl; many = refl; counts = refl }

module _ {s : List ℕ} {before : List (List ℕ)} {n : Counts} {k : ℕ} {rest : List (List ℕ)} (h : Reached s before n k rest) where
  -- The lines that are passed and those that are left are no more than the bytes.
  pub count_fits : k + length rest ≤ length s
  count_fits = omega (arith, ap length h.whole, length-append before rest, h.many, lines_fit s)

  module _ {l : List ℕ} {more : List (List ℕ)} (r : rest ≡ l ∷ more) where
    -- There are no more lines than bytes, and none of the counts is more than the lines.
    pub line_there : k < length s
    line_there =
        let whole : length (before ++ (l ∷ more)) ≡ length (lines s) = ap length (rw r at h.whole) in
        omega (arith, whole, length-append before (l ∷ more), h.many, lines_fit s)

    pub counts_below : (most : ℕ) → length s ≤ most → Below most n
    unfolding counts_of
    counts_below most f =
        let xs = map heard before in
        let long : length xs ≡ k = length-map before heard ∙ h.many in
        let here = line_there in
        rw h.counts
        (record {
          cells = omega (arith, count_most makes_cell xs);
          labels = omega (arith, count_most makes_label xs);
          variables = omega (arith, count_most makes_variable xs);
        })

    pub reached_more : {m : Counts} → m ≡ counted n (said_by (heard l)) → Reached s (before ++ (l ∷ [])) m (k + 1) more
    reached_more e =
        record {
          whole = append_assoc before (l ∷ []) more ∙ (rw r at h.whole);
          many = length-append before (l ∷ []) ∙ omega (arith, h.many);
          counts = e ∙ rw (h.counts, map-append heard before (l ∷ [])) (counted_more (map heard before) (heard l));
        }
