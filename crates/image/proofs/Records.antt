-- What a trailer that fits tells.
-- Assumes nothing.
use mathlib.Core.Path.{◌≡◌}
use mathlib.Core.Bool.{false, not}
use mathlib.Core.List.{List}
use Prim.Native.Nat.{ℕ, ◌*◌, ◌≤◌}
use borrow.Author.Tests.{ltb-false, eqb-true, not-false}
use lib.Dec.{eqb}
use lib.ListN.{length}
use Rattle.numbers.proofs.Truth.{neither}
use Rattle.program.specs.Variables.{most_cells, most_labels, most_variables}
use Rattle.image.specs.Layout.{image_length, cell_count, label_count, variable_count, first_label_place, whole_length}
use Rattle.image.specs.Check.{bad_trailer}

-- A trailer that fits the image and the limits.
pub record Fitting (s : List ℕ) : Type 0 where
  pub place : first_label_place s ≡ 16 * cell_count s
  pub whole : whole_length s ≡ length s
  pub size : image_length (cell_count s) (label_count s) (variable_count s) ≡ length s
  pub cells : cell_count s ≤ 256
  pub labels : label_count s ≤ 160
  pub variables : variable_count s ≤ 32

equal : (a b : ℕ) → not (eqb a b) ≡ false → a ≡ b
equal a b e = eqb-true a b (not-false (eqb a b) e)

pub fitting : (s : List ℕ) → bad_trailer s ≡ false → Fitting s
unfolding bad_trailer most_cells most_labels most_variables
fitting s e =
    let p = neither _ _ e in
    let w = neither _ _ p.1 in
    let i = neither _ _ w.1 in
    let c = neither _ _ i.1 in
    let l = neither _ _ c.1 in
    record {
      place = equal _ _ p.0;
      whole = equal _ _ w.0;
      size = equal _ _ i.0;
      cells = ltb-false _ _ c.0;
      labels = ltb-false _ _ l.0;
      variables = ltb-false _ _ l.1;
    }
