-- The image of a text without a fault: its counts are small, and the parts with the trailer behind them are the image.
-- Assumes nothing.
use mathlib.Core.Path.{◌≡◌, ap, ◌∙◌}
use mathlib.Core.List.{List, ◌++◌}
use Prim.Native.Nat.{ℕ, ◌+◌, ◌*◌, ◌≤◌}
use native.Mathlib.Omega.{arith}
use lib.ListN.{length, drop}
use lib.Seq.{sets}
use Rattle.text.specs.Faults.{said, first_fault, how_many, makes_cell, makes_label, makes_variable}
use Rattle.names.specs.declared.Counts.{Counts}
use Rattle.names.specs.Code.{counts_of}
use Rattle.image.specs.Layout.{trailer_bytes, image_length}
use Rattle.image.specs.Code.{label_place_of, variable_place_of}
use Rattle.translation.specs.Images.{image_of}
use Rattle.translation.specs.Code.{Within}
use Rattle.translation.proofs.Accepted.{few_cells, few_labels, few_variables}
use Rattle.translation.proofs.Parts.{image_written}
use Rattle.translation.proofs.Writing.{parts_from, all_two}

module _ (s : List ℕ) (n : Counts) (e : n ≡ counts_of (said s)) where
  pub few : (first_fault s).number ≡ 0 → (n.cells ≤ 256) × (n.labels ≤ 160) × (n.variables ≤ 32)
  unfolding counts_of
  few z = rw e (few_cells s z, few_labels s z, few_variables s z)

  -- The places where the parts start are near, where the counts are small.
  pub places_near : (l v : ℕ) → (first_fault s).number ≡ 0 → l ≡ label_place_of n.cells 0 → v ≡ variable_place_of n.cells n.labels 0
      → Within 65536 (record { cell = 0; label = l; variable = v })
  places_near l v z p q =
      let f = few z in
      record { cell = omega arith; label = omega (arith, f.0); variable = omega (arith, f.0, f.1) }

  -- What is written from these places, and the trailer behind it.
  pub image_done : (l v t : ℕ) (b c d : List ℕ) → image_length n.cells n.labels n.variables ≤ length b
      → l ≡ label_place_of n.cells 0 → v ≡ variable_place_of n.cells n.labels 0 → t ≡ variable_place_of n.cells n.labels n.variables
      → c ≡ parts_from (said s) (record { cell = 0; label = l; variable = v }) (said s) b
      → d ≡ sets c t (trailer_bytes n.cells n.labels n.variables) → d ≡ image_of (said s) ++ drop (length (image_of (said s))) b
  unfolding counts_of
  image_done l v t b c d room p q r f g =
      let xs = said s in
      let cells : n.cells ≡ how_many makes_cell xs = ap (λ (m : Counts). m.cells) e in
      let labels : n.labels ≡ how_many makes_label xs = ap (λ (m : Counts). m.labels) e in
      let variables : n.variables ≡ how_many makes_variable xs = ap (λ (m : Counts). m.variables) e in
      let l' : l ≡ 16 * how_many makes_cell xs = omega arith in
      let v' : v ≡ 16 * how_many makes_cell xs + 4 * how_many makes_label xs = omega arith in
      let t' : t ≡ 16 * how_many makes_cell xs + 4 * how_many makes_label xs + 8 * how_many makes_variable xs = omega arith in
      g ∙ rw (f, l', v', t', e) (image_written xs (all_two s) b (rw e at room))
