-- Demand 2: the image of the listing of an accepted image is that image.
-- Assumes nothing.
use mathlib.Core.Path.{◌≡◌, refl, sym, ap, ap₂, ◌∙◌}
use mathlib.Core.List.{List, ◌++◌, flat_map, append-nil}
use Prim.Native.Nat.{ℕ, ◌+◌, ◌*◌}
use native.Mathlib.Nat.{zero-add, add_assoc}
use Rattle.numbers.specs.Bytes.{Bytes}
use Rattle.numbers.proofs.Lists.{flat_append}
use Rattle.text.specs.Forms.{Line}
use Rattle.image.specs.Layout.{cell_bytes, label_bytes, cell_count, label_count, variable_count, label_place, variable_place}
use Rattle.image.specs.Check.{checked}
use Rattle.translation.specs.Images.{cell_part, label_part, variable_part, image_of, image}
use Rattle.printing.specs.Listing.{listing}
use Rattle.listing.specs.Listed.{variable_says, listed_lines}
use Rattle.listing.proofs.Lists.{flat_none}
use Rattle.listing.proofs.Accepted.{Accepted, accepted}
use Rattle.listing.proofs.Recorded.{Recorded, recorded, name_of_label}
use Rattle.listing.proofs.Order.{label_line, cell_line, body, front, front_body, of_labels, only_cells, only_variables}
use Rattle.listing.proofs.Counted.{cells_counted, labels_counted, variables_counted}
use Rattle.listing.proofs.Placed.{label_placed}
use Rattle.listing.proofs.Named.{cell_again}
use Rattle.listing.proofs.Pieces.{part, pieces, cell_part_lem, label_part_lem, variable_part_lem, trailer_part, whole_image}
use Rattle.listing.proofs.Said.{listing_said}

module _ (s : List ℕ) (byte : Bytes s) (a : Accepted s) (r : Recorded s) where
  abbrev xs : List Line
  xs = listed_lines s

  both_parts : (f : Line → List ℕ) → flat_map f xs ≡ flat_map f (front s) ++ flat_map f (body s)
  both_parts f = ap (flat_map f) (front_body s) ∙ flat_append f (front s) (body s)

  cells : flat_map (cell_part xs) xs ≡ part s (16 * cell_count s) 0
  unfolding cell_part variable_says
  cells =
      let f = cell_part xs in
      both_parts f
      ∙ ap₂ (λ (x y : List ℕ). x ++ y)
      (only_variables s f ∙ flat_none (λ k. f (variable_says s k)) 0 (variable_count s) (λ k l m. refl))
      (only_cells s f (λ w. refl)
      ∙ pieces s (λ k. f (cell_line s k)) 16 0 (cell_count s)
      (λ k l. ap cell_bytes (cell_again s a r k l) ∙ cell_part_lem s byte a r k l ∙ ap (part s 16) (sym (zero-add (16 * k)))))

  labels : flat_map (label_part xs) xs ≡ part s (4 * label_count s) (16 * cell_count s)
  unfolding label_part variable_says label_place
  labels =
      let f = label_part xs in
      both_parts f
      ∙ ap₂ (λ (x y : List ℕ). x ++ y)
      (only_variables s f ∙ flat_none (λ k. f (variable_says s k)) 0 (variable_count s) (λ k l m. refl))
      (of_labels s r f (λ st. refl)
      ∙ pieces s (λ k. f (label_line s k)) 4 (16 * cell_count s) (label_count s)
      (λ k l. ap (label_bytes (name_of_label s k)) (label_placed s r k l) ∙ label_part_lem s byte a r k l))

  variables : flat_map variable_part xs ≡ part s (8 * variable_count s) (16 * cell_count s + 4 * label_count s)
  unfolding variable_part variable_says variable_place
  variables =
      let f = variable_part in
      both_parts f
      ∙ ap₂ (λ (x y : List ℕ). x ++ y)
      (only_variables s f
      ∙ pieces s (λ k. f (variable_says s k)) 8 (16 * cell_count s + 4 * label_count s) (variable_count s)
      (λ k l. variable_part_lem s byte a r k l ∙ ap (part s 8) (sym (add_assoc (16 * cell_count s) (4 * label_count s) (8 * k)))))
      (only_cells s f (λ w. refl) ∙ flat_none (λ k. f (cell_line s k)) 0 (cell_count s) (λ k l m. refl))
      ∙ append-nil (part s (8 * variable_count s) (16 * cell_count s + 4 * label_count s))

  pub lines_image : image_of (listed_lines s) ≡ s
  unfolding image_of
  lines_image =
      rw (cells_counted s r, labels_counted s r, variables_counted s r)
      (whole_image s byte a r cells labels variables (trailer_part s byte a r))

pub listing_image : (s : List ℕ) → checked s ≡ 0 → Bytes s → image (listing s) ≡ s
unfolding image
listing_image s e byte = ap image_of (listing_said s e) ∙ lines_image s byte (accepted s e) (recorded s e)
