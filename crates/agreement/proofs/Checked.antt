-- The image of an accepted text is accepted: none of the refusals 21 to 25 holds.
-- Assumes nothing.
use mathlib.Core.Path.{◌≡◌, refl, sym, subst, ap, ◌∙◌}
use mathlib.Core.Bool.{Bool, true, false, ◌&&◌, ◌||◌}
use mathlib.Core.List.{List, ◌∷◌, flat_map}
use Prim.Native.Nat.{ℕ, ◌+◌, ◌-◌, ◌≤◌, ◌<◌}
use native.Mathlib.Omega.{arith}
use borrow.Author.Tests.{le-ltb, leb-true}
use lib.Dec.{leb, ltb}
use lib.ListN.{length}
use Rattle.numbers.specs.Tests.{lowest, eq_list}
use Rattle.numbers.proofs.Tests.{no_any, eq_list_eq}
use Rattle.numbers.proofs.Truth.{is_no}
use Rattle.text.specs.Forms.{Line, Label}
use Rattle.text.specs.Faults.{said, how_many, makes_cell, makes_label, makes_variable, declares, place_of, number_of}
use Rattle.image.specs.Layout.{image_length, variable_count, label_target}
use Rattle.image.specs.Check.{bad_length, bad_edition, bad_trailer, bad_cell, bad_cells, record_name, bad_name, bad_target, bad_start, bad_records, image_faults, checked}
use Rattle.image.proofs.Accepted.{length_made, length_accepted, edition_accepted, trailer_accepted, Acceptable, statement_accepted}
use Rattle.translation.specs.Images.{cell_part, image_of, image, accepted}
use Rattle.translation.specs.Places.{line_at}
use Rattle.agreement.proofs.Sound.{Fine, fine, good}
use Rattle.agreement.proofs.Places.{fronts, rank_by, place_rank, rank_here}
use Rattle.agreement.proofs.Records.{front, trailed, front_length, cell_count_lem, label_count_lem, variable_count_lem, place_most, variable_start, variable_zeros, start_literal}
use Rattle.agreement.proofs.Cells.{cell_rest, cell_good, cells_before, cell_split, cell_line_lem, line_acceptable}
use Rattle.agreement.proofs.Names.{label_line_lem, variable_line_lem, label_record, declares_it_lem, declared_once, recorded, names_apart}

module _ (xs : List Line) (f : Fine xs) where
  abbrev made : List ℕ
  made = image_of xs

  -- Refusals 11 to 13
  pub length_good : bad_length made ≡ false
  length_good = rw (trailed xs) (length_accepted (front xs) (how_many makes_cell xs) (how_many makes_label xs) (how_many makes_variable xs) (front_length xs f) f.cells f.labels f.variables)

  pub edition_good : bad_edition made ≡ false
  edition_good = rw (trailed xs) (edition_accepted (front xs) (how_many makes_cell xs) (how_many makes_label xs) (how_many makes_variable xs) (front_length xs f) f.cells f.labels f.variables)

  pub trailer_good : bad_trailer made ≡ false
  trailer_good = rw (trailed xs) (trailer_accepted (front xs) (how_many makes_cell xs) (how_many makes_label xs) (how_many makes_variable xs) (front_length xs f) f.cells f.labels f.variables)

  -- Refusals 14
  cell_good_at : (k : ℕ) → k < how_many makes_cell xs → bad_cell made k ≡ false
  cell_good_at k h =
      let l = cell_line_lem xs f k h in
      let s = line_at xs k in
      let split = cell_split xs f l.before l.rest s l.whole in
      let there : Acceptable (place_of xs) (number_of xs) made (variable_count made) s = rw (variable_count_lem xs f) (line_acceptable xs f k h) in
      let ok =
      statement_accepted (place_of xs) (number_of xs) s (flat_map (cell_part xs) l.before) (cell_rest xs l.rest) (how_many makes_cell l.before)
      (cell_good xs f l.before l.rest s l.whole)
      (cells_before xs f l.before l.rest s l.whole)
      (subst (λ (i : List ℕ). Acceptable (place_of xs) (number_of xs) i (variable_count i) s) split there) in
      subst (λ (j : ℕ). bad_cell made j ≡ false) l.rank (subst (λ (i : List ℕ). bad_cell i (how_many makes_cell l.before) ≡ false) (sym split) ok)

  pub cells_good : bad_cells made ≡ false
  unfolding bad_cells
  cells_good = rw (cell_count_lem xs f) (no_any (bad_cell made) (how_many makes_cell xs) cell_good_at)

  -- Refusals 15: names
  name_good : (k : ℕ) → k < how_many makes_label xs + how_many makes_variable xs → bad_name made k ≡ false
  unfolding bad_name
  name_good k h =
      rw (recorded xs f k h).free
      (no_any (λ j. eq_list (record_name made j) (record_name made k)) k
      (λ j l.
      is_no (eq_list (record_name made j) (record_name made k))
      (λ t. let e = names_apart xs f j k (omega arith) h (eq_list_eq (record_name made j) (record_name made k) t) in omega arith)))

  -- targets
  target_of_lem : (k : ℕ) (h : k < how_many makes_label xs) → label_target made k ≡ how_many makes_cell (label_line_lem xs k h).before
  unfolding declares
  target_of_lem k h =
      let l = label_line_lem xs k h in
      let g = good xs f l.before (Label l.name) l.rest l.whole in
      let it = declares_it_lem l.name (Label l.name) refl in
      let once = declared_once l.name (Label l.name) refl xs l.before g in
      (label_record xs f k h).1
      ∙ place_rank xs l.name
      ∙ ap (λ (ys : List Line). rank_by makes_cell ys l.name) l.whole
      ∙ rank_here makes_cell l.name l.before (Label l.name) l.rest once it

  -- they never fall
  pub targets_rise : (j k : ℕ) → j < k → k < how_many makes_label xs → label_target made j ≤ label_target made k
  targets_rise j k l h =
      let i : j < how_many makes_label xs = omega arith in
      let a = label_line_lem xs j i in
      let b = label_line_lem xs k h in
      let less : how_many makes_label a.before < how_many makes_label b.before = rw (a.rank, b.rank) l in
      rw (target_of_lem j i, target_of_lem k h)
      (fronts makes_label makes_cell a.before (Label a.name ∷ a.rest) b.before (Label b.name ∷ b.rest) (sym a.whole ∙ b.whole) less)

  -- and are at most the cell count
  pub targets_most : (k : ℕ) → k < how_many makes_label xs → label_target made k ≤ how_many makes_cell xs
  targets_most k h = rw (label_record xs f k h).1 (place_most xs (label_line_lem xs k h).name)

  target_good : (k : ℕ) → k < how_many makes_label xs → bad_target made k ≡ false
  unfolding bad_target
  target_good k h =
      rw (cell_count_lem xs f, le-ltb (how_many makes_cell xs) (label_target made k) (targets_most k h)) (go (leb 1 k) refl)
    where
      go : (b : Bool) → leb 1 k ≡ b → ((b && ltb (label_target made k) (label_target made (k - 1))) || false) ≡ false
      go true e = let l = leb-true 1 k e in rw (le-ltb (label_target made k) (label_target made (k - 1)) (targets_rise (k - 1) k (omega arith) h))
      go false e = refl

  -- start values
  start_good : (k : ℕ) → k < how_many makes_variable xs → bad_start made k ≡ false
  unfolding bad_start
  start_good k h =
      let l = variable_line_lem xs k h in
      let zeros = variable_zeros xs f l.before l.rest l.name l.start l.whole in
      let value = variable_start xs f l.before l.rest l.name l.start l.whole in
      let fits = start_literal xs f l.before l.rest l.name l.start l.whole in
      subst (λ (j : ℕ). bad_start made j ≡ false) l.rank (rw (bad_start, zeros, value, fits))

  pub records_good : bad_records made ≡ false
  unfolding bad_records
  records_good =
      rw (
        label_count_lem xs f,
        variable_count_lem xs f,
        no_any (bad_name made) (how_many makes_label xs + how_many makes_variable xs) name_good,
        no_any (bad_target made) (how_many makes_label xs) target_good,
        no_any (bad_start made) (how_many makes_variable xs) start_good,
      )

  pub image_good : checked made ≡ 0
  unfolding checked image_faults lowest
  image_good = rw (length_good, edition_good, trailer_good, cells_good, records_good)

-- Refusals 26, Refusals 27: the image of an accepted text is accepted.
pub image_checked : (text : List ℕ) → accepted text ≡ true → checked (image text) ≡ 0
unfolding image
image_checked text ok = image_good (said text) (fine text ok)

-- Image 14: the longest image.
pub image_most : (text : List ℕ) → accepted text ≡ true → length (image text) ≤ 5008
unfolding image image_length
image_most text ok =
    let xs = said text in
    let f = fine text ok in
    let c = f.cells in
    let l = f.labels in
    let v = f.variables in
    rw (trailed xs)
    (rw (length_made (front xs) (how_many makes_cell xs) (how_many makes_label xs) (how_many makes_variable xs) (front_length xs f) c l v) (omega arith))
