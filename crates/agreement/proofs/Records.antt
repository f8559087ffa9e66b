-- The counts and the records of a text's image, read back: names, targets, start values.
-- Assumes nothing.
use mathlib.Core.Path.{◌≡◌, refl, sym, subst, ap, ◌∙◌}
use mathlib.Core.Bool.{true}
use mathlib.Core.List.{List, [], ◌∷◌, ◌++◌, append_assoc, flat_map}
use Prim.Native.Nat.{ℕ, suc, ◌+◌, ◌*◌, ◌≤◌, ◌<◌}
use native.Mathlib.Nat.{zero-add, add-zero}
use native.Mathlib.Omega.{arith}
use borrow.Author.Tests.{not-false}
use lib.IntN.{ℤ, pos}
use lib.ListN.{length, get_or, length-append}
use Rattle.numbers.specs.Bytes.{bytes, field}
use Rattle.numbers.specs.Bits.{digits32}
use Rattle.numbers.specs.Tests.{listed}
use Rattle.numbers.proofs.Kit.{within32}
use Rattle.numbers.proofs.Lists.{flat_append}
use Rattle.program.specs.Names.{Name}
use Rattle.program.specs.Variables.{in_range, literals}
use Rattle.text.specs.Forms.{Line, Label, Declared}
use Rattle.text.specs.Faults.{how_many, makes_cell, makes_label, makes_variable, place_of, too_big}
use Rattle.image.specs.Layout.{label_bytes, variable_bytes, trailer_bytes, cell_count, label_count, variable_count, label_place, label_target, variable_place, start_value, start_values, name_at}
use Rattle.image.proofs.Back.{name_back, label_back, start_back, zeros_back, cell_count_back, label_count_back, variable_count_back}
use Rattle.translation.specs.Images.{cell_part, label_part, variable_part, image_of}
use Rattle.translation.specs.Places.{starts}
use Rattle.translation.proofs.Writing.{two_named}
use Rattle.translation.proofs.Parts.{AllTwo, parts_length, labels_sized, variables_sized, cells_length, labels_length, variables_length}
use Rattle.agreement.proofs.Sound.{Fine, good}
use Rattle.agreement.proofs.Words.{all_two}
use Rattle.agreement.proofs.Places.{here, variable_is, place_rank, rank_most, start_at, starts_length}

-- What stands before the trailer.
abbrev pub front : List Line → List ℕ
front xs = flat_map (cell_part xs) xs ++ (flat_map (label_part xs) xs ++ flat_map variable_part xs)

abbrev pub trailer : List Line → List ℕ
trailer xs = trailer_bytes (how_many makes_cell xs) (how_many makes_label xs) (how_many makes_variable xs)

-- What stands before and behind a label record, and a variable record, with these lines before or behind its own.
abbrev label_front : List Line → List Line → List ℕ
label_front xs before = flat_map (cell_part xs) xs ++ flat_map (label_part xs) before

abbrev label_rest : List Line → List Line → List ℕ
label_rest xs rest = flat_map (label_part xs) rest ++ (flat_map variable_part xs ++ trailer xs)

abbrev variable_front : List Line → List Line → List ℕ
variable_front xs before = flat_map (cell_part xs) xs ++ (flat_map (label_part xs) xs ++ flat_map variable_part before)

abbrev variable_rest : List Line → List Line → List ℕ
variable_rest xs rest = flat_map variable_part rest ++ trailer xs

pub trailed : (xs : List Line) → image_of xs ≡ front xs ++ trailer xs
unfolding image_of
trailed xs = simp append_assoc

pub part_at : (f : Line → List ℕ) (xs before : List Line) (x : Line) (rest : List Line) → xs ≡ before ++ (x ∷ rest)
    → flat_map f xs ≡ flat_map f before ++ (f x ++ flat_map f rest)
unfolding flat_map
part_at f xs before x rest e = ap (flat_map f) e ∙ flat_append f before (x ∷ rest)

two_front : (a b : List Line) → AllTwo (a ++ b) → AllTwo a
two_front [] b h = tt
two_front (x ∷ a) b h = (h.0, two_front a b h.1)

pub place_most : (xs : List Line) (w : Name) → place_of xs w ≤ how_many makes_cell xs
place_most xs w = rw (place_rank xs w) (rank_most makes_cell w xs)

module _ (xs : List Line) (f : Fine xs) where
  pub front_length : length (front xs) ≡ 16 * how_many makes_cell xs + (4 * how_many makes_label xs + 8 * how_many makes_variable xs)
  front_length =
      length-append (flat_map (cell_part xs) xs) (flat_map (label_part xs) xs ++ flat_map variable_part xs)
      ∙ omega (
        arith,
        length-append (flat_map (label_part xs) xs) (flat_map variable_part xs),
        cells_length xs (all_two xs f),
        labels_length xs (all_two xs f),
        variables_length xs (all_two xs f),
      )

  -- the counts
  pub cell_count_lem : cell_count (image_of xs) ≡ how_many makes_cell xs
  cell_count_lem =
      let h = f.cells in
      rw (trailed xs) (cell_count_back (front xs) (how_many makes_cell xs) (how_many makes_label xs) (how_many makes_variable xs) (omega arith))

  pub label_count_lem : label_count (image_of xs) ≡ how_many makes_label xs
  label_count_lem =
      let h = f.labels in
      rw (trailed xs) (label_count_back (front xs) (how_many makes_cell xs) (how_many makes_label xs) (how_many makes_variable xs) (omega arith))

  pub variable_count_lem : variable_count (image_of xs) ≡ how_many makes_variable xs
  variable_count_lem =
      let h = f.variables in
      rw (trailed xs) (variable_count_back (front xs) (how_many makes_cell xs) (how_many makes_label xs) (how_many makes_variable xs) (omega arith))

  -- a place is a number of two bytes
  pub place_below : (w : Name) → place_of xs w < 65536
  place_below w = let h = f.cells in omega (arith, place_most xs w)

  module _ (before rest : List Line) where
    -- a label record
    module _ (w : Name) (e : xs ≡ before ++ (Label w ∷ rest)) where
      label_two : length w ≡ 2
      label_two = two_named (Label w) (good xs f before (Label w) rest e).heard

      pub label_place_lem : label_place (image_of xs) (how_many makes_label before) ≡ 16 * how_many makes_cell xs + 4 * how_many makes_label before
      unfolding label_place
      label_place_lem = rw cell_count_lem

      labels_before : length (label_front xs before) ≡ label_place (image_of xs) (how_many makes_label before)
      labels_before =
          let two = two_front before (Label w ∷ rest) (subst AllTwo e (all_two xs f)) in
          length-append (flat_map (cell_part xs) xs) (flat_map (label_part xs) before)
          ∙ omega (arith, cells_length xs (all_two xs f), parts_length (label_part xs) makes_label 4 before (labels_sized xs before two), label_place_lem)

      label_split : image_of xs ≡ label_front xs before ++ (label_bytes w (place_of xs w) ++ label_rest xs rest)
      unfolding image_of label_part
      label_split =
          ap (λ (l : List ℕ). flat_map (cell_part xs) xs ++ (l ++ (flat_map variable_part xs ++ trailer xs))) (part_at (label_part xs) xs before (Label w) rest e)
          ∙ simp append_assoc

      pub label_target_lem : label_target (image_of xs) (how_many makes_label before) ≡ place_of xs w
      label_target_lem = label_back (image_of xs) (how_many makes_label before) w (label_front xs before) (label_rest xs rest) label_two (place_of xs w) label_split labels_before (place_below w)

      pub label_name_lem : name_at (image_of xs) (label_place (image_of xs) (how_many makes_label before)) ≡ w
      unfolding label_bytes
      label_name_lem =
          let more : List ℕ = bytes 2 (place_of xs w) ++ label_rest xs rest in
          let spread : image_of xs ≡ label_front xs before ++ (w ++ more) = label_split ∙ simp append_assoc in
          ap (λ (s : List ℕ). name_at s (label_place (image_of xs) (how_many makes_label before))) spread
          ∙ name_back w (label_front xs before) more labels_before label_two

    -- a variable record
    module _ (w : Name) (z : ℤ) (e : xs ≡ before ++ (Declared w z ∷ rest)) where
      variable_two : length w ≡ 2
      variable_two = two_named (Declared w z) (good xs f before (Declared w z) rest e).heard

      pub start_literal : in_range literals z ≡ true
      unfolding too_big
      start_literal = not-false (in_range literals z) (good xs f before (Declared w z) rest e).heard.1

      pub variable_place_lem : variable_place (image_of xs) (how_many makes_variable before)
          ≡ 16 * how_many makes_cell xs + (4 * how_many makes_label xs + 8 * how_many makes_variable before)
      unfolding variable_place
      variable_place_lem = rw (cell_count_lem, label_count_lem)

      variables_before : length (variable_front xs before) ≡ variable_place (image_of xs) (how_many makes_variable before)
      variables_before =
          let two = two_front before (Declared w z ∷ rest) (subst AllTwo e (all_two xs f)) in
          length-append (flat_map (cell_part xs) xs) (flat_map (label_part xs) xs ++ flat_map variable_part before)
          ∙ omega (
            arith,
            length-append (flat_map (label_part xs) xs) (flat_map variable_part before),
            cells_length xs (all_two xs f),
            labels_length xs (all_two xs f),
            parts_length variable_part makes_variable 8 before (variables_sized before two),
            variable_place_lem,
          )

      variable_split : image_of xs ≡ variable_front xs before ++ (variable_bytes w z ++ variable_rest xs rest)
      unfolding image_of variable_part
      variable_split =
          ap (λ (l : List ℕ). flat_map (cell_part xs) xs ++ (flat_map (label_part xs) xs ++ (l ++ trailer xs))) (part_at variable_part xs before (Declared w z) rest e)
          ∙ simp append_assoc

      pub variable_start : start_value (image_of xs) (how_many makes_variable before) ≡ z
      variable_start =
          start_back (image_of xs) (how_many makes_variable before) w (variable_front xs before) (variable_rest xs rest) variable_two z variable_split variables_before
          (within32 literals.lowest literals.highest z refl refl start_literal)

      pub variable_zeros : field 2 (variable_place (image_of xs) (how_many makes_variable before) + 2) (image_of xs) ≡ 0
      variable_zeros = zeros_back (image_of xs) (how_many makes_variable before) w (variable_front xs before) (variable_rest xs rest) variable_two z variable_split variables_before

      pub variable_name_lem : name_at (image_of xs) (variable_place (image_of xs) (how_many makes_variable before)) ≡ w
      unfolding variable_bytes
      variable_name_lem =
          let more : List ℕ = bytes 2 0 ++ (bytes 4 (digits32 z) ++ variable_rest xs rest) in
          let spread : image_of xs ≡ variable_front xs before ++ (w ++ more) = variable_split ∙ simp append_assoc in
          ap (λ (s : List ℕ). name_at s (variable_place (image_of xs) (how_many makes_variable before))) spread
          ∙ name_back w (variable_front xs before) more variables_before variable_two

      start_same : start_value (image_of xs) (how_many makes_variable before) ≡ get_or (starts xs) (how_many makes_variable before) (pos 0)
      start_same =
          variable_start
          ∙ sym (start_at before w z (pos 0) rest)
          ∙ ap (λ (ys : List Line). get_or (starts ys) (how_many makes_variable before) (pos 0)) (sym e)

-- What a function gives at the numbers from 0 on is a list where it gives its elements.
listed_same : (g : ℕ → ℤ) (ys : List ℤ) (from : ℕ) → ((k : ℕ) → k < length ys → g (from + k) ≡ get_or ys k (pos 0)) → listed from (length ys) g ≡ ys
unfolding listed
listed_same g [] from h = refl
listed_same g (y ∷ ys) from h =
    let first : g from ≡ y = ap g (sym (add-zero from)) ∙ h 0 (omega arith) in
    rw (first, listed_same g ys (suc from) (λ k l. let m : suc from + k ≡ from + suc k = omega arith in rw m (h (suc k) (omega arith))))

-- Image 12: the start values are the text's.
start_read : (xs : List Line) → Fine xs → (k : ℕ) → k < how_many makes_variable xs → start_value (image_of xs) k ≡ get_or (starts xs) k (pos 0)
start_read xs f k h =
    let i = here makes_variable xs k h in
    let v = variable_is i.line i.passes in
    let e : xs ≡ i.before ++ (Declared v.0 v.1 ∷ i.rest) = i.whole ∙ ap (λ (x : Line). i.before ++ (x ∷ i.rest)) v.2 in
    subst (λ (j : ℕ). start_value (image_of xs) j ≡ get_or (starts xs) j (pos 0)) i.rank (start_same xs f i.before i.rest v.0 v.1 e)

pub start_values_lem : (xs : List Line) → Fine xs → start_values (image_of xs) ≡ starts xs
unfolding start_values
start_values_lem xs f =
    rw (variable_count_lem xs f, ← starts_length xs)
    (listed_same (start_value (image_of xs)) (starts xs) 0 (λ k l. rw zero-add (start_read xs f k (rw (starts_length xs) at l))))
