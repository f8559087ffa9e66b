-- The parts of a text's image: how long they are, and that writing them side by side and the trailer behind them gives the image.
-- Assumes nothing.
use mathlib.Core.Path.{◌≡◌, refl, sym, ap, ◌∙◌}
use mathlib.Core.Bool.{Bool, true, false, cond}
use mathlib.Core.List.{List, [], ◌∷◌, ◌++◌, append_assoc, flat_map}
use Prim.Native.Nat.{ℕ, suc, ◌+◌, ◌*◌, ◌-◌, ◌≤◌}
use native.Mathlib.Nat.{mul-suc, mul-zero}
use native.Mathlib.Omega.{arith}
use lib.IntN.{ℤ}
use lib.ListN.{length, take, drop, length-append, length-drop, take-append-drop}
use lib.Seq.{sets, length-take-le, drop-drop}
use Rattle.numbers.specs.Bytes.{bytes}
use Rattle.numbers.specs.Bits.{digits32}
use Rattle.numbers.proofs.Laws.{length_bytes}
use Rattle.numbers.specs.Tests.{Each}
use Rattle.program.specs.Names.{Name}
use Rattle.program.specs.Cells.{cell_of}
use Rattle.text.specs.Forms.{Line, Blank, Label, Declared, Acts}
use Rattle.text.specs.Faults.{how_many, makes_cell, makes_label, makes_variable, place_of, number_of}
use Rattle.image.specs.Layout.{label_bytes, variable_bytes, trailer_bytes, image_length}
use Rattle.image.proofs.Laws.{length_cell, length_trailer}
use Rattle.translation.specs.Images.{cell_part, label_part, variable_part, image_of}
use Rattle.translation.specs.Code.{emit_from}
use Rattle.translation.proofs.Emission.{emitted, sets_mid}

-- The names that the lines declare have two characters.
abbrev pub TwoNamed : Line → Type 0
TwoNamed Blank = Unit {0}
TwoNamed (Label w) = length w ≡ 2
TwoNamed (Declared w z) = length w ≡ 2
TwoNamed (Acts s) = Unit {0}

abbrev pub AllTwo : List Line → Type 0
AllTwo xs = Each TwoNamed xs

length_label : (w : Name) (target : ℕ) → length w ≡ 2 → length (label_bytes w target) ≡ 4
unfolding label_bytes
length_label w target h = length-append w (bytes 2 target) ∙ omega (arith, length_bytes 2 target)

length_variable : (w : Name) (z : ℤ) → length w ≡ 2 → length (variable_bytes w z) ≡ 8
unfolding variable_bytes
length_variable w z h =
    length-append w (bytes 2 0 ++ bytes 4 (digits32 z))
    ∙ omega (arith, length-append (bytes 2 0) (bytes 4 (digits32 z)), length_bytes 2 0, length_bytes 4 (digits32 z))

-- So many bytes for each line that passes the test.
unfoldable pub each : Bool → ℕ → ℕ
each b n = cond b n 0

-- The parts of one line.
cell_length : (text : List Line) (x : Line) → length (cell_part text x) ≡ each (makes_cell x) 16
unfolding cell_part makes_cell each
cell_length text Blank = refl
cell_length text (Label w) = refl
cell_length text (Declared w z) = refl
cell_length text (Acts s) = length_cell (cell_of (place_of text) (number_of text) s)

label_length : (text : List Line) (x : Line) → TwoNamed x → length (label_part text x) ≡ each (makes_label x) 4
unfolding label_part makes_label each
label_length text Blank h = refl
label_length text (Label w) h = length_label w (place_of text w) h
label_length text (Declared w z) h = refl
label_length text (Acts s) h = refl

variable_length : (x : Line) → TwoNamed x → length (variable_part x) ≡ each (makes_variable x) 8
unfolding variable_part makes_variable each
variable_length Blank h = refl
variable_length (Label w) h = refl
variable_length (Declared w z) h = length_variable w z h
variable_length (Acts s) h = refl

-- The parts of all lines.
module _ (f : Line → List ℕ) (p : Line → Bool) (size : ℕ) where
  abbrev pub Sized : List Line → Type 0
  Sized [] = Unit {0}
  Sized (x ∷ xs) = (length (f x) ≡ each (p x) size) × Sized xs

  sum_each : (b : Bool) (n : ℕ) → each b size + size * n ≡ size * cond b (suc n) n
  unfolding each
  sum_each true n = omega (arith, mul-suc size n)
  sum_each false n = omega arith

  pub parts_length : (xs : List Line) → Sized xs → length (flat_map f xs) ≡ size * how_many p xs
  unfolding flat_map how_many
  parts_length [] h = sym (mul-zero size)
  parts_length (x ∷ xs) h = length-append (f x) (flat_map f xs) ∙ rw (h.0, parts_length xs h.1) (sum_each (p x) (how_many p xs))

pub cells_sized : (text xs : List Line) → Sized (cell_part text) makes_cell 16 xs
cells_sized text [] = tt
cells_sized text (x ∷ xs) = (cell_length text x, cells_sized text xs)

pub labels_sized : (text xs : List Line) → AllTwo xs → Sized (label_part text) makes_label 4 xs
labels_sized text [] h = tt
labels_sized text (x ∷ xs) h = (label_length text x h.0, labels_sized text xs h.1)

pub variables_sized : (xs : List Line) → AllTwo xs → Sized variable_part makes_variable 8 xs
variables_sized [] h = tt
variables_sized (x ∷ xs) h = (variable_length x h.0, variables_sized xs h.1)

-- Three runs of parts and a last list, written into a buffer with room for them.
module _ {A : Type 0} (f g h : A → List ℕ) (xs : List A) (c l v n : ℕ) (last b : List ℕ)
    (ec : length (flat_map f xs) ≡ c) (el : length (flat_map g xs) ≡ l) (ev : length (flat_map h xs) ≡ v) (en : length last ≡ n)
    (room : c + (l + (v + n)) ≤ length b) where
  all_written : sets (emit_from f g h 0 c (c + l) xs b) (c + l + v) last ≡ (flat_map f xs ++ (flat_map g xs ++ (flat_map h xs ++ last))) ++ drop (c + (l + (v + n))) b
  all_written =
      let x : List ℕ = take c b in
      let b₁ : List ℕ = drop c b in
      let y : List ℕ = take l b₁ in
      let b₂ : List ℕ = drop l b₁ in
      let z : List ℕ = take v b₂ in
      let b₃ : List ℕ = drop v b₂ in
      let w : List ℕ = take n b₃ in
      let r : List ℕ = drop n b₃ in
      let n₁ : length b₁ ≡ length b - c = length-drop c b in
      let n₂ : length b₂ ≡ length b₁ - l = length-drop l b₁ in
      let n₃ : length b₃ ≡ length b₂ - v = length-drop v b₂ in
      let nx : length x ≡ c = length-take-le c b (omega arith) in
      let ny : length y ≡ l = length-take-le l b₁ (omega arith) in
      let nz : length z ≡ v = length-take-le v b₂ (omega arith) in
      let nw : length w ≡ n = length-take-le n b₃ (omega arith) in
      let cut : x ++ (y ++ (z ++ (w ++ r))) ≡ b =
      ap (λ (s : List ℕ). x ++ (y ++ (z ++ s))) (take-append-drop n b₃) ∙ ap (λ (s : List ℕ). x ++ (y ++ s)) (take-append-drop v b₂)
      ∙ ap (λ (s : List ℕ). x ++ s) (take-append-drop l b₁) ∙ take-append-drop c b in
      let parts : emit_from f g h 0 c (c + l) xs (x ++ (y ++ (z ++ (w ++ r)))) ≡ flat_map f xs ++ (flat_map g xs ++ (flat_map h xs ++ (w ++ r))) =
      emitted f g h xs 0 c (c + l) [] x [] y [] z (w ++ r) (nx ∙ sym ec) (ny ∙ sym el) (nz ∙ sym ev) refl (omega arith) (omega arith) in
      let front : length (flat_map f xs ++ (flat_map g xs ++ flat_map h xs)) ≡ c + l + v =
      length-append (flat_map f xs) (flat_map g xs ++ flat_map h xs) ∙ omega (arith, length-append (flat_map g xs) (flat_map h xs)) in
      let trailed : sets (flat_map f xs ++ (flat_map g xs ++ (flat_map h xs ++ (w ++ r)))) (c + l + v) last ≡ flat_map f xs ++ (flat_map g xs ++ (flat_map h xs ++ (last ++ r))) =
      simp append_assoc at (sets_mid (flat_map f xs ++ (flat_map g xs ++ flat_map h xs)) w r last (c + l + v) (sym front) (nw ∙ sym en)) in
      let rest : r ≡ drop (c + (l + (v + n))) b =
      drop-drop n v b₂ ∙ drop-drop (v + n) l b₁ ∙ drop-drop (l + (v + n)) c b in
      ap (λ (s : List ℕ). sets (emit_from f g h 0 c (c + l) xs s) (c + l + v) last) (sym cut)
      ∙ ap (λ (s : List ℕ). sets s (c + l + v) last) parts
      ∙ trailed
      ∙ ap (λ (s : List ℕ). flat_map f xs ++ (flat_map g xs ++ (flat_map h xs ++ (last ++ s)))) rest
      ∙ simp append_assoc

module _ (text : List Line) (two : AllTwo text) where
  abbrev C : ℕ
  C = how_many makes_cell text

  abbrev L : ℕ
  L = how_many makes_label text

  abbrev W : ℕ
  W = how_many makes_variable text

  pub cells_length : length (flat_map (cell_part text) text) ≡ 16 * C
  cells_length = parts_length (cell_part text) makes_cell 16 text (cells_sized text text)

  pub labels_length : length (flat_map (label_part text) text) ≡ 4 * L
  labels_length = parts_length (label_part text) makes_label 4 text (labels_sized text text two)

  pub variables_length : length (flat_map variable_part text) ≡ 8 * W
  variables_length = parts_length variable_part makes_variable 8 text (variables_sized text two)

  pub image_length_lem : length (image_of text) ≡ image_length C L W
  unfolding image_of image_length
  image_length_lem =
      length-append (flat_map (cell_part text) text) (flat_map (label_part text) text ++ (flat_map variable_part text ++ trailer_bytes C L W))
      ∙ omega (
        arith,
        cells_length,
        labels_length,
        variables_length,
        length_trailer C L W,
        length-append (flat_map (label_part text) text) (flat_map variable_part text ++ trailer_bytes C L W),
        length-append (flat_map variable_part text) (trailer_bytes C L W),
      )

  -- Image 1, Image 5: the parts and the trailer written into a buffer with room for them
  pub image_written : (b : List ℕ) → image_length C L W ≤ length b
      → sets (emit_from (cell_part text) (label_part text) variable_part 0 (16 * C) (16 * C + 4 * L) text b) (16 * C + 4 * L + 8 * W) (trailer_bytes C L W)
      ≡ image_of text ++ drop (length (image_of text)) b
  unfolding image_of image_length
  image_written b room =
      all_written (cell_part text) (label_part text) variable_part text (16 * C) (4 * L) (8 * W) 16 (trailer_bytes C L W) b
      cells_length labels_length variables_length (length_trailer C L W) room
      ∙ ap (λ (k : ℕ). image_of text ++ drop k b) (sym image_length_lem)
