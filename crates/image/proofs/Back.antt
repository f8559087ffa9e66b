-- What was written is read back: a cell, a record, the trailer, each behind and before any other bytes.
-- Assumes nothing.
use mathlib.Core.Path.{◌≡◌, refl, sym, ap, ◌∙◌}
use mathlib.Core.List.{List, [], ◌++◌, append_assoc}
use Prim.Native.Nat.{ℕ, ◌+◌, ◌*◌, ◌/◌, ◌%◌, ◌^◌, ◌<◌}
use native.Mathlib.Nat.{add-zero}
use native.Mathlib.Omega.{arith}
use lib.Dec.{lit<}
use lib.IntN.{ℤ}
use lib.ListN.{length, length-append}
use lib.Seq.{drop-append-add, drop_at, take_at}
use mir.Syntax.{w32}
use mir.Val.{SFits}
use Rattle.numbers.specs.Bytes.{Bytes, bytes, field}
use Rattle.numbers.specs.Bits.{digits32, signed32}
use Rattle.numbers.proofs.Laws.{length_bytes, field_back, there_and_back, back_and_there, signed_digits, digits_below}
use Rattle.program.specs.Code.{key}
use Rattle.program.specs.Names.{Name}
use Rattle.program.specs.declared.Cell.{Cell}
use Rattle.program.specs.declared.Operand.{Operand}
use Rattle.program.specs.declared.Operand.TheVariants.{Nothing, Literal, Variable}
use Rattle.image.specs.Layout.{shape, operand_number, cell_bytes, label_bytes, variable_bytes, image_length, trailer_bytes, trailer_place, first_label_place, cell_count, label_count, variable_count, edition, whole_length, operand_at, cell_at, label_place, label_target, variable_place, start_value, name_at}
use Rattle.image.proofs.Laws.{shape_small, length_trailer}

-- A field behind other bytes.
pub field_behind : (w o : ℕ) (xs zs : List ℕ) {from : ℕ} → length xs ≡ from → field w (from + o) (xs ++ zs) ≡ field w o zs
unfolding field
field_behind w o xs zs e = rw (← e, drop-append-add xs zs o)

-- ---- a cell

-- A literal of 32 bits, a variable number of 32 bits.
unfoldable pub GoodOperand : Operand → Type 0
GoodOperand Nothing = Unit {0}
GoodOperand (Literal z) = SFits w32 z
GoodOperand (Variable v) = v < 2 ^ 32

-- A cell whose numbers fit their bytes.
pub record GoodCell (c : Cell) : Type 0 where
  pub operation : c.operation < 256
  pub written : c.written < 256
  pub selector : c.selector < 256
  pub left : GoodOperand c.left
  pub right : GoodOperand c.right
  pub target : c.target < 65536

operand_below : (o : Operand) → GoodOperand o → operand_number o < 256 ^ 4
unfolding operand_number GoodOperand
operand_below Nothing g = lit< tt
operand_below (Literal z) g = digits_below z g
operand_below (Variable v) g = g

operand_back : (o : Operand) (place : ℕ) (s : List ℕ) → GoodOperand o → field 4 place s ≡ operand_number o → operand_at (shape o) place s ≡ o
unfolding operand_at shape operand_number GoodOperand
operand_back Nothing place s g e = refl
operand_back (Literal z) place s g e = ap (λ (n : ℕ). Literal (signed32 n)) e ∙ ap Literal (signed_digits z g)
operand_back (Variable v) place s g e = ap Variable e

pub shapes_apart : (l r : Operand) {n : ℕ} → n ≡ shape l + 4 * shape r → (n % 4 ≡ shape l) × (n / 4 ≡ shape r)
shapes_apart l r e = let h = shape_small l in let k = shape_small r in (omega arith, omega arith)

module _ (c : Cell) (good : GoodCell c) (xs ys : List ℕ) (k : ℕ) (e : length xs ≡ 16 * k) where
  abbrev image : List ℕ
  image = xs ++ (cell_bytes c ++ ys)

  at : (w o : ℕ) → field w (16 * k + o) image ≡ field w o (cell_bytes c ++ ys)
  at w o = field_behind w o xs (cell_bytes c ++ ys) e

  pub operation_back : field 1 (16 * k) image ≡ c.operation
  unfolding field cell_bytes bytes
  operation_back = ap (λ (n : ℕ). field 1 n image) (sym (add-zero (16 * k))) ∙ at 1 0 ∙ there_and_back 1 c.operation good.operation

  pub written_back : field 1 (16 * k + 1) image ≡ c.written
  unfolding field cell_bytes bytes
  written_back = at 1 1 ∙ there_and_back 1 c.written good.written

  pub selector_back : field 1 (16 * k + 2) image ≡ c.selector
  unfolding field cell_bytes bytes
  selector_back = at 1 2 ∙ there_and_back 1 c.selector good.selector

  pub shapes_back : field 1 (16 * k + 3) image ≡ shape c.left + 4 * shape c.right
  unfolding field cell_bytes bytes
  shapes_back =
      let h = shape_small c.left in
      let h' = shape_small c.right in
      at 1 3 ∙ there_and_back 1 (shape c.left + 4 * shape c.right) (omega arith)

  pub left_back : field 4 (16 * k + 4) image ≡ operand_number c.left
  unfolding field cell_bytes bytes
  left_back = at 4 4 ∙ there_and_back 4 (operand_number c.left) (operand_below c.left good.left)

  pub right_back : field 4 (16 * k + 8) image ≡ operand_number c.right
  unfolding field cell_bytes bytes
  right_back = at 4 8 ∙ there_and_back 4 (operand_number c.right) (operand_below c.right good.right)

  pub target_back : field 2 (16 * k + 12) image ≡ c.target
  unfolding field cell_bytes bytes
  target_back = at 2 12 ∙ there_and_back 2 c.target good.target

  pub rest_back : field 2 (16 * k + 14) image ≡ 0
  unfolding field cell_bytes bytes
  rest_back = at 2 14 ∙ there_and_back 2 0 (lit< tt)

  pub cell_back : cell_at image k ≡ c
  unfolding cell_at
  cell_back =
      let a = shapes_apart c.left c.right shapes_back in
      simp (
        operation_back,
        written_back,
        selector_back,
        a.0,
        a.1,
        target_back,
        operand_back c.left (16 * k + 4) image good.left left_back,
        operand_back c.right (16 * k + 8) image good.right right_back,
      )

-- ---- the records

-- A name of two characters as the code writes it.
pub bytes_key : (w : Name) → Bytes w → length w ≡ 2 → bytes 2 (key w) ≡ w
unfolding key
bytes_key w b e = rw (← e) (back_and_there w b)

pub label_bytes_lem : (w : Name) (target : ℕ) → Bytes w → length w ≡ 2 → bytes 2 (key w) ++ bytes 2 target ≡ label_bytes w target
unfolding label_bytes
label_bytes_lem w target b e = rw (bytes_key w b e)

pub variable_bytes_lem : (w : Name) (z : ℤ) → Bytes w → length w ≡ 2 → bytes 2 (key w) ++ (bytes 2 0 ++ bytes 4 (digits32 z)) ≡ variable_bytes w z
unfolding variable_bytes
variable_bytes_lem w z b e = rw (bytes_key w b e)

pub name_back : (w : Name) (xs ys : List ℕ) {place : ℕ} → length xs ≡ place → length w ≡ 2 → name_at (xs ++ (w ++ ys)) place ≡ w
unfolding name_at
name_back w xs ys {place} e l = rw (drop_at xs (w ++ ys) place e) (take_at w ys 2 l)

-- A field of a record, behind its name.
behind_name : (v o n : ℕ) (w : Name) (xs zs : List ℕ) {place : ℕ} → length xs ≡ place → length w ≡ 2 → field v o zs ≡ n
    → field v (place + (2 + o)) (xs ++ (w ++ zs)) ≡ n
behind_name v o n w xs zs e l f = field_behind v (2 + o) xs (w ++ zs) e ∙ field_behind v o w zs l ∙ f

module _ (s : List ℕ) (k : ℕ) (w : Name) (xs ys : List ℕ) (l : length w ≡ 2) where
  pub label_back : (target : ℕ) → s ≡ xs ++ (label_bytes w target ++ ys) → length xs ≡ label_place s k → target < 65536 → label_target s k ≡ target
  unfolding label_target label_bytes
  label_back target e p h =
      ap (field 2 (label_place s k + 2)) (e ∙ ap (λ (zs : List ℕ). xs ++ zs) (append_assoc w (bytes 2 target) ys))
      ∙ behind_name 2 0 target w xs (bytes 2 target ++ ys) p l (field_back 2 target 0 [] ys refl h)

  spread : (z : ℤ) → s ≡ xs ++ (variable_bytes w z ++ ys) → s ≡ xs ++ (w ++ (bytes 2 0 ++ (bytes 4 (digits32 z) ++ ys)))
  unfolding variable_bytes
  spread z e = e ∙ simp append_assoc

  pub start_back : (z : ℤ) → s ≡ xs ++ (variable_bytes w z ++ ys) → length xs ≡ variable_place s k → SFits w32 z → start_value s k ≡ z
  unfolding start_value
  start_back z e p f =
      let d = digits32 z in
      ap signed32
      (ap (field 4 (variable_place s k + 4)) (spread z e)
      ∙ behind_name 4 2 d w xs (bytes 2 0 ++ (bytes 4 d ++ ys)) p l (field_back 4 d 2 (bytes 2 0) ys (length_bytes 2 0) (digits_below z f)))
      ∙ signed_digits z f

  pub zeros_back : (z : ℤ) → s ≡ xs ++ (variable_bytes w z ++ ys) → length xs ≡ variable_place s k → field 2 (variable_place s k + 2) s ≡ 0
  zeros_back z e p =
      let zs = bytes 4 (digits32 z) ++ ys in
      ap (field 2 (variable_place s k + 2)) (spread z e) ∙ behind_name 2 0 0 w xs (bytes 2 0 ++ zs) p l (field_back 2 0 0 [] zs refl (lit< tt))

-- ---- the trailer

module _ (xs : List ℕ) (cells labels variables : ℕ) where
  abbrev trailed : List ℕ
  trailed = xs ++ trailer_bytes cells labels variables

  pub length_trailed : length trailed ≡ length xs + 16
  length_trailed = length-append xs (trailer_bytes cells labels variables) ∙ ap (λ (n : ℕ). length xs + n) (length_trailer cells labels variables)

  place : length xs ≡ trailer_place trailed
  unfolding trailer_place
  place = let e = length_trailed in omega arith

  behind : (w o : ℕ) → field w (trailer_place trailed + o) trailed ≡ field w o (trailer_bytes cells labels variables)
  behind w o = field_behind w o xs (trailer_bytes cells labels variables) place

  pub first_label_back : cells < 65536 → first_label_place trailed ≡ 16 * cells
  unfolding first_label_place field trailer_bytes bytes
  first_label_back h =
      ap (λ (n : ℕ). field 4 n trailed) (sym (add-zero (trailer_place trailed))) ∙ behind 4 0 ∙ there_and_back 4 (16 * cells) (omega arith)

  pub cell_count_back : cells < 65536 → cell_count trailed ≡ cells
  unfolding cell_count field trailer_bytes bytes
  cell_count_back h = behind 2 4 ∙ there_and_back 2 cells h

  pub label_count_back : labels < 65536 → label_count trailed ≡ labels
  unfolding label_count field trailer_bytes bytes
  label_count_back h = behind 2 6 ∙ there_and_back 2 labels h

  pub variable_count_back : variables < 65536 → variable_count trailed ≡ variables
  unfolding variable_count field trailer_bytes bytes
  variable_count_back h = behind 2 8 ∙ there_and_back 2 variables h

  pub edition_back : edition trailed ≡ 1
  unfolding edition field trailer_bytes bytes
  edition_back = behind 2 10 ∙ there_and_back 2 1 (lit< tt)

  pub whole_length_back : cells < 65536 → labels < 65536 → variables < 65536 → whole_length trailed ≡ image_length cells labels variables
  unfolding whole_length field trailer_bytes bytes image_length
  whole_length_back c l v = behind 4 12 ∙ there_and_back 4 (image_length cells labels variables) (omega arith)
