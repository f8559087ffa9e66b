-- Laws of writing the parts of an image one behind the other, and of their lengths.
-- Assumes nothing.
use mathlib.Core.Path.{◌≡◌, ◌∙◌}
use mathlib.Core.List.{List, ◌++◌, append_assoc}
use Prim.Native.Nat.{ℕ, ◌+◌, ◌*◌, ◌%◌, ◌≤◌, ◌<◌}
use native.Mathlib.Nat.{add-zero}
use native.Mathlib.Omega.{arith}
use lib.ListN.{length, length-append}
use lib.Seq.{sets}
use Rattle.numbers.specs.Bytes.{bytes}
use Rattle.numbers.proofs.Laws.{length_bytes, sets_append}
use Rattle.program.specs.declared.Cell.{Cell}
use Rattle.program.specs.declared.Operand.{Operand}
use Rattle.program.specs.declared.Operand.TheVariants.{Nothing, Literal, Variable}
use Rattle.image.specs.Layout.{shape, operand_number, cell_bytes, trailer_bytes, trailer_place, image_length}
use Rattle.image.specs.Code.{first_half, second_half}

-- A place in the trailer is a number of 64 bits.
pub trailer_room : (s : List ℕ) {at : ℕ} → at ≡ trailer_place s → at ≤ length s
unfolding trailer_place
trailer_room s e = omega arith

-- A byte is the same from the number's lowest eight digits.
byte_mod : (n : ℕ) → bytes 1 (n % 256) ≡ bytes 1 n
unfolding bytes
byte_mod n = let e : n % 256 % 256 ≡ n % 256 = omega arith in rw e

pub shape_small : (o : Operand) → shape o < 3
unfolding shape
shape_small Nothing = omega arith
shape_small (Literal z) = omega arith
shape_small (Variable v) = omega arith

-- What code leaves: the first half of a cell from the numbers that hold its parts, and a buffer that was stored to twice.
pub first_packed : (c : Cell) {sh l : ℕ} {x y h r : List ℕ} → sh ≡ shape c.left + 4 * shape c.right → l ≡ operand_number c.left
    → x ≡ bytes 1 c.operation ++ bytes 1 (c.written % 256) → y ≡ bytes 1 c.selector ++ bytes 1 sh → h ≡ x ++ y → r ≡ h ++ bytes 4 l → r ≡ first_half c
unfolding first_half
first_packed c es el ex ey eh er = er ∙ rw (eh, ex, ey, el, es, byte_mod) (simp append_assoc)

pub twice_written : (b : List ℕ) (at : ℕ) (f g : ℕ) {xs ys b₁ b₂ : List ℕ} → bytes 8 f ≡ xs → bytes 8 g ≡ ys
    → b₁ ≡ sets b at (bytes 8 f) → b₂ ≡ sets b₁ (at + 8) (bytes 8 g) → b₂ ≡ sets b at (xs ++ ys)
twice_written b at f g ef eg h₁ h₂ = h₂ ∙ rw (h₁, ← ef, ← eg, sets_append (bytes 8 f) b at (bytes 8 g), length_bytes 8 f)

pub cell_halves : (c : Cell) → first_half c ++ second_half c ≡ cell_bytes c
unfolding first_half second_half cell_bytes
cell_halves c = simp append_assoc

pub trailer_halves : (cells labels variables : ℕ) {first whole : ℕ} {f b x y : List ℕ} → first ≡ 16 * cells + 0 → whole ≡ image_length cells labels variables
    → f ≡ bytes 4 first ++ x → x ≡ bytes 2 cells ++ bytes 2 labels → b ≡ y ++ bytes 4 whole → y ≡ bytes 2 variables ++ bytes 2 1
    → f ++ b ≡ trailer_bytes cells labels variables
unfolding trailer_bytes
trailer_halves cells labels variables ei ew ef ex eb ey = rw (ef, ex, eb, ey, ei, ew, add-zero) (simp append_assoc)

-- The lengths of the parts.
pub length_cell : (c : Cell) → length (cell_bytes c) ≡ 16
unfolding cell_bytes
length_cell c = simp (length-append, length_bytes)

pub length_label : (name target : ℕ) → length (bytes 2 name ++ bytes 2 target) ≡ 4
length_label name target = simp (length-append, length_bytes)

pub length_variable : (name start : ℕ) → length (bytes 2 name ++ (bytes 2 0 ++ bytes 4 start)) ≡ 8
length_variable name start = simp (length-append, length_bytes)

pub length_trailer : (cells labels variables : ℕ) → length (trailer_bytes cells labels variables) ≡ 16
unfolding trailer_bytes
length_trailer cells labels variables = simp (length-append, length_bytes)
