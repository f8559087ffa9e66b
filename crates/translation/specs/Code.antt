-- What the code's loops do, step by step. No demand reaches this; proofs/ ties it to the paper's definitions.
-- Assumes nothing.
use Rattle.std.specs.Prelude.{◌≡◌, Bool, cond, List, [], ◌∷◌, ◌++◌, ℕ, ◌+◌, ◌-◌, ◌<◌, ◌≤◌, length, take, drop, Option, Some, None}
use Rattle.std.proofs.lemmas.List.Edits.{sets}
use Rattle.numbers.specs.Bytes.{bytes}
use Rattle.numbers.specs.Bits.{digits32}
use Rattle.program.specs.Code.{name_of}
use Rattle.text.specs.Lines.{lines}
use Rattle.text.specs.Faults.{said, first_fault}
use Rattle.reading.specs.Code.{resolved}
use Rattle.reading.specs.declared.Said.{Said}
use Rattle.reading.specs.declared.Said.TheVariants as S
use Rattle.rows.specs.Rows.{Row}
use Rattle.image.specs.Layout.{cell_bytes}
use Rattle.translation.specs.Resolving.{place_in, number_in}
use Rattle.translation.specs.declared.Places.{Places}
use Rattle.translation.specs.declared.Placed.{Placed}
use Rattle.translation.specs.Places.{line_of, line_bytes}

-- A text that is not too long and has no fault.
pub record Faultless (s : List ℕ) : Type 0 where
  pub short : length s ≤ 16384
  pub clear : (first_fault s).number ≡ 0

-- Each x puts f x, g x and h x into the buffer, behind what the ones before it put there.
module _ {A : Type 0} (f g h : A → List ℕ) where
  unfoldable pub emit_from : ℕ → ℕ → ℕ → List A → List ℕ → List ℕ
  emit_from i j k [] b = b
  emit_from i j k (x ∷ xs) b =
      emit_from (i + length (f x)) (j + length (g x)) (k + length (h x)) xs (sets (sets (sets b i (f x)) j (g x)) k (h x))

-- What a line that says this puts into the image: a cell, a label record or a variable record.
unfoldable pub cell_out : List Row → Said → List ℕ
cell_out rows S.Blank = []
cell_out rows (S.Label k) = []
cell_out rows (S.Declared k z) = []
cell_out rows (S.Acts c) = cell_bytes (resolved (place_in rows) (number_in rows) c)

unfoldable pub label_out : List Row → Said → List ℕ
label_out rows S.Blank = []
label_out rows (S.Label k) = bytes 2 k ++ bytes 2 (place_in rows (name_of k))
label_out rows (S.Declared k z) = []
label_out rows (S.Acts c) = []

unfoldable pub variable_out : Said → List ℕ
variable_out S.Blank = []
variable_out (S.Label k) = []
variable_out (S.Declared k z) = bytes 2 k ++ (bytes 2 0 ++ bytes 4 (digits32 z))
variable_out (S.Acts c) = []

-- The buffer with what a line puts at these places, and the places behind it.
unfoldable pub emitted_by : List Row → Said → Places → List ℕ → List ℕ
emitted_by rows x p b = sets (sets (sets b p.cell (cell_out rows x)) p.label (label_out rows x)) p.variable (variable_out x)

unfoldable pub places_by : List Row → Said → Places → Places
places_by rows x p =
    record {
      cell = p.cell + length (cell_out rows x);
      label = p.label + length (label_out rows x);
      variable = p.variable + length (variable_out x);
    }

-- Each place is at most this.
pub record Within (most : ℕ) (p : Places) : Type 0 where
  pub cell : p.cell ≤ most
  pub label : p.label ≤ most
  pub variable : p.variable ≤ most

-- One less where the test holds, and never below 0.
unfoldable pub fewer : Bool → ℕ → ℕ
fewer b n = cond b (n - 1) n

-- The line of a text that makes the cell with this number: its number, its bytes in the text, and the lines in front of it; or none makes it.
pub record PlacedLine (s : List ℕ) (place : ℕ) (r : Placed) : Type 0 where
  pub line : r.line ≡ line_of (said s) place
  pub span : take (r.end - r.start) (drop r.start s) ≡ line_bytes s r.line
  pub before : lines (take r.start s) ≡ take (r.line - 1) (lines s)
  pub ordered : r.start ≤ r.end
  pub within : r.end ≤ length s
  pub counted : 0 < r.line

abbrev pub PlacedAt : List ℕ → ℕ → Option Placed → Type 0
PlacedAt s place None = line_of (said s) place ≡ 0
PlacedAt s place (Some r) = PlacedLine s place r
