-- Document 01, "Image": the image of a text.
-- Assumes nothing.
use Rattle.std.specs.Prelude.{Bool, ◌&&◌, not, ℕ, eqb}
use mathlib.Core.List.{List, [], ◌++◌, flat_map}
use Rattle.program.specs.Cells.{cell_of}
use Rattle.text.specs.Forms.{Line, Blank, Label, Declared, Acts}
use Rattle.text.specs.Faults.{overlong, said, first_fault, how_many, makes_cell, makes_label, makes_variable, place_of, number_of}
use Rattle.image.specs.Layout.{cell_bytes, label_bytes, variable_bytes, trailer_bytes}

-- Image 3, Image 6: the cell of a line; LB and VA make none.
unfoldable pub cell_part : List Line → Line → List ℕ
cell_part text Blank = []
cell_part text (Label w) = []
cell_part text (Declared w z) = []
cell_part text (Acts s) = cell_bytes (cell_of (place_of text) (number_of text) s)

-- Image 9, Image 10.
unfoldable pub label_part : List Line → Line → List ℕ
label_part text Blank = []
label_part text (Label w) = label_bytes w (place_of text w)
label_part text (Declared w z) = []
label_part text (Acts s) = []

-- Image 11.
unfoldable pub variable_part : Line → List ℕ
variable_part Blank = []
variable_part (Label w) = []
variable_part (Declared w z) = variable_bytes w z
variable_part (Acts s) = []

-- Image 1, Image 12, Image 13: the image of a text that says these lines.
unfoldable pub image_of : List Line → List ℕ
image_of text =
    flat_map (cell_part text) text
    ++ (flat_map (label_part text) text
    ++ (flat_map variable_part text
    ++ trailer_bytes (how_many makes_cell text) (how_many makes_label text) (how_many makes_variable text)))

unfoldable pub image : List ℕ → List ℕ
image text = image_of (said text)

-- Refusals 1 to 9: none of them holds.
unfoldable pub accepted : List ℕ → Bool
accepted text = not (overlong text) && eqb (first_fault text).number 0
