-- Document 01, "Text" and "Variables": the statement at a place of a text, its line, and the start values. No cell, no image.
-- Assumes nothing.
use Rattle.std.specs.Prelude.{List, [], ◌∷◌, ℕ, zero, suc, ℤ, get_or}
use Rattle.program.specs.Names.{Name}
use Rattle.program.specs.Statements.{Statement, E}
use Rattle.text.specs.Lines.{lines}
use Rattle.text.specs.Forms.{Line, Blank, Label, Declared, Acts}

-- Text 9: the statement at a place: the line with so many cell lines before it. Past the last there is none, and a run has ended there.
unfoldable pub line_at : List Line → ℕ → Statement Name
line_at [] n = E
line_at (Blank ∷ xs) n = line_at xs n
line_at (Label w ∷ xs) n = line_at xs n
line_at (Declared w z ∷ xs) n = line_at xs n
line_at (Acts s ∷ xs) zero = s
line_at (Acts s ∷ xs) (suc n) = line_at xs n

-- Text 2, Text 9: the number of that line, counted from 1; 0 where there is none. The first of these lines has the number `line`.
unfoldable pub line_from : ℕ → List Line → ℕ → ℕ
line_from line [] n = 0
line_from line (Blank ∷ xs) n = line_from (suc line) xs n
line_from line (Label w ∷ xs) n = line_from (suc line) xs n
line_from line (Declared w z ∷ xs) n = line_from (suc line) xs n
line_from line (Acts s ∷ xs) zero = line
line_from line (Acts s ∷ xs) (suc n) = line_from (suc line) xs n

unfoldable pub line_of : List Line → ℕ → ℕ
line_of text n = line_from 1 text n

-- Text 2, Text 3: the bytes of the line with this number, without its ending; none where the number is 0.
unfoldable pub line_bytes : List ℕ → ℕ → List ℕ
line_bytes text zero = []
line_bytes text (suc k) = get_or (lines text) k []

-- Variables 3: the start values of the user's variables.
unfoldable pub starts : List Line → List ℤ
starts [] = []
starts (Blank ∷ xs) = starts xs
starts (Label w ∷ xs) = starts xs
starts (Declared w z ∷ xs) = z ∷ starts xs
starts (Acts s ∷ xs) = starts xs
