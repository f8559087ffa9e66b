-- A search over the rows of the code's table of layouts.
-- Assumes nothing.
use mathlib.Core.Path.{◌≡◌, refl, ap}
use mathlib.Core.Bool.{Bool, ◌||◌}
use mathlib.Core.List.{List, [], ◌∷◌, map}
use Rattle.std.specs.List.{list_any}
use Rattle.numbers.specs.Tests.{any_of}

-- A search over rows, as one over what they stand for.
pub any_row : {A B : Type 0} (f : A → B) (p : B → Bool) (rows : List A) → list_any (λ row. p (f row)) rows ≡ any_of p (map f rows)
unfolding any_of
any_row f p [] = refl
any_row f p (row ∷ rows) = ap (λ (b : Bool). p (f row) || b) (any_row f p rows)
