-- Document 01, "Text": how a line falls into tokens.
-- Assumes nothing.
use Rattle.std.specs.Prelude.{Bool, cond, ◌&&◌, ◌||◌, not, List, [], ◌∷◌, ℕ, eqb, leb, get_or}
use Rattle.program.specs.Names.{word_character}

-- Text 5: the bytes that a line may hold.
unfoldable pub printable : ℕ → Bool
printable b = leb 32 b && leb b 126

-- Text 6: what stands before the comment, which an apostrophe (39) starts.
unfoldable pub uncommented : List ℕ → List ℕ
uncommented [] = []
uncommented (c ∷ cs) = let more = c ∷ uncommented cs in cond (eqb c 39) [] more

-- A token: its characters, and whether another token follows it directly.
pub record Token : Type 0 where
  pub chars : List ℕ
  pub glued : Bool

-- Text 10, Text 15, Text 17: two neighbours that belong to one token: two characters of a word or a run of digits, and the two of <=, <> and >=.
unfoldable pub joins : ℕ → ℕ → Bool
joins c d =
    (word_character c && word_character d)
    || ((eqb c 60 && (eqb d 61 || eqb d 62)) || (eqb c 62 && eqb d 61))

-- One more character in front of the first token.
unfoldable pub onto_first_token : ℕ → List Token → List Token
onto_first_token c [] = []
onto_first_token c (t ∷ ts) = record { chars = c ∷ t.chars; glued = t.glued } ∷ ts

-- Text 7, Text 10: the tokens are the longest runs of neighbours that belong together; a space (32) belongs to none.
unfoldable pub tokens : List ℕ → List Token
tokens [] = []
tokens (c ∷ cs) =
    let more = tokens cs in
    let next = get_or cs 0 32 in
    let alone : List Token = record { chars = c ∷ []; glued = not (eqb next 32) } ∷ more in
    let lengthened = onto_first_token c more in
    cond (eqb c 32) more (cond (joins c next) lengthened alone)
