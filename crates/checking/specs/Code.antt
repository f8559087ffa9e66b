-- How the code goes about the name records: a name as a number. And what checking answers, as a number.
-- No demand reaches this; proofs/ tie it to Check.
-- Assumes nothing.
use Rattle.std.specs.Prelude.{Bool, ◌||◌, not, List, ℕ, eqb, Result, Ok, Err}
use Rattle.numbers.specs.Bytes.{field}
use Rattle.numbers.specs.Tests.{any_below}
use Rattle.program.specs.Names.{free_name}
use Rattle.program.specs.Code.{name_of}
use Rattle.image.specs.Check.{record_place}
use Rattle.checking.specs.declared.Refusal.{Refusal}
use Rattle.checking.specs.declared.Refusal.TheVariants.{BadLength, BadEdition, BadTrailer, BadCells, BadRecords}

-- The name in a name record as a number.
unfoldable pub key_at : List ℕ → ℕ → ℕ
key_at s k = field 2 (record_place s k) s

-- A record before this one has its name; the name is that, or none of the user's.
unfoldable pub repeated_key : List ℕ → ℕ → Bool
repeated_key s k = any_below k (λ j. eqb (key_at s j) (key_at s k))

unfoldable pub bad_key : List ℕ → ℕ → Bool
bad_key s k = not (free_name (name_of (key_at s k))) || repeated_key s k

-- Refusals 11 to 15: the number of a refusal; of what checking answers, 0 where the image is accepted.
unfoldable pub number_of : Refusal → ℕ
number_of BadLength = 21
number_of BadEdition = 22
number_of BadTrailer = 23
number_of BadCells = 24
number_of BadRecords = 25

unfoldable pub refusal_number : Result (Unit {0}) Refusal → ℕ
refusal_number (Ok x) = 0
refusal_number (Err r) = number_of r
