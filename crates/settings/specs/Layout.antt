-- Document 02, Q-5: how a settings file is laid out, in either edition.
-- Assumes nothing.
use Rattle.std.specs.Prelude.{Bool, true, cond, ◌&&◌, ℕ, ◌+◌, ◌*◌, ◌/◌, ◌%◌, ◌-◌, eqb, leb, ltb, ℤ, length, take, drop}
use mathlib.Core.List.{List, [], ◌∷◌, ◌++◌, flat_map}
use Rattle.numbers.specs.Bits.{digits32, signed32}
use Rattle.numbers.specs.Bytes.{bytes, field}
use Rattle.numbers.specs.Tests.{eq_list, listed}
use Rattle.settings.specs.declared.Pair.{Pair}

-- Q-5 3: the eight bytes at the end of a file of this edition and length: where its fields begin, which is at 0, then the edition, then how long all of it is.
unfoldable pub trailer : ℕ → ℕ → List ℕ
trailer edition whole = bytes 4 0 ++ (bytes 2 edition ++ bytes 2 whole)

-- Q-5 3: at this place of a file they stand, for this edition and the file's own length.
unfoldable pub has_trailer : List ℕ → ℕ → ℕ → Bool
has_trailer s at edition = eq_list (take 8 (drop at s)) (trailer edition (length s))

-- Q-5 3: the edition that a file says it has.
unfoldable pub edition_of : List ℕ → ℕ
edition_of s = field 2 (length s - 4) s

-- Q-5 1: a value: a signed number of four bytes.
unfoldable pub value_at : List ℕ → ℕ → ℤ
value_at s at = signed32 (field 4 at s)

-- Q-5 2: the pair with this number, from 0: the number of a variable, zeros, a value.
unfoldable pub pair_at : List ℕ → ℕ → Pair
pair_at s i = record { value = value_at s (8 * i + 4); number = field 2 (8 * i) s; zeros = field 2 (8 * i + 2) s }

-- Q-5 2, Q-5 3: the pairs of a file: all that stands in front of its trailer.
unfoldable pub pairs_of : List ℕ → List Pair
pairs_of s = listed 0 (length s / 8 - 1) (pair_at s)

-- Q-5 2: a pair is of A, D, VI or VM (Variables 1), and its zeros are 0.
unfoldable pub good_pair : Pair → Bool
good_pair p = (leb 6 p.number && leb p.number 9) && eqb p.zeros 0

-- Q-5 2: good pairs whose numbers rise, each above the last.
unfoldable pub good_pairs : ℕ → List Pair → Bool
good_pairs last [] = true
good_pairs last (p ∷ ps) = (good_pair p && ltb last p.number) && good_pairs p.number ps

-- Q-5 4: edition 1 has 24 bytes; edition 2 is in eights, good pairs in front of the trailer. By 40 bytes (Q-5 8) and by their numbers they are four at most.
unfoldable pub laid_out : List ℕ → Bool
laid_out s = cond (eqb (edition_of s) 1) (eqb (length s) 24) (eqb (length s % 8) 0 && good_pairs 0 (pairs_of s))

-- Q-5 2: a pair as bytes.
unfoldable pub pair_bytes : Pair → List ℕ
pair_bytes p = bytes 2 p.number ++ (bytes 2 p.zeros ++ bytes 4 (digits32 p.value))

-- Q-5 2 to 4: the edition 2 file of these pairs.
unfoldable pub file_of : List Pair → List ℕ
file_of ps = flat_map pair_bytes ps ++ trailer 2 (8 * length ps + 8)
