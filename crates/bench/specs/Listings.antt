-- Document 02, Q-1: the answer to listing an image.
-- Assumes nothing.
use Rattle.std.specs.Prelude.{Bool, cond, List, ◌++◌, ℕ, eqb, ltb, length, drop}
use Rattle.image.specs.Check.{checked}
use Rattle.printing.specs.Listing.{listing}
use Rattle.bench.specs.declared.Listed.{Listed}

-- Q-1 4: the listing does not fit into the text buffer.
unfoldable pub short_text : List ℕ → ℕ → Bool
short_text s room = ltb room (length (listing s))

abbrev pub list_answered : ℕ → ℕ → Listed
list_answered number size = record { number = number; length = size }

-- Q-1 4: 21 to 25 as for checking, and behind them 11; else 0 and the length of the listing; for a buffer of this size.
unfoldable pub listed_as : List ℕ → ℕ → Listed
listed_as s room =
    cond (eqb (checked s) 0)
    (cond (short_text s room) (list_answered 11 0) (list_answered 0 (length (listing s))))
    (list_answered (checked s) 0)

-- Q-1 2, Refusals 24: what the text buffer holds after: the listing and behind it what stood there; as it was where the image is refused.
unfoldable pub listed_into : List ℕ → List ℕ → List ℕ
listed_into s buffer = cond (eqb (listed_as s (length buffer)).number 0) (listing s ++ drop (length (listing s)) buffer) buffer
