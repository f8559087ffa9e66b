-- Document 02, Q-4: what two record buffers differ in, number by number, and the list of it as bytes. A record is laid out as an event is (Events 1).
-- Assumes nothing.
use Rattle.std.specs.Prelude.{Bool, cond, ◌||◌, not, ℕ, ◌+◌, ◌%◌, max, eqb, leb, ltb, length}
use mathlib.Core.List.{List, ◌++◌, flat_map}
use Rattle.numbers.specs.Bytes.{bytes}
use Rattle.numbers.specs.Tests.{eq_z, any_below, passing}
use Rattle.events.specs.Events.{event_at, event_count}
use Rattle.events.specs.declared.Event.{Event}

-- Q-4 5: of a record the two bytes that have to be 0 are not.
unfoldable pub bad_record : List ℕ → ℕ → Bool
bad_record s k = not (eqb (event_at s k).zeros 0)

-- Q-4 5: more than 8,192 records, bytes that are no whole number of records, or such a record among them.
unfoldable pub bad_buffer : List ℕ → Bool
bad_buffer s = ltb 8192 (event_count s) || (not (eqb (length s % 12) 0) || any_below (event_count s) (bad_record s))

-- Q-4 4: what a field adds to the sum: nothing where it is the same in both records.
unfoldable pub weight : Bool → ℕ → ℕ
weight same w = cond same 0 w

-- Q-4 4: 1 for the turn, 2 for the kind, 4 for the number, 8 for the value.
unfoldable pub field_sum : Event → Event → ℕ
field_sum a b =
    weight (eqb a.turn b.turn) 1
    + (weight (eqb a.kind b.kind) 2
    + (weight (eqb a.number b.number) 4
    + weight (eq_z a.value b.value) 8))

-- Q-4 2, Q-4 4: the sum of a record number; 16 where the second buffer has no such record, 32 where the first has none.
unfoldable pub sum_at : List ℕ → List ℕ → ℕ → ℕ
sum_at first second k =
    cond (leb (event_count second) k) 16
    (cond (leb (event_count first) k) 32
    (field_sum (event_at first k) (event_at second k)))

-- Q-4 2: the two records with this number are not the same, or a buffer lacks one.
unfoldable pub differs_at : List ℕ → List ℕ → ℕ → Bool
differs_at first second k = not (eqb (sum_at first second k) 0)

-- Q-4 2: the numbers that are listed, each once and in rising order, of all numbers that a record of either buffer has.
unfoldable pub differing : List ℕ → List ℕ → List ℕ
differing first second = passing (differs_at first second) 0 (max (event_count first) (event_count second))

-- Q-4 4: an entry: the record number, and its sum.
unfoldable pub entry_bytes : ℕ → ℕ → List ℕ
entry_bytes k sum = bytes 4 k ++ bytes 4 sum

-- Q-4 2, Q-4 4: the list, entry behind entry.
unfoldable pub differences : List ℕ → List ℕ → List ℕ
differences first second = flat_map (λ k. entry_bytes k (sum_at first second k)) (differing first second)
