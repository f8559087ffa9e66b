-- Document 02, Q-4: what the request asks of comparing, over any call, in bytes of the two buffers and of the list.
-- Assumes nothing.
use Rattle.std.specs.Prelude.{◌≡◌, false, cond, List, ◌++◌, ◌↔◌, ℕ, ◌+◌, ◌*◌, ◌/◌, ◌%◌, ◌≤◌, ◌<◌, eqb, length, get_or, take, drop}
use Rattle.numbers.specs.Bytes.{Bytes, field}
use Rattle.numbers.specs.Tests.{Lowest, NoRow}
use Rattle.comparing.specs.Differences.{bad_buffer, differing, differences}
use Rattle.comparing.specs.Calls.{compare_faults, compare_answered, compared_as, compared_into}
use Rattle.comparing.specs.declared.Compared.{Compared}

-- What comparing gives: the answer, and the list buffer as the call leaves it. It is given two record buffers and a list buffer.
pub record Comparison : Type 0 where
  pub answer : Compared
  pub list : List ℕ

abbrev pub Compare : Type 0
Compare = List ℕ → List ℕ → List ℕ → Comparison

-- Events 1: the bytes of the record with this number; none where a buffer has no such record. And w of them, from the byte `from` on.
abbrev pub record_of : List ℕ → ℕ → List ℕ
record_of s k = take 12 (drop (12 * k) s)

abbrev pub part : ℕ → ℕ → List ℕ → ℕ → List ℕ
part w from s k = take w (drop from (record_of s k))

-- The two buffers have other bytes there: in a part of the record, or in all of it. A record that one of them lacks is other bytes too (Q-4 2).
abbrev pub PartDiffers : ℕ → ℕ → List ℕ → List ℕ → ℕ → Type 0
PartDiffers w from first second k = part w from first k ≡ part w from second k → ⊥

abbrev pub Differs : List ℕ → List ℕ → ℕ → Type 0
Differs first second k = record_of first k ≡ record_of second k → ⊥

-- Q-4 2: the buffer has a record with this number.
abbrev pub Has : List ℕ → ℕ → Type 0
Has s k = 12 * k < length s

-- Q-4 5: bytes that are records: 98,304 at most, in twelves, and the two zeros of each record are 0.
pub record AreRecords (s : List ℕ) : Type 0 where
  pub most : length s ≤ 98304
  pub twelves : length s % 12 ≡ 0
  pub zeros : (k : ℕ) → Has s k → (get_or s (12 * k + 6) 0 ≡ 0) × (get_or s (12 * k + 7) 0 ≡ 0)

-- Q-4 4: the record number and the sum of entry i of a list, from 0.
abbrev pub entry_number : List ℕ → ℕ → ℕ
entry_number list i = field 4 (8 * i) list

abbrev pub entry_sum : List ℕ → ℕ → ℕ
entry_sum list i = field 4 (8 * i + 4) list

-- Q-4 4: a sum tells of record k exactly the fields that differ; or which buffer has it.
pub record Tells (first second : List ℕ) (k sum : ℕ) : Type 0 where
  pub turn : Has first k → Has second k → (sum % 2 ≡ 1) ↔ PartDiffers 4 0 first second k
  pub kind : Has first k → Has second k → (sum / 2 % 2 ≡ 1) ↔ PartDiffers 1 4 first second k
  pub number : Has first k → Has second k → (sum / 4 % 2 ≡ 1) ↔ PartDiffers 1 5 first second k
  pub value : Has first k → Has second k → (sum / 8 % 2 ≡ 1) ↔ PartDiffers 4 8 first second k
  pub no_more : Has first k → Has second k → sum < 16
  pub first_only : (sum ≡ 16) ↔ (length second ≤ 12 * k)
  pub second_only : (sum ≡ 32) ↔ (length first ≤ 12 * k)

-- Q-4 5 for two record buffers and a list buffer.
pub record CompareRefused (first second old : List ℕ) (c : Comparison) : Type 0 where
  -- 51 and up exactly if that row of the table holds and no lower one; 0 exactly if none does.
  pub refused : (k : ℕ) → (c.answer.number ≡ 51 + k) ↔ Lowest (compare_faults first second (length old)) k
  pub none : (c.answer.number ≡ 0) ↔ NoRow (compare_faults first second (length old))
  -- A refused call answers no entries, and leaves the list as it was.
  pub entries_refused : (c.answer.number ≡ 0 → ⊥) → c.answer.entries ≡ 0
  pub list_refused : (c.answer.number ≡ 0 → ⊥) → c.list ≡ old

-- Q-4 2 to 4 for two record buffers, a list buffer and an accepted call.
pub record CompareListed (first second old : List ℕ) (c : Comparison) : Type 0 where
  -- Record numbers rise strictly, so none is there twice.
  pub rising : (i j : ℕ) → i < j → j < c.answer.entries → entry_number c.list i < entry_number c.list j
  -- A number is listed exactly if the records differ there or one is missing.
  pub exactly : (k : ℕ) → ((i : ℕ) × (i < c.answer.entries) × (entry_number c.list i ≡ k)) ↔ Differs first second k
  pub tells : (i : ℕ) → i < c.answer.entries → Tells first second (entry_number c.list i) (entry_sum c.list i)
  -- Q-4 3: there is no entry exactly if the buffers are equal.
  pub empty : (c.answer.entries ≡ 0) ↔ (first ≡ second)
  -- The buffer is as long as it was, and behind the entries, which have room, stands what stood there.
  pub long : length c.list ≡ length old
  pub room : 8 * c.answer.entries ≤ length old
  pub behind : drop (8 * c.answer.entries) c.list ≡ drop (8 * c.answer.entries) old

-- Q-4 4: the sum for the buffers the other way round: 16 for 32 and 32 for 16.
unfoldable pub exchanged : ℕ → ℕ
exchanged sum = cond (eqb sum 16) 32 (cond (eqb sum 32) 16 sum)

-- Q-4, over any comparer.
pub record Request4 (compare : Compare) : Type 0 where
  -- Q-4 5, for all buffers.
  pub refusing : (first second old : List ℕ) → CompareRefused first second old (compare first second old)
  -- Q-4 4: two good buffers and room for the list: the answer is 0 and the number of entries, and the buffer holds the list and behind it what stood there.
  pub laid_out : (first second old : List ℕ) → bad_buffer first ≡ false → bad_buffer second ≡ false → 8 * length (differing first second) ≤ length old
      → compare first second old
      ≡ record { answer = compare_answered 0 (length (differing first second)); list = differences first second ++ drop (length (differences first second)) old }
  -- Q-4 2 to 4, for every accepted call on bytes.
  pub lists : (first second old : List ℕ) → Bytes first → Bytes second → (compare first second old).answer.number ≡ 0
      → CompareListed first second old (compare first second old)
  -- Compared the other way round, with room for the list: the same numbers, with 16 and 32 exchanged.
  pub turned : (first second old other : List ℕ) → (compare first second old).answer.number ≡ 0 → 8 * (compare first second old).answer.entries ≤ length other
      → ((compare second first other).answer ≡ (compare first second old).answer)
      × ((i : ℕ) → i < (compare first second old).answer.entries
      → (entry_number (compare second first other).list i ≡ entry_number (compare first second old).list i)
      × (entry_sum (compare second first other).list i ≡ exchanged (entry_sum (compare first second old).list i)))
  -- A good buffer and itself: no entry, in any list buffer, which stays as it is.
  pub itself : (first old : List ℕ) → bad_buffer first ≡ false → compare first first old ≡ record { answer = compare_answered 0 0; list = old }

-- The call of this crate, as its promise (Calls.antt) gives it.
abbrev pub our_compare : Compare
our_compare first second old = record { answer = compared_as first second (length old); list = compared_into first second old }
