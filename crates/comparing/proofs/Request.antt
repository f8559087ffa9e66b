-- Q-4 is met by the call that the promise describes, and by no other: any comparer that does what is asked gives what ours gives.
-- Assumes nothing.
use mathlib.Core.Path.{◌≡◌, refl, sym, ap, ap₂, subst, ◌∙◌}
use mathlib.Core.Bool.{false}
use mathlib.Core.List.{List, [], ◌++◌, flat_map}
use mathlib.Core.Logic.{◌↔◌}
use Prim.Native.Nat.{ℕ, ◌*◌, ◌≤◌, ◌<◌, max}
use native.Mathlib.Omega.{arith}
use lib.ListN.{length, get_or, drop, length-append, length-drop}
use lib.Seq.{drop_at}
use Rattle.numbers.specs.Bytes.{Bytes}
use Rattle.numbers.proofs.Lowest.{lowest_exactly, lowest_zero, lowest_decided}
use Rattle.numbers.proofs.Passing.{passing_rises}
use Rattle.numbers.proofs.Truth.{if_same}
use Rattle.events.specs.Events.{event_count}
use Rattle.comparing.specs.Differences.{bad_buffer, sum_at, differs_at, differing, differences}
use Rattle.comparing.specs.Calls.{compare_faults, compare_number, compare_answered, compared_as, compared_into, Compares}
use Rattle.comparing.specs.Requests.{Compare, entry_number, entry_sum, CompareRefused, CompareListed, exchanged, Request4, our_compare}
use Rattle.comparing.specs.declared.Compared.{Compared}
use Rattle.comparing.proofs.Sums.{sum_turned}
use Rattle.comparing.proofs.Buffers.{Good, good}
use Rattle.comparing.proofs.Cases.{number_0, accepted_answer, accepted_list, refused_answer, refused_list, answer_number, accepted}
use Rattle.comparing.proofs.Entries.{differences_length, listed_at, entry_number_lem, entry_sum_lem}
use Rattle.comparing.proofs.Listed.{listed_exactly, sum_tells, equal_buffers, itself_none, listed_turned}

-- The promise has one result.
pub compares_one : (first second before : List ℕ) (a b : Compared) (after later : List ℕ)
    → Compares first second before a after → Compares first second before b later → (a ≡ b) × (after ≡ later)
compares_one first second before a b after later c d = (c.answers ∙ sym d.answers, c.leaves ∙ sym d.leaves)

-- The promise of the call (Calls.antt) says exactly that it is this function.
pub compares_ours : (first second before : List ℕ) (a : Compared) (after : List ℕ)
    → Compares first second before a after ↔ ((a ≡ (our_compare first second before).answer) × (after ≡ (our_compare first second before).list))
compares_ours first second before a after = (λ c. (c.answers, c.leaves), λ e. record { answers = e.0; leaves = e.1 })

module _ (first second old : List ℕ) where
  -- Q-4 5: each number exactly.
  refusing : CompareRefused first second old (our_compare first second old)
  unfolding compare_number
  refusing =
      record {
        refused = λ k. rw (answer_number first second (length old)) (lowest_exactly 50 (compare_faults first second (length old)) k);
        none = rw (answer_number first second (length old)) (lowest_zero 50 (compare_faults first second (length old)));
        entries_refused = λ o. ap (λ (a : Compared). a.entries) (refused_answer first second (length old) (λ z. o (answer_number first second (length old) ∙ z)));
        list_refused = λ o. refused_list first second old (λ z. o (answer_number first second (length old) ∙ z));
      }

  -- An accepted call: the answer and the list.
  module _ (zero_number : (compared_as first second (length old)).number ≡ 0) where
    number : compare_number first second (length old) ≡ 0
    number = sym (answer_number first second (length old)) ∙ zero_number

    given : our_compare first second old
        ≡ record { answer = compare_answered 0 (length (differing first second)); list = differences first second ++ drop (length (differences first second)) old }
    given =
        ap₂ (λ (a : Compared) (l : List ℕ). record { answer = a; list = l }) (accepted_answer first second (length old) number) (accepted_list first second old number)

    first_good : Good first
    first_good = good first (accepted first second (length old) number).0

    second_good : Good second
    second_good = good second (accepted first second (length old) number).1

    most : max (event_count first) (event_count second) ≤ 8192
    most = omega (arith, first_good.most, second_good.most)

    entries_room : 8 * length (differing first second) ≤ length old
    entries_room = (accepted first second (length old) number).2

    lists : Bytes first → Bytes second → CompareListed first second old (our_compare first second old)
    unfolding differing
    lists bf bs = subst (CompareListed first second old) (sym given) all where
      rest : List ℕ
      rest = drop (length (differences first second)) old

      at : (i : ℕ) → i < length (differing first second) → entry_number (differences first second ++ rest) i ≡ get_or (differing first second) i 0
      at i h = entry_number_lem first second rest i h most

      rising : (i j : ℕ) → i < j → j < length (differing first second) → get_or (differing first second) i 0 < get_or (differing first second) j 0
      rising i j l h = passing_rises (differs_at first second) 0 (max (event_count first) (event_count second)) i j l h

      all : CompareListed first second old (record { answer = compare_answered 0 (length (differing first second)); list = differences first second ++ rest })
      all =
          record {
            rising = λ i j l h. rw (at i (omega arith), at j h) (rising i j l h);
            exactly = λ k. (
              λ c. (listed_exactly first second first_good second_good bf bs k).0 (c.0, c.1, sym (at c.0 c.1) ∙ c.2),
              λ d. let r = (listed_exactly first second first_good second_good bf bs k).1 d in (r.0, r.1, at r.0 r.1 ∙ r.2),
            );
            tells = λ i h.
                rw (at i h, entry_sum_lem first second rest i h most)
                (sum_tells first second first_good second_good bf bs (get_or (differing first second) i 0) (listed_at first second i h).0);
            empty = (
              equal_buffers first second first_good second_good bf bs,
              λ e. ap (λ (s : List ℕ). length (differing first s)) (sym e) ∙ ap length (itself_none first first_good),
            );
            long = omega (arith, length-append (differences first second) rest, length-drop (length (differences first second)) old, differences_length first second, entries_room);
            room = entries_room;
            behind =
                drop_at (differences first second) rest (8 * length (differing first second)) (differences_length first second)
                ∙ ap (λ (n : ℕ). drop n old) (differences_length first second);
          }

-- The other way round.
turned : (first second old other : List ℕ) → (compared_as first second (length old)).number ≡ 0 → 8 * (compared_as first second (length old)).entries ≤ length other
    → (compared_as second first (length other) ≡ compared_as first second (length old))
    × ((i : ℕ) → i < (compared_as first second (length old)).entries
    → (entry_number (compared_into second first other) i ≡ entry_number (compared_into first second old) i)
    × (entry_sum (compared_into second first other) i ≡ exchanged (entry_sum (compared_into first second old) i)))
turned first second old other z room = (
  accepted_answer second first (length other) back ∙ ap (λ (l : List ℕ). compare_answered 0 (length l)) same ∙ sym answer,
  λ i h. let b : i < length (differing first second) = omega (arith, entries, h) in (number_same i b, sum_same i b),
) where
  here : compare_number first second (length old) ≡ 0
  here = number first second old z

  answer : compared_as first second (length old) ≡ compare_answered 0 (length (differing first second))
  answer = accepted_answer first second (length old) here

  entries : (compared_as first second (length old)).entries ≡ length (differing first second)
  entries = ap (λ (a : Compared). a.entries) answer

  same : differing second first ≡ differing first second
  same = listed_turned first second

  lengths : length (differing second first) ≡ length (differing first second)
  lengths = ap length same

  faults : (bad_buffer first ≡ false) × (bad_buffer second ≡ false) × (8 * length (differing first second) ≤ length old)
  faults = accepted first second (length old) here

  back : compare_number second first (length other) ≡ 0
  back = number_0 second first (length other) faults.1 faults.0 (omega (arith, lengths, entries, room))

  top : max (event_count second) (event_count first) ≤ 8192
  top = omega (arith, most first second old z)

  number_same : (i : ℕ) → i < length (differing first second) → entry_number (compared_into second first other) i ≡ entry_number (compared_into first second old) i
  number_same i h =
      rw (accepted_list second first other back, accepted_list first second old here)
      (entry_number_lem second first (drop (length (differences second first)) other) i (omega (arith, lengths)) top
      ∙ ap (λ (l : List ℕ). get_or l i 0) same
      ∙ sym (entry_number_lem first second (drop (length (differences first second)) old) i h (most first second old z)))

  sum_same : (i : ℕ) → i < length (differing first second) → entry_sum (compared_into second first other) i ≡ exchanged (entry_sum (compared_into first second old) i)
  sum_same i h =
      rw (accepted_list second first other back, accepted_list first second old here)
      (entry_sum_lem second first (drop (length (differences second first)) other) i (omega (arith, lengths)) top
      ∙ ap (λ (l : List ℕ). sum_at second first (get_or l i 0)) same
      ∙ sum_turned first second (get_or (differing first second) i 0) (listed_at first second i h).0
      ∙ ap exchanged (sym (entry_sum_lem first second (drop (length (differences first second)) old) i h (most first second old z))))

-- A good buffer and itself.
no_differences : (first second : List ℕ) → differing first second ≡ [] → differences first second ≡ []
unfolding differences flat_map
no_differences first second e = rw e

itself : (first old : List ℕ) → bad_buffer first ≡ false → our_compare first first old ≡ record { answer = compare_answered 0 0; list = old }
itself first old f =
    let none = itself_none first (good first f) in
    let n : length (differing first first) ≡ 0 = ap length none in
    let z : compare_number first first (length old) ≡ 0 = number_0 first first (length old) f f (omega (arith, n)) in
    given first first old (answer_number first first (length old) ∙ z) ∙ rw (no_differences first first none, none) refl

-- Q-4 of the call that the promise describes.
pub request4 : Request4 our_compare
request4 =
    record {
      refusing = refusing;
      laid_out = λ first second old f s room.
          given first second old (answer_number first second (length old) ∙ number_0 first second (length old) f s room);
      lists = λ first second old bf bs z. lists first second old z bf bs;
      turned = turned;
      itself = itself;
    }

-- Any comparer that does what is asked gives what ours gives, on every input.
module _ (compare : Compare) (r : Request4 compare) (first second old : List ℕ) where
  -- Its number is that of the table.
  same_number : (compare first second old).answer.number ≡ compare_number first second (length old)
  unfolding compare_number
  same_number = let q = r.refusing first second old in lowest_decided 50 (compare_faults first second (length old)) (compare first second old).answer.number q.refused q.none

  pub compare_decided : compare first second old ≡ our_compare first second old
  compare_decided =
      if_same (compare_number first second (length old)) 0
      (λ z.
      let a = accepted first second (length old) z in
      r.laid_out first second old a.0 a.1 a.2 ∙ sym (given first second old (answer_number first second (length old) ∙ z)))
      (λ o.
      let q = r.refusing first second old in
      let n : (compare first second old).answer.number ≡ 0 → ⊥ = λ z. o (sym same_number ∙ z) in
      ap₂ (λ (a : Compared) (l : List ℕ). record { answer = a; list = l })
      (ap₂ compare_answered same_number (q.entries_refused n) ∙ sym (refused_answer first second (length old) o))
      (q.list_refused n ∙ sym (refused_list first second old o)))
