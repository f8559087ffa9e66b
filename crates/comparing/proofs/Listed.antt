-- What is listed of two good buffers: which numbers, what their sums tell, nothing exactly if the buffers are equal; and the other way round.
-- Assumes nothing.
use mathlib.Core.Path.{◌≡◌, refl, sym, ap, ◌∙◌}
use mathlib.Core.Bool.{true, true≢false}
use mathlib.Core.List.{List, []}
use mathlib.Core.Logic.{◌↔◌}
use Prim.Native.Nat.{ℕ, ◌+◌, ◌*◌, ◌/◌, ◌%◌, ◌≤◌, ◌<◌, max}
use native.Mathlib.Omega.{arith}
use lib.ListN.{length, get_or, take, drop, drop_of_length-le}
use lib.Seq.{ext_get_or, get_or-take, get_or-drop}
use Rattle.numbers.specs.Bytes.{Bytes}
use Rattle.numbers.proofs.Truth.{if_below, if_same}
use Rattle.numbers.proofs.Passing.{passing_found, passing_none, passing_same}
use Rattle.events.specs.Events.{event_at, event_count}
use Rattle.comparing.specs.Differences.{field_sum, sum_at, differs_at, differing}
use Rattle.comparing.specs.Requests.{record_of, Differs, Has, Tells, exchanged}
use Rattle.comparing.proofs.Sums.{not_listed, is_listed, sum_first, sum_second, sum_both, fields_below, sum_turned, exchanged_zero}
use Rattle.comparing.proofs.Buffers.{Good}
use Rattle.comparing.proofs.Fields.{told, none_differs, record_same, length_record}
use Rattle.comparing.proofs.Entries.{listed_at}

-- A record of a good buffer is whole; where there is none, it has no bytes.
inside : {s : List ℕ} → Good s → (k : ℕ) → k < event_count s → 12 * k + 12 ≤ length s
inside g k h = omega (arith, g.whole)

has : {s : List ℕ} → Good s → (k : ℕ) → Has s k → k < event_count s
has g k h = omega (arith, g.whole)

none_there : {s : List ℕ} → Good s → (k : ℕ) → event_count s ≤ k → record_of s k ≡ []
none_there {s} g k h = ap (take 12) (drop_of_length-le s {i = 12 * k} (omega (arith, g.whole)))

module _ (first second : List ℕ) (f : Good first) (s : Good second) where
  abbrev top : ℕ
  top = max (event_count first) (event_count second)

  -- Two records, one of which is not there, differ.
  one_missing : (k : ℕ) → (record_of first k ≡ []) × (k < event_count second) → Differs first second k
  one_missing k c z = let n : ◌≡◌ {A = ℕ} 0 12 = ap length (sym c.0 ∙ z) ∙ length_record second k (inside s k c.1) in omega arith

  other_missing : (k : ℕ) → (k < event_count first) × (record_of second k ≡ []) → Differs first second k
  other_missing k c z = let n : ◌≡◌ {A = ℕ} 12 0 = sym (length_record first k (inside f k c.0)) ∙ ap length (z ∙ c.1) in omega arith

  module _ (bf : Bytes first) (bs : Bytes second) where
    -- A number of a record has a sum exactly if the records differ or one is missing.
    pub sum_exactly : (k : ℕ) → k < top → (sum_at first second k ≡ 0 → ⊥) ↔ Differs first second k
    sum_exactly k b =
        if_below k (event_count second)
        (λ l. if_below k (event_count first)
        (λ h. (
          λ o z. o (sum_both first second k h l ∙ record_same first second k (inside f k h) (inside s k l) z),
          λ d e.
              d (none_differs first second k (inside f k h) (inside s k l) bf bs (f.zeros k h ∙ sym (s.zeros k l)) (sym (sum_both first second k h l) ∙ e)),
        ))
        (λ h. (λ o. one_missing k (none_there f k h, l), λ d e. omega (arith, sum_second first second k l h))))
        (λ l. (λ o. other_missing k (omega arith, none_there s k l), λ d e. omega (arith, sum_first first second k l)))

    -- A number is listed exactly if the records differ or one is missing.
    pub listed_exactly : (k : ℕ) → ((i : ℕ) × (i < length (differing first second)) × (get_or (differing first second) i 0 ≡ k)) ↔ Differs first second k
    unfolding differing
    listed_exactly k = (to, from) where
      to : (i : ℕ) × (i < length (differing first second)) × (get_or (differing first second) i 0 ≡ k) → Differs first second k
      to c =
          let r = listed_at first second c.0 c.1 in
          let b : k < top = omega (arith, r.0, c.2) in
          let t : differs_at first second k ≡ true = ap (differs_at first second) (sym c.2) ∙ r.1 in
          (sum_exactly k b).0 (λ e. true≢false (sym t ∙ not_listed first second k e))

      from : Differs first second k → (i : ℕ) × (i < length (differing first second)) × (get_or (differing first second) i 0 ≡ k)
      from d =
          if_below k top
          (λ b. passing_found (differs_at first second) 0 top k (omega arith, omega arith, is_listed first second k ((sum_exactly k b).1 d)))
          (λ b. absurd (d (none_there f k (omega arith) ∙ sym (none_there s k (omega arith)))))

    -- The sum of a record that a buffer has tells what differs.
    pub sum_tells : (k : ℕ) → k < top → Tells first second k (sum_at first second k)
    sum_tells k b =
        record {
          turn = λ h l. rw (both h l) (told first second k (inside f k (has f k h)) (inside s k (has s k l)) bf bs).0;
          kind = λ h l. rw (both h l) (told first second k (inside f k (has f k h)) (inside s k (has s k l)) bf bs).1;
          number = λ h l. rw (both h l) (told first second k (inside f k (has f k h)) (inside s k (has s k l)) bf bs).2;
          value = λ h l. rw (both h l) (told first second k (inside f k (has f k h)) (inside s k (has s k l)) bf bs).3;
          no_more = λ h l. rw (both h l) (fields_below (event_at first k) (event_at second k));
          first_only = (λ e. in_first e, λ h. sum_first first second k (omega (arith, s.whole)));
          second_only = (λ e. in_second e, λ h. sum_second first second k (omega (arith, f.whole)) (omega (arith, f.whole)));
        } where
          both : Has first k → Has second k → sum_at first second k ≡ field_sum (event_at first k) (event_at second k)
          both h l = sum_both first second k (has f k h) (has s k l)

          in_first : sum_at first second k ≡ 16 → length second ≤ 12 * k
          in_first e =
              if_below k (event_count second)
              (λ l. if_below k (event_count first)
              (λ h. absurd (omega (arith, e, sum_both first second k h l, fields_below (event_at first k) (event_at second k))))
              (λ h. absurd (omega (arith, e, sum_second first second k l h))))
              (λ l. omega (arith, s.whole))

          in_second : sum_at first second k ≡ 32 → length first ≤ 12 * k
          in_second e =
              if_below k (event_count second)
              (λ l. if_below k (event_count first)
              (λ h. absurd (omega (arith, e, sum_both first second k h l, fields_below (event_at first k) (event_at second k))))
              (λ h. omega (arith, f.whole)))
              (λ l. absurd (omega (arith, e, sum_first first second k l)))

    -- Where no number is listed the buffers are equal.
    pub equal_buffers : length (differing first second) ≡ 0 → first ≡ second
    equal_buffers e = ext_get_or 0 first second lengths (λ i h. bytes_same i h) where
      same : (k : ℕ) → Differs first second k → ⊥
      same k d = let r = (listed_exactly k).1 d in omega (arith, r.1)

      counts : event_count first ≡ event_count second
      counts =
          if_below (event_count first) (event_count second)
          (λ l. absurd (same (event_count first) (one_missing (event_count first) (none_there f (event_count first) (omega arith), l))))
          (λ g. if_below (event_count second) (event_count first)
          (λ l. absurd (same (event_count second) (other_missing (event_count second) (l, none_there s (event_count second) (omega arith)))))
          (λ h. omega arith))

      lengths : length first ≡ length second
      lengths = omega (arith, f.whole, s.whole, counts)

      byte : (l : List ℕ) (i : ℕ) → get_or (record_of l (i / 12)) (i % 12) 0 ≡ get_or l i 0
      byte l i =
          let m : i % 12 < 12 = omega arith in
          let d : 12 * (i / 12) + i % 12 ≡ i = omega arith in
          get_or-take 12 (drop (12 * (i / 12)) l) (i % 12) 0 m ∙ get_or-drop (12 * (i / 12)) l (i % 12) 0 ∙ ap (λ (n : ℕ). get_or l n 0) d

      bytes_same : (i : ℕ) → i < length first → get_or first i 0 ≡ get_or second i 0
      bytes_same i h =
          let k = i / 12 in
          let hk : k < event_count first = omega (arith, f.whole) in
          let lk : k < event_count second = omega (arith, f.whole, counts) in
          let z : sum_at first second k ≡ 0 = if_same (sum_at first second k) 0 (λ w. w) (λ o. absurd (same k ((sum_exactly k (omega arith)).0 o))) in
          let r : record_of first k ≡ record_of second k =
          none_differs first second k (inside f k hk) (inside s k lk) bf bs (f.zeros k hk ∙ sym (s.zeros k lk)) (sym (sum_both first second k hk lk) ∙ z) in
          sym (byte first i) ∙ ap (λ (l : List ℕ). get_or l (i % 12) 0) r ∙ byte second i

-- A good buffer and itself: no number is listed.
pub itself_none : (first : List ℕ) → Good first → differing first first ≡ []
unfolding differing
itself_none first g =
    passing_none (differs_at first first) 0 (max (event_count first) (event_count first))
    (λ k h l.
    let b : k < event_count first = omega arith in
    not_listed first first k (sum_both first first k b b ∙ record_same first first k (inside g k b) (inside g k b) refl))

-- The other way round the same numbers are listed.
pub listed_turned : (first second : List ℕ) → differing second first ≡ differing first second
unfolding differing exchanged
listed_turned first second =
    let e : max (event_count second) (event_count first) ≡ max (event_count first) (event_count second) = omega arith in
    rw e
    (passing_same (differs_at second first) (differs_at first second) 0 (max (event_count first) (event_count second))
    (λ k h l.
    let t = sum_turned first second k (omega arith) in
    if_same (sum_at first second k) 0
    (λ z. not_listed second first k (t ∙ ap exchanged z) ∙ sym (not_listed first second k z))
    (λ o. is_listed second first k (λ z. o (exchanged_zero (sum_at first second k) (sym t ∙ z))) ∙ sym (is_listed first second k o))))
