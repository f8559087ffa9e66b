-- A buffer that is bad, by each of its faults; and what a good one keeps.
-- Assumes nothing.
use mathlib.Core.Path.{◌≡◌, refl, ap}
use mathlib.Core.Bool.{true, false, ◌||◌, not, or-true}
use mathlib.Core.List.{List}
use mathlib.Core.Logic.{◌↔◌}
use Prim.Native.Nat.{ℕ, ◌+◌, ◌*◌, ◌/◌, ◌%◌, ◌≤◌, ◌<◌}
use native.Mathlib.Omega.{arith}
use borrow.Author.Tests.{lt-ltb, le-ltb, eq-eqb, ne_eqb, eqb-true, ltb-false, not-false}
use lib.Dec.{eqb, ltb}
use lib.ListN.{length, get_or}
use Rattle.numbers.specs.Bytes.{field}
use Rattle.numbers.specs.Tests.{any_below}
use Rattle.numbers.proofs.Truth.{neither}
use Rattle.numbers.proofs.Tests.{no_any, none_below}
use Rattle.events.specs.Events.{event_at, event_count}
use Rattle.events.proofs.Scripts.{two_bytes}
use Rattle.comparing.specs.Differences.{bad_record, bad_buffer}
use Rattle.comparing.specs.Requests.{AreRecords}

module _ (s : List ℕ) where
  pub bad_count : 8192 < event_count s → bad_buffer s ≡ true
  unfolding bad_buffer
  bad_count h = rw (lt-ltb 8192 (event_count s) h)

  pub bad_length_lem : (length s % 12 ≡ 0 → ⊥) → bad_buffer s ≡ true
  unfolding bad_buffer
  bad_length_lem o = rw (ne_eqb (length s % 12) 0 o) (or-true (ltb 8192 (event_count s)))

  pub as_records : event_count s ≤ 8192 → length s % 12 ≡ 0 → any_below (event_count s) (bad_record s) ≡ bad_buffer s
  unfolding bad_buffer
  as_records h e = rw (le-ltb 8192 (event_count s) h, eq-eqb (length s % 12) 0 e) refl

  pub no_bad : event_count s ≤ 8192 → length s % 12 ≡ 0 → ((k : ℕ) → k < event_count s → bad_record s k ≡ false) → bad_buffer s ≡ false
  unfolding bad_buffer
  no_bad h e f = rw (le-ltb 8192 (event_count s) h, eq-eqb (length s % 12) 0 e, no_any (bad_record s) (event_count s) f)

-- What a good buffer keeps: 8,192 records at most, all whole, each with its zeros.
pub record Good (s : List ℕ) : Type 0 where
  pub most : event_count s ≤ 8192
  pub whole : length s ≡ 12 * event_count s
  pub zeros : (k : ℕ) → k < event_count s → field 2 (12 * k + 6) s ≡ 0

pub good : (s : List ℕ) → bad_buffer s ≡ false → Good s
unfolding bad_buffer bad_record event_at event_count
good s e =
    let c = neither (ltb 8192 (length s / 12)) (not (eqb (length s % 12) 0) || any_below (length s / 12) (bad_record s)) e in
    let d = neither (not (eqb (length s % 12) 0)) (any_below (length s / 12) (bad_record s)) c.1 in
    record {
      most = ltb-false 8192 (length s / 12) c.0;
      whole = omega (arith, eqb-true (length s % 12) 0 (not-false (eqb (length s % 12) 0) d.0));
      zeros = λ k h. eqb-true (field 2 (12 * k + 6) s) 0 (not-false (eqb (field 2 (12 * k + 6) s) 0) (none_below (bad_record s) (length s / 12) d.1 k h));
    }

-- Q-4 5: a buffer is refused exactly if its bytes are no records.
pub records_exactly : (s : List ℕ) → (bad_buffer s ≡ false) ↔ AreRecords s
unfolding bad_record event_at event_count
records_exactly s = (to, from) where
  pair : (k : ℕ) → get_or s (12 * k + 6) 0 + 256 * get_or s (12 * k + 7) 0 ≡ field 2 (12 * k + 6) s
  pair k = let e : 12 * k + 6 + 1 ≡ 12 * k + 7 = omega arith in rw (← e) (two_bytes (12 * k + 6) s)

  to : bad_buffer s ≡ false → AreRecords s
  to e =
      let g = good s e in
      record {
        most = omega (arith, g.most, g.whole);
        twelves = omega (arith, g.whole);
        zeros = λ k h. let z = g.zeros k (omega (arith, g.whole)) in (omega (arith, pair k, z), omega (arith, pair k, z));
      }

  from : AreRecords s → bad_buffer s ≡ false
  from r =
      no_bad s (omega (arith, r.most)) r.twelves
      (λ k h. let z = r.zeros k (omega arith) in ap not (eq-eqb (field 2 (12 * k + 6) s) 0 (omega (arith, pair k, z.0, z.1))))
