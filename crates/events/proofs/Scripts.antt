-- Bad events: the first number of which a test holds, and what follows where there is none.
-- Assumes nothing.
use mathlib.Core.Path.{◌≡◌, refl, sym}
use mathlib.Core.Bool.{Bool, true, false, cond, ◌||◌, not}
use mathlib.Core.List.{List}
use Prim.Native.Nat.{ℕ, zero, suc, ◌+◌, ◌*◌, ◌≤◌, ◌<◌}
use native.Mathlib.Nat.{le_refl, div-mul-le_self}
use native.Mathlib.Omega.{arith}
use borrow.Author.Tests.{lt-ltb, le-ltb, not-false}
use lib.Dec.{ltb}
use lib.ListN.{length, get_or}
use Rattle.numbers.specs.Bytes.{field}
use Rattle.numbers.proofs.Laws.{field_none, field_more}
use Rattle.numbers.specs.Tests.{any_below, first_below}
use Rattle.numbers.proofs.Truth.{neither}
use Rattle.numbers.proofs.Tests.{none_below, first_most}
use Rattle.events.specs.Events.{event_at, event_count, good_event, bad_event, bad_events, first_bad_event}

module _ (p : ℕ → Bool) where
  -- It holds of some exactly where the first is below the number.
  found : (t : Bool) (r n : ℕ) → r ≤ n → t ≡ ltb (cond t r (suc n)) (suc n)
  found true r n h = sym (lt-ltb r (suc n) (omega arith))
  found false r n h = sym (le-ltb (suc n) (suc n) (le_refl (suc n)))

  pub any_first : (n : ℕ) → any_below n p ≡ ltb (first_below n p) n
  unfolding any_below first_below
  any_first zero = refl
  any_first (suc n) = rw (any_first n) (found (ltb (first_below n p) n || p n) (first_below n p) n (first_most p n))

module _ (s : List ℕ) where
  -- Refusals 17, Refusals 23: there is a bad event exactly where the first is one of the events.
  pub bad_events_lem : bad_events s ≡ ltb (first_bad_event s) (event_count s)
  unfolding bad_events first_bad_event
  bad_events_lem = any_first (bad_event s) (event_count s)

  -- Without a bad event each is good.
  pub good_events : (k : ℕ) → bad_events s ≡ false → k < event_count s → good_event (event_at s k) ≡ true
  unfolding bad_events bad_event
  good_events k e l = not-false (good_event (event_at s k)) (neither (not (good_event (event_at s k))) _ (none_below (bad_event s) (event_count s) e k l)).0

-- A number in two bytes and in four, byte by byte; an event's bytes are there.
pub two_bytes : (from : ℕ) (s : List ℕ) → get_or s from 0 + 256 * get_or s (from + 1) 0 ≡ field 2 from s
two_bytes from s =
    let e : from + 1 ≡ suc from = omega arith in
    rw e (omega (arith, field_more 1 from s, field_more 0 (suc from) s, field_none (suc (suc from)) s))

pub four_bytes : (from : ℕ) (s : List ℕ) → get_or s from 0 + 256 * (get_or s (from + 1) 0 + 256 * (get_or s (from + 2) 0 + 256 * get_or s (from + 3) 0)) ≡ field 4 from s
four_bytes from s =
    let e : from + 1 ≡ suc from = omega arith in
    let f : from + 2 ≡ suc (suc from) = omega arith in
    let g : from + 3 ≡ suc (suc (suc from)) = omega arith in
    rw (e, f, g) (omega (arith, field_more 3 from s, field_more 2 (suc from) s, field_more 1 (suc (suc from)) s, field_more 0 (suc (suc (suc from))) s, field_none (suc (suc (suc (suc from)))) s))

pub event_inside : (s : List ℕ) (k : ℕ) → k < event_count s → 12 * k + 12 ≤ length s
unfolding event_count
event_inside s k h = omega (arith, div-mul-le_self (length s) 12)
