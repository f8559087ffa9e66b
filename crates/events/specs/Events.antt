-- Document 01, "Events and records": both as bytes, and bad events.
-- Assumes nothing.
use Rattle.std.specs.Prelude.{Bool, cond, ◌&&◌, ◌||◌, not, List, [], ◌++◌, ℕ, ◌+◌, ◌*◌, ◌-◌, ◌/◌, ◌%◌, eqb, leb, ltb, pos, length}
use Rattle.numbers.specs.Bytes.{bytes, field}
use Rattle.numbers.specs.Bits.{digits32, signed32}
use Rattle.numbers.specs.Tests.{between, eq_z, any_below, first_below, listed}
use Rattle.program.specs.Variables.{in_range, literals}
use Rattle.events.specs.declared.Record.{Record}
use Rattle.events.specs.declared.Event.{Event}

-- Events 1: the event with this number, from 0.
unfoldable pub event_at : List ℕ → ℕ → Event
event_at s k =
    record {
      turn = field 4 (12 * k) s;
      kind = field 1 (12 * k + 4) s;
      number = field 1 (12 * k + 5) s;
      zeros = field 2 (12 * k + 6) s;
      value = signed32 (field 4 (12 * k + 8) s);
    }

unfoldable pub event_count : List ℕ → ℕ
event_count s = length s / 12

unfoldable pub events : List ℕ → List Event
events s = listed 0 (event_count s) (event_at s)

-- Events 1, Events 2: an event of each kind.
unfoldable pub good_event : Event → Bool
good_event e =
    eqb e.zeros 0
    && ((eqb e.kind 1 && ((leb 1 e.number && leb e.number 4) && between (pos 0) (pos 1) e.value))
    || ((eqb e.kind 2 && (eqb e.number 0 && eq_z e.value (pos 0)))
    || (eqb e.kind 3 && (eqb e.number 0 && in_range literals e.value))))

-- Refusals 16: bytes that make no whole number of events, or more events than 4,096.
unfoldable pub bad_script : List ℕ → Bool
bad_script s = not (eqb (length s % 12) 0) || ltb 4096 (event_count s)

-- Refusals 17: a bad event, or one whose turn is below that of the one before.
unfoldable pub bad_event : List ℕ → ℕ → Bool
bad_event s k = not (good_event (event_at s k)) || (leb 1 k && ltb (event_at s k).turn (event_at s (k - 1)).turn)

unfoldable pub bad_events : List ℕ → Bool
bad_events s = any_below (event_count s) (bad_event s)

-- Refusals 23: the index of the first such event.
unfoldable pub first_bad_event : List ℕ → ℕ
first_bad_event s = first_below (event_count s) (bad_event s)

-- Events 1, Events 6: the bytes of what turn t records; none where it records nothing.
unfoldable pub record_bytes : ℕ → Record → List ℕ
record_bytes t r =
    cond (eqb r.kind 0) []
    (bytes 4 t ++ (bytes 1 r.kind ++ (bytes 1 r.number ++ (bytes 2 0 ++ bytes 4 (digits32 r.value)))))
