-- The places of a run, turn by turn: those still to come, behind the ones in the buffer, give the whole.
-- Assumes nothing.
use mathlib.Core.Path.{◌≡◌, refl, sym, ap, ◌∙◌}
use mathlib.Core.Bool.{true, false}
use mathlib.Core.List.{List, [], ◌∷◌, ◌++◌, append_assoc, append-nil, flat_map}
use Prim.Native.Nat.{ℕ, ◌+◌, ◌*◌, ◌-◌, ◌≤◌, ◌<◌}
use native.Mathlib.Nat.{sub-zero}
use native.Mathlib.Omega.{arith}
use lib.ListN.{length, take, drop, take-append-drop}
use lib.Seq.{sets, length-sets, length-take-le, drop-drop}
use Rattle.numbers.specs.Bytes.{bytes}
use Rattle.numbers.proofs.Laws.{length_bytes}
use Rattle.image.specs.Layout.{cell_count, start_values}
use Rattle.machine.specs.declared.Machine.{Machine}
use Rattle.machine.specs.declared.Turned.{Turned}
use Rattle.machine.specs.Turn.{start_machine}
use Rattle.events.specs.Events.{event_count}
use Rattle.machine.specs.Run.{plain, places_of}
use Rattle.machine.specs.Code.{Inputs}
use Rattle.machine.proofs.Inputs.{inputs_start}
use Rattle.machine.proofs.Traces.{few_turns}
use Rattle.running.specs.Visits.{image_visits, visit_bytes, visits_over}
use Rattle.running.specs.Courses.{cell_acts}
use Rattle.running.specs.Code.{events_from, SteppedBy, VisitedAs}
use Rattle.running.proofs.Scripts.{events_all}
use Rattle.running.proofs.Turns.{rest, rest_past, rest_stopped, rest_goes}
use Rattle.running.proofs.Courses.{take_written, drop_written}

-- A list that has no more than nothing.
no_turn : {A : Type 0} (xs : List A) → length xs ≤ 0 → xs ≡ []
no_turn [] h = refl
no_turn (x ∷ xs) h = absurd (omega arith)

-- The buffer has the places of t turns, and behind them what it had at the start, which is `b₀`; with the places still to come they give all.
pub record Marked (all b₀ b : List ℕ) (t : ℕ) (left : List ℕ) : Type 0 where
  pub inside : 2 * t ≤ length b
  pub behind : drop (2 * t) b ≡ drop (2 * t) b₀
  pub counted : t + length left ≡ length all
  pub whole : take (2 * t) b ++ visit_bytes left ≡ visit_bytes all

-- None is to come.
all_marked : {all b₀ b : List ℕ} {t : ℕ} → Marked all b₀ b t [] → VisitedAs all t b₀ b
unfolding visit_bytes flat_map visits_over
all_marked {all} {b₀} {b} {t} w =
    let e : take (2 * t) b ≡ visit_bytes all = sym (append-nil (take (2 * t) b)) ∙ w.whole in
    let n : length (visit_bytes all) ≡ 2 * t = sym (ap length e) ∙ length-take-le (2 * t) b w.inside in
    record {
      turns = let c = w.counted in omega arith;
      buffer = rw (n, ← e, ← w.behind, take-append-drop);
    }

-- The next place is written.
mark_more : {all b₀ b : List ℕ} {t n : ℕ} {left : List ℕ} → Marked all b₀ b t (n ∷ left) → 2 * t + 2 ≤ length b → Marked all b₀ (sets b (2 * t) (bytes 2 n)) (t + 1) left
unfolding visit_bytes flat_map
mark_more {all} {b₀} {b} {t} {n} {left} w f =
    let g : 2 * t + length (bytes 2 n) ≤ length b = rw (length_bytes 2 n) f in
    let k : 2 * (t + 1) ≡ 2 * t + length (bytes 2 n) = rw (length_bytes 2 n) (omega arith) in
    record {
      inside = rw (length-sets b (2 * t) (bytes 2 n)) (omega arith);
      behind = rw k (drop_written (2 * t) b (bytes 2 n) g ∙ sym (drop-drop (length (bytes 2 n)) (2 * t) b) ∙ ap (drop (length (bytes 2 n))) w.behind ∙ drop-drop (length (bytes 2 n)) (2 * t) b₀);
      counted = let c = w.counted in omega arith;
      whole = rw (k, take_written (2 * t) b (bytes 2 n) g, append_assoc) w.whole;
    }

-- What holds before each turn t, with the events from number k on to come and the places of t turns in the buffer.
pub record Passing (s script : List ℕ) (budget : ℕ) (b₀ b : List ℕ) (m : Machine) (t k : ℕ) : Type 0 where
  pub turns : t ≤ budget
  pub within : k ≤ event_count script
  pub inputs : Inputs m.variables
  pub size : length b ≡ length b₀
  pub marked : Marked (image_visits s script budget) b₀ b t (places_of plain (rest s script budget t k m))

module _ {s script : List ℕ} {budget : ℕ} {b₀ : List ℕ} where
  -- Before the first turn.
  pub passing : {m : Machine} → m ≡ start_machine (start_values s) → Passing s script budget b₀ b₀ m 0 0
  unfolding image_visits
  passing e =
      record {
        turns = omega arith;
        within = omega arith;
        inputs = rw e (inputs_start (start_values s));
        size = refl;
        marked =
            record {
              inside = omega arith;
              behind = refl;
              counted = rw (e, sub-zero, events_all script) (omega arith);
              whole = rw (e, sub-zero, events_all script);
            };
      }

  module _ {b : List ℕ} {m : Machine} {t k : ℕ} (u : Passing s script budget b₀ b m t k) {cells : ℕ} (en : cells ≡ cell_count s) where
    -- Turn 6: no cell is left, or no turn.
    pub visited_past : cells ≤ m.next → VisitedAs (image_visits s script budget) t b₀ b
    unfolding places_of
    visited_past h = all_marked (rw (rest_past s script budget t k m (omega arith)) at u.marked)

    pub visited_spent : budget ≤ t → VisitedAs (image_visits s script budget) t b₀ b
    unfolding places_of
    visited_spent l = all_marked (rw (no_turn (rest s script budget t k m).steps (omega (arith, few_turns plain (cell_acts s) (cell_count s) (budget - t) t (events_from script k) m))) at u.marked)

    -- One turn is taken, and its place is written.
    module _ (room : 2 * budget ≤ length b₀) (h : m.next < cells) (l : t < budget) {d : Turned} {n : ℕ} (er : SteppedBy s cells script t k m d n)
        {b' : List ℕ} (eb : b' ≡ sets b (2 * t) (bytes 2 m.next)) where
      more : (left : List ℕ) → places_of plain (rest s script budget t k m) ≡ m.next ∷ left → Marked (image_visits s script budget) b₀ b' (t + 1) left
      more left e = rw eb (mark_more (rw e at u.marked) (omega (arith, u.size)))

      -- Turn 25: the run stops after the turn.
      pub visited_stopped : d.stops ≡ true → VisitedAs (image_visits s script budget) (t + 1) b₀ b'
      unfolding places_of
      visited_stopped e = all_marked (more [] (ap (places_of plain) (rest_stopped s script budget t k m (omega arith) l (rw en at er) e)))

      pub passes_on : d.stops ≡ false → Passing s script budget b₀ b' d.machine (t + 1) n
      unfolding places_of
      passes_on e =
          record {
            turns = omega arith;
            within = er.within;
            inputs = er.inputs;
            size = rw eb (length-sets b (2 * t) (bytes 2 m.next) ∙ u.size);
            marked = more (places_of plain (rest s script budget (t + 1) n d.machine)) (ap (places_of plain) (rest_goes s script budget t k m (omega arith) l (rw en at er) e));
          }
