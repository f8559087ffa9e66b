-- Document 01, "One turn" and "Events and records": a run as the list of its turns, on any bench and over any way to find what the statement at the next cell does.
-- Assumes nothing.
use Rattle.std.specs.Prelude.{Bool, cond, ℕ, zero, suc, ◌+◌, eqb, leb, length, drop}
use mathlib.Core.List.{List, [], ◌∷◌, ◌++◌, map, flat_map}
use Rattle.effects.specs.Deeds.{Deed}
use Rattle.machine.specs.declared.Machine.{Machine}
use Rattle.machine.specs.declared.Turned.{Turned}
use Rattle.events.specs.declared.Event.{Event}
use Rattle.machine.specs.Turn.{turn}
use Rattle.events.specs.Events.{record_bytes}
use Rattle.machine.specs.Happens.{happens}

-- What a run asks of a bench: M is its machines, D what a statement does, C what a turn comes to.
pub record Bench (M D C : Type 0) : Type 0 where
  pub next : M → ℕ
  pub happens : Event → M → M
  pub turn : ℕ → D → M → C
  pub machine : C → M
  pub bytes : ℕ → C → List ℕ
  pub stops : C → Bool

-- Turn 7: a turn of a run: its number, the machine before it, the machine once its events have acted, what the statement does then, and what the turn came to.
pub record Step (M D C : Type 0) : Type 0 where
  pub turn : ℕ
  pub before : M
  pub here : M
  pub does : D
  pub came : C

-- Turn 6: a run: its turns in order, and why it ended.
pub record Trace (M D C : Type 0) : Type 0 where
  pub steps : List (Step M D C)
  pub reason : ℕ

module _ {M D C : Type 0} where
  abbrev pub ends : ℕ → Trace M D C
  ends reason = record { steps = []; reason = reason }

  abbrev pub before : Step M D C → Trace M D C → Trace M D C
  before step trace = record { steps = step ∷ trace.steps; reason = trace.reason }

-- Turn 7: the machine once the events of turn t have acted in order, and the events that are left.
pub record ReachedOf (M : Type 0) : Type 0 where
  pub machine : M
  pub left : List Event

module _ {M : Type 0} (happens : Event → M → M) where
  unfoldable pub reach_by : ℕ → List Event → M → ReachedOf M
  reach_by t [] m = record { machine = m; left = [] }
  reach_by t (e ∷ es) m =
      let acted = reach_by t es (happens e m) in
      let waits : ReachedOf M = record { machine = m; left = e ∷ es } in
      cond (eqb e.turn t) acted waits

-- Turn 6, Turn 7, Turn 25, Events 3: the run from turn t on, with so many turns left in the budget and these events to come.
-- Before a turn the end is tested, then the budget; a turn may stop the run.
module _ {M D C : Type 0} (bench : Bench M D C) (act : M → D) (cells : ℕ) where
  unfoldable pub trace_on : ℕ → ℕ → List Event → M → Trace M D C
  trace_on zero t es m = cond (leb cells (bench.next m)) (ends 1) (ends 3)
  trace_on (suc left) t es m =
      let reached = reach_by bench.happens t es m in
      let here = reached.machine in
      let came = bench.turn cells (act here) here in
      let step : Step M D C = record { turn = t; before = m; here = here; does = act here; came = came } in
      let more = trace_on left (suc t) reached.left (bench.machine came) in
      cond (leb cells (bench.next m)) (ends 1) (before step (cond (bench.stops came) (ends 2) more))

-- Events 7: how a run went.
pub record CourseOf (M : Type 0) : Type 0 where
  pub reason : ℕ
  pub turns : ℕ
  pub records : List ℕ
  pub machine : M

module _ {M D C : Type 0} (bench : Bench M D C) where
  -- Turn 1: the machine after these turns, from m on.
  unfoldable pub finally : M → List (Step M D C) → M
  finally m [] = m
  finally m (s ∷ ss) = finally (bench.machine s.came) ss

  -- Turn 6, Events 6, Events 7: how a run from machine m at turn t went.
  unfoldable pub course_of : ℕ → M → Trace M D C → CourseOf M
  course_of t m trace =
      record {
        reason = trace.reason;
        turns = t + length trace.steps;
        records = flat_map (λ s. bench.bytes s.turn s.came) trace.steps;
        machine = finally m trace.steps;
      }

  -- Turn 7: the places of a run, which are the next cell before each of its turns.
  unfoldable pub places_of : Trace M D C → List ℕ
  places_of trace = map (λ s. bench.next s.before) trace.steps

-- The plain bench.
abbrev pub plain : Bench Machine Deed Turned
plain =
    record {
      next = λ m. m.next;
      happens = happens;
      turn = turn;
      machine = λ r. r.machine;
      bytes = λ t r. record_bytes t r.wrote;
      stops = λ r. r.stops;
    }

abbrev pub PlainTrace : Type 0
PlainTrace = Trace Machine Deed Turned

abbrev pub Course : Type 0
Course = CourseOf Machine

abbrev pub Reached : Type 0
Reached = ReachedOf Machine

abbrev pub reach : ℕ → List Event → Machine → Reached
reach t es m = reach_by happens t es m

module _ (act : Machine → Deed) (cells : ℕ) where
  abbrev pub trace_from : ℕ → ℕ → List Event → Machine → PlainTrace
  trace_from left t es m = trace_on plain act cells left t es m

  abbrev pub run_from : ℕ → ℕ → List Event → Machine → Course
  run_from left t es m = course_of plain t m (trace_from left t es m)

  abbrev pub visits_from : ℕ → ℕ → List Event → Machine → List ℕ
  visits_from left t es m = places_of plain (trace_from left t es m)

-- Events 8: the records of a run over what a buffer held.
unfoldable pub over : Course → List ℕ → List ℕ
over c buffer = c.records ++ drop (length c.records) buffer
