-- What the code of the run answers, in the words of the run's definitions.
-- Assumes nothing.
use Rattle.std.specs.Prelude.{◌≡◌, List, ℕ, ◌-◌, ◌≤◌, ◌<◌, length}
use Rattle.numbers.specs.Tests.{listed}
use Rattle.image.specs.Layout.{cell_count}
use Rattle.machine.specs.declared.Machine.{Machine}
use Rattle.events.specs.declared.Event.{Event}
use Rattle.machine.specs.declared.Turned.{Turned}
use Rattle.events.specs.Events.{event_at, event_count}
use Rattle.machine.specs.Turn.{turn}
use Rattle.machine.specs.Run.{Course, reach, run_from, over}
use Rattle.machine.specs.Code.{Inputs}
use Rattle.running.specs.declared.Ended.{Ended}
use Rattle.running.specs.declared.EndReason.{EndReason}
use Rattle.running.specs.declared.EndReason.TheVariants.{PastTheLast, Stopped, BudgetUsed}
use Rattle.running.specs.Courses.{cell_acts}
use Rattle.running.specs.Visits.{visits_over}

-- The events of a script from the one with this number on.
unfoldable pub events_from : List ℕ → ℕ → List Event
events_from s k = listed k (event_count s - k) (event_at s)

-- The events from the first number on are of turn t up to the last number, and the one with that number, if there is one, is not.
pub record DueBefore (s : List ℕ) (t first last : ℕ) : Type 0 where
  pub order : first ≤ last
  pub within : last ≤ event_count s
  pub each : (k : ℕ) → k < last → first ≤ k → (event_at s k).turn ≡ t
  pub waits : (m : Machine) → reach t (events_from s last) m ≡ record { machine = m; left = events_from s last }

-- Turn t was taken: its events have acted, from the one with this number on, then the statement at the next cell.
pub record SteppedBy (s : List ℕ) (cells : ℕ) (script : List ℕ) (t first : ℕ) (m : Machine) (d : Turned) (n : ℕ) : Type 0 where
  pub turned : let here = (reach t (events_from script first) m).machine in d ≡ turn cells (cell_acts s here) here
  pub left : events_from script n ≡ (reach t (events_from script first) m).left
  pub within : n ≤ event_count script
  pub inputs : Inputs d.machine.variables

-- How the run of an image goes on from a machine before this turn, with the events from this number on, up to the last turn.
unfoldable pub course_from : List ℕ → List ℕ → Machine → ℕ → ℕ → ℕ → Course
course_from s script m t k last = run_from (cell_acts s) (cell_count s) (last - t) t (events_from script k) m

-- Events 7, Forms 13: the number of an end reason.
unfoldable pub reason_number : EndReason → ℕ
reason_number PastTheLast = 1
reason_number Stopped = 2
reason_number BudgetUsed = 3

-- A run went like this course, and its records stand in the buffer over what that held.
pub record EndedAs (course : Course) (r : Ended) (old new : List ℕ) : Type 0 where
  pub reason : reason_number r.reason ≡ course.reason
  pub turns : r.turns ≡ course.turns
  pub bytes : r.bytes ≡ length course.records
  pub machine : r.machine ≡ course.machine
  pub buffer : new ≡ over course old

-- So many places were visited, and they stand in the buffer over what that held.
pub record VisitedAs (places : List ℕ) (r : ℕ) (old new : List ℕ) : Type 0 where
  pub turns : r ≡ length places
  pub buffer : new ≡ visits_over places old
