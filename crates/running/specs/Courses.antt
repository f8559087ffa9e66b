-- Document 01, "One turn" and "Events and records": the run of an image.
-- Assumes nothing.
use Rattle.std.specs.Prelude.{List, ℕ}
use Rattle.program.specs.Cells.{same, statement_of}
use Rattle.image.specs.Layout.{cell_count, cell_at, start_values}
use Rattle.effects.specs.Deeds.{Deed, deed}
use Rattle.machine.specs.declared.Machine.{Machine}
use Rattle.machine.specs.Turn.{start_machine}
use Rattle.events.specs.Events.{events}
use Rattle.machine.specs.Run.{PlainTrace, Course, trace_from, run_from}

-- Turn 7: what the statement at the machine's next cell does.
unfoldable pub cell_acts : List ℕ → Machine → Deed
cell_acts s m = deed same same m.variables m.places.kept m.hold (statement_of (cell_at s m.next))

-- Turn 6, Variables 3: the run of an image from its start, turn by turn, and how it went.
unfoldable pub image_trace : List ℕ → List ℕ → ℕ → PlainTrace
image_trace s script budget = trace_from (cell_acts s) (cell_count s) budget 0 (events script) (start_machine (start_values s))

unfoldable pub image_course : List ℕ → List ℕ → ℕ → Course
image_course s script budget = run_from (cell_acts s) (cell_count s) budget 0 (events script) (start_machine (start_values s))
