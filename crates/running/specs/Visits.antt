-- Document 01, "One turn": the places of a run, which are the next cell at each turn that is taken.
-- Assumes nothing.
use mathlib.Core.List.{List, ◌++◌, flat_map}
use Rattle.std.specs.Prelude.{ℕ, length, drop}
use Rattle.numbers.specs.Bytes.{bytes}
use Rattle.image.specs.Layout.{cell_count, start_values}
use Rattle.machine.specs.Turn.{start_machine}
use Rattle.events.specs.Events.{events}
use Rattle.machine.specs.Run.{visits_from}
use Rattle.running.specs.Courses.{cell_acts}

-- Turn 6, Variables 3: the places of an image's run from its start.
unfoldable pub image_visits : List ℕ → List ℕ → ℕ → List ℕ
image_visits s script budget = visits_from (cell_acts s) (cell_count s) budget 0 (events script) (start_machine (start_values s))

-- Image 2: places as bytes, two for each, the lowest first.
unfoldable pub visit_bytes : List ℕ → List ℕ
visit_bytes places = flat_map (bytes 2) places

-- The bytes of places over what a buffer held.
unfoldable pub visits_over : List ℕ → List ℕ → List ℕ
visits_over places buffer = visit_bytes places ++ drop (length (visit_bytes places)) buffer
