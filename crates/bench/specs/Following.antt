-- Document 01, "Text", and demand 3: a text followed line by line, each name looked up when it is needed. No cell, no image.
-- Assumes nothing.
use Rattle.std.specs.Prelude.{List, ℕ}
use Rattle.text.specs.Forms.{Line}
use Rattle.text.specs.Faults.{said, how_many, makes_cell, place_of, number_of}
use Rattle.translation.specs.Places.{line_at, starts}
use Rattle.effects.specs.Deeds.{Deed, deed}
use Rattle.machine.specs.declared.Machine.{Machine}
use Rattle.machine.specs.Turn.{start_machine}
use Rattle.events.specs.Events.{events}
use Rattle.machine.specs.Run.{PlainTrace, Course, trace_from, run_from, over}
use Rattle.bench.specs.Answers.{ran_as}
use Rattle.bench.specs.declared.Ran.{Ran}

-- Turn 7: what the line at the machine's next place does; a label's place and a variable's number are found by name.
unfoldable pub line_acts : List Line → Machine → Deed
line_acts text m = deed (place_of text) (number_of text) m.variables m.places.kept m.hold (line_at text m.next)

-- Turn 6, Text 9: the text's own run from its start, turn by turn, and how it went.
unfoldable pub lines_trace : List Line → List ℕ → ℕ → PlainTrace
lines_trace text script budget = trace_from (line_acts text) (how_many makes_cell text) budget 0 (events script) (start_machine (starts text))

unfoldable pub text_trace : List ℕ → List ℕ → ℕ → PlainTrace
text_trace text script budget = lines_trace (said text) script budget

unfoldable pub lines_course : List Line → List ℕ → ℕ → Course
lines_course text script budget = run_from (line_acts text) (how_many makes_cell text) budget 0 (events script) (start_machine (starts text))

unfoldable pub text_course : List ℕ → List ℕ → ℕ → Course
text_course text script budget = lines_course (said text) script budget

-- Events 7, Events 8: its answer, and its records over what a buffer held.
unfoldable pub followed : List ℕ → List ℕ → ℕ → Ran
followed text script budget = ran_as (text_course text script budget)

unfoldable pub followed_into : List ℕ → List ℕ → ℕ → List ℕ → List ℕ
followed_into text script budget buffer = over (text_course text script budget) buffer
