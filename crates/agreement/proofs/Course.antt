-- Demand 3: the run of an accepted text's image is the run of the text, followed line by line, turn for turn.
-- Assumes nothing.
use mathlib.Core.Path.{◌≡◌, ap, ap₂, ◌∙◌}
use mathlib.Core.Bool.{true}
use mathlib.Core.List.{List}
use Prim.Native.Nat.{ℕ, ◌<◌}
use native.Mathlib.Omega.{arith}
use Rattle.program.specs.Names.{Name}
use Rattle.program.specs.Cells.{no_target, same, statement_of}
use Rattle.text.specs.Forms.{Line}
use Rattle.text.specs.Faults.{said, how_many, makes_cell, place_of, number_of}
use Rattle.image.specs.Layout.{cell_count, cell_at, start_values}
use Rattle.effects.specs.Deeds.{Deed, deed}
use Rattle.machine.specs.declared.Machine.{Machine}
use Rattle.events.specs.declared.Event.{Event}
use Rattle.machine.specs.Turn.{start_machine}
use Rattle.machine.specs.Run.{plain, course_of, places_of, trace_from, run_from, visits_from}
use Rattle.machine.proofs.Quiet.{happens_next}
use Rattle.machine.proofs.Traces.{trace_same}
use Rattle.translation.specs.Images.{image_of, image, accepted}
use Rattle.translation.specs.Places.{line_at, starts}
use Rattle.agreement.proofs.Meaning.{deed_cell}
use Rattle.agreement.proofs.Sound.{Fine, fine}
use Rattle.agreement.proofs.Records.{place_most, cell_count_lem, start_values_lem}
use Rattle.agreement.proofs.Cells.{cell_at_lem}

-- What the next cell of an image does, what the next line of a text does.
abbrev pub by_cell : List ℕ → Machine → Deed
by_cell s m = deed same same m.variables m.places.kept m.hold (statement_of (cell_at s m.next))

abbrev pub by_line : List Line → Machine → Deed
by_line xs m = deed (place_of xs) (number_of xs) m.variables m.places.kept m.hold (line_at xs m.next)

module _ (xs : List Line) (f : Fine xs) where
  -- no label has the place that stands for none
  place_far : (w : Name) → place_of xs w ≡ no_target → ⊥
  unfolding no_target
  place_far w e = let h = f.cells in omega (arith, place_most xs w)

  -- a cell does what its line does
  pub same_act : (m : Machine) → m.next < how_many makes_cell xs → by_cell (image_of xs) m ≡ by_line xs m
  same_act m h =
      ap (λ c. deed same same m.variables m.places.kept m.hold (statement_of c)) (cell_at_lem xs f m.next h)
      ∙ deed_cell (place_of xs) (number_of xs) m.variables m.places.kept m.hold place_far (line_at xs m.next)

  pub same_turns : (left t : ℕ) (es : List Event) (m : Machine)
      → trace_from (by_cell (image_of xs)) (cell_count (image_of xs)) left t es m ≡ trace_from (by_line xs) (how_many makes_cell xs) left t es m
  same_turns left t es m =
      ap (λ (n : ℕ). trace_from (by_cell (image_of xs)) n left t es m) (cell_count_lem xs f)
      ∙ trace_same plain happens_next (by_cell (image_of xs)) (by_line xs) (how_many makes_cell xs) same_act left t es m

-- An accepted text and its image: one run from any machine, turn by turn, one machine to start from, and so one course.
module _ (text : List ℕ) (ok : accepted text ≡ true) where
  pub same_trace : (left t : ℕ) (es : List Event) (m : Machine)
      → trace_from (by_cell (image text)) (cell_count (image text)) left t es m ≡ trace_from (by_line (said text)) (how_many makes_cell (said text)) left t es m
  unfolding image
  same_trace left t es m = same_turns (said text) (fine text ok) left t es m

  pub same_from : (left t : ℕ) (es : List Event) (m : Machine)
      → run_from (by_cell (image text)) (cell_count (image text)) left t es m ≡ run_from (by_line (said text)) (how_many makes_cell (said text)) left t es m
  same_from left t es m = ap (course_of plain t m) (same_trace left t es m)

  pub same_start : start_machine (start_values (image text)) ≡ start_machine (starts (said text))
  unfolding image
  same_start = ap start_machine (start_values_lem (said text) (fine text ok))

  -- step for step, from the start
  pub same_steps : (budget : ℕ) (es : List Event)
      → trace_from (by_cell (image text)) (cell_count (image text)) budget 0 es (start_machine (start_values (image text)))
      ≡ trace_from (by_line (said text)) (how_many makes_cell (said text)) budget 0 es (start_machine (starts (said text)))
  same_steps budget es =
      same_trace budget 0 es (start_machine (start_values (image text)))
      ∙ ap (trace_from (by_line (said text)) (how_many makes_cell (said text)) budget 0 es) same_start

  pub same_course : (budget : ℕ) (es : List Event)
      → run_from (by_cell (image text)) (cell_count (image text)) budget 0 es (start_machine (start_values (image text)))
      ≡ run_from (by_line (said text)) (how_many makes_cell (said text)) budget 0 es (start_machine (starts (said text)))
  same_course budget es = ap₂ (course_of plain 0) same_start (same_steps budget es)

  -- the turns of both go by the same places
  pub same_visits : (budget : ℕ) (es : List Event)
      → visits_from (by_cell (image text)) (cell_count (image text)) budget 0 es (start_machine (start_values (image text)))
      ≡ visits_from (by_line (said text)) (how_many makes_cell (said text)) budget 0 es (start_machine (starts (said text)))
  same_visits budget es = ap (places_of plain) (same_steps budget es)
