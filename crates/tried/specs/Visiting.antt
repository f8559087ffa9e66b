-- Demand 3 as a promise of running code: the places of a text's run, by the text's own run alone.
-- Assumes nothing.
use Rattle.std.specs.Prelude.{◌≡◌, Bool, cond, ◌||◌, List, ℕ, ◌*◌, eqb, ltb, length}
use Rattle.text.specs.Forms.{Line}
use Rattle.text.specs.Faults.{said, how_many, makes_cell}
use Rattle.translation.specs.Places.{starts}
use Rattle.machine.specs.Turn.{start_machine}
use Rattle.events.specs.Events.{events, bad_script, bad_events}
use Rattle.machine.specs.Run.{visits_from}
use Rattle.running.specs.Visits.{visits_over}
use Rattle.bench.specs.Translating.{translated, translated_into}
use Rattle.bench.specs.Running.{big_budget}
use Rattle.bench.specs.Following.{line_acts}

-- Turn 6, Text 9: the places of the text's own run, one for each turn: how many cell lines stand before the line that the turn takes.
unfoldable pub lines_visits : List Line → List ℕ → ℕ → List ℕ
lines_visits text script budget = visits_from (line_acts text) (how_many makes_cell text) budget 0 (events script) (start_machine (starts text))

unfoldable pub text_visits : List ℕ → List ℕ → ℕ → List ℕ
text_visits text script budget = lines_visits (said text) script budget

-- Refusals 16 to 18: a bad script, a bad event, a budget too big; or fewer than two bytes of room for a turn.
unfoldable pub visit_refused : List ℕ → ℕ → ℕ → Bool
visit_refused script budget size = bad_script script || (bad_events script || (big_budget budget || ltb size (2 * budget)))

-- How many turns the text's run takes; 0 where the text or anything else is refused.
unfoldable pub visited_turns : List ℕ → ℕ → List ℕ → ℕ → ℕ → ℕ
visited_turns text room script budget size =
    cond (eqb (translated text room).number 0)
    (cond (visit_refused script budget size) 0 (length (text_visits text script budget)))
    0

-- The places of the text's run over what the buffer held; as it was where anything is refused.
unfoldable pub visited_into : List ℕ → ℕ → List ℕ → ℕ → List ℕ → List ℕ
visited_into text room script budget buffer =
    cond (eqb (translated text room).number 0)
    (cond (visit_refused script budget (length buffer)) buffer (visits_over (text_visits text script budget) buffer))
    buffer

-- Visiting a text with an image buffer and a buffer for places that held these.
pub record Visited (text room script : List ℕ) (budget : ℕ) (buffer : List ℕ) (answer : ℕ) (image visits : List ℕ) : Type 0 where
  pub answers : answer ≡ visited_turns text (length room) script budget (length buffer)
  pub leaves_image : image ≡ translated_into text room
  pub leaves_visits : visits ≡ visited_into text (length room) script budget buffer
