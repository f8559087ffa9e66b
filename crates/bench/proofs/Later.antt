-- Events that come after a run change neither its answer nor the record buffer; nor the answer of a text's own run.
-- Assumes nothing.
use mathlib.Core.Path.{◌≡◌, sym, ap, ◌∙◌}
use mathlib.Core.Bool.{false, not}
use mathlib.Core.List.{List, ◌++◌}
use Prim.Native.Nat.{ℕ, ◌%◌}
use borrow.Author.Tests.{not-false, eqb-true}
use lib.Dec.{T, eqb, leb, ltb}
use lib.ListN.{length}
use Rattle.numbers.proofs.Truth.{neither}
use Rattle.numbers.specs.Tests.{all_of}
use Rattle.image.specs.Layout.{cell_count, start_values}
use Rattle.text.specs.Faults.{said, how_many, makes_cell}
use Rattle.translation.specs.Places.{starts}
use Rattle.events.specs.declared.Event.{Event}
use Rattle.machine.specs.Turn.{start_machine}
use Rattle.events.specs.Events.{event_count, events, bad_script}
use Rattle.running.specs.Courses.{cell_acts, image_course}
use Rattle.rules.proofs.Scripts.{later_bytes_unused}
use Rattle.bench.specs.Answers.{ran_as}
use Rattle.bench.specs.Running.{run_faults, run_refusal, ran, ran_into}
use Rattle.bench.specs.Following.{line_acts, lines_course, text_course, followed}
use Rattle.bench.proofs.Demands.{ran_number, run_refused}

-- Refusals 16: a script that is not bad is in twelves.
whole : (script : List ℕ) → bad_script script ≡ false → length script % 12 ≡ 0
unfolding bad_script
whole script e =
    eqb-true (length script % 12) 0 (not-false (eqb (length script % 12) 0) (neither (not (eqb (length script % 12) 0)) (ltb 4096 (event_count script)) e).0)

-- Events 3: more behind a script, both accepted, changes neither answer nor buffer, where each event of it is at or after the turns that the run took.
pub later_answer : (s script more : List ℕ) (budget : ℕ) (buffer : List ℕ)
    → (ran s script budget (length buffer)).number ≡ 0 → (ran s (script ++ more) budget (length buffer)).number ≡ 0
    → T (all_of (λ (e : Event). leb (ran s script budget (length buffer)).turns e.turn) (events more))
    → (ran s (script ++ more) budget (length buffer) ≡ ran s script budget (length buffer)) × (ran_into s (script ++ more) budget buffer ≡ ran_into s script budget buffer)
unfolding ran ran_into ran_as run_faults image_course
later_answer s script more budget buffer e f late =
    let n : run_refusal s script budget (length buffer) ≡ 0 = sym (ran_number s script budget buffer) ∙ e in
    let o : run_refusal s (script ++ more) budget (length buffer) ≡ 0 = sym (ran_number s (script ++ more) budget buffer) ∙ f in
    let l = rw n at late in
    let c : image_course s (script ++ more) budget ≡ image_course s script budget =
    later_bytes_unused script more (whole script (((run_refused s script budget buffer).none.0 e).1 0))
    (cell_acts s) (cell_count s) budget 0 (start_machine (start_values s)) l in
    (rw (n, o, c), rw (n, o, c))

-- Events 3: the same of the text's own run.
pub later_followed : (text script more : List ℕ) (budget : ℕ) → length script % 12 ≡ 0
    → T (all_of (λ (e : Event). leb (followed text script budget).turns e.turn) (events more))
    → followed text (script ++ more) budget ≡ followed text script budget
unfolding followed ran_as text_course lines_course
later_followed text script more budget w late =
    ap ran_as (later_bytes_unused script more w (line_acts (said text)) (how_many makes_cell (said text)) budget 0 (start_machine (starts (said text))) late)
