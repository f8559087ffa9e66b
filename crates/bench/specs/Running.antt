-- Document 01, "Events and records" and "Refusal numbers": the run of an image, and its answer.
-- Assumes nothing.
use Rattle.std.specs.Prelude.{Bool, cond, List, [], ◌∷◌, ℕ, ◌*◌, eqb, ltb, length, Result, Ok, Err}
use Rattle.numbers.specs.Tests.{lowest}
use Rattle.image.specs.Check.{checked}
use Rattle.events.specs.Events.{bad_script, bad_events, first_bad_event}
use Rattle.machine.specs.Run.{over}
use Rattle.running.specs.Courses.{image_course}
use Rattle.bench.specs.declared.Checked.{Checked}
use Rattle.bench.specs.declared.Ran.{Ran}
use Rattle.bench.specs.declared.Refusal.{Refusal}
use Rattle.bench.specs.declared.Refusal.TheVariants.{Image, BadScript, BadEvent, BigBudget, SmallRoom}
use Rattle.checking.specs.Code as Checking
use Rattle.bench.specs.Answers.{ran_as, refused_as}

-- Refusals 11 to 15, Refusals 23: the answer to checking.
unfoldable pub checked_as : List ℕ → Checked
checked_as s = record { number = checked s }

-- Refusals 18.
unfoldable pub big_budget : ℕ → Bool
big_budget budget = ltb 4096 budget

-- Refusals 19: a record buffer of this size has no room for a record in every turn.
unfoldable pub small_room : ℕ → ℕ → Bool
small_room budget room = ltb room (12 * budget)

-- The rows 32 to 35.
unfoldable pub run_faults : List ℕ → ℕ → ℕ → List Bool
run_faults script budget room = bad_script script ∷ bad_events script ∷ big_budget budget ∷ small_room budget room ∷ []

-- Refusals 23: the lowest of 21 to 25 and 32 to 35 that holds; 0 where none does.
unfoldable pub run_refusal : List ℕ → List ℕ → ℕ → ℕ → ℕ
run_refusal s script budget room = cond (eqb (checked s) 0) (lowest 32 (run_faults script budget room)) (checked s)

-- Refusals 23: with 33 comes the place of the first bad event in the script.
unfoldable pub refusal_index : ℕ → List ℕ → ℕ
refusal_index number script = cond (eqb number 33) (first_bad_event script) 0

-- Refusals 16 to 19: the same rows, where each turn takes so many bytes of the room.
abbrev pub faults_with : List ℕ → ℕ → ℕ → ℕ → List Bool
faults_with script budget room size = bad_script script ∷ bad_events script ∷ big_budget budget ∷ ltb room (size * budget) ∷ []

-- Refusals 23, Forms 13: a refusal by its number, and the index beside it.
unfoldable pub number_of : Refusal → ℕ
number_of (Image refusal) = Checking.number_of refusal
number_of BadScript = 32
number_of (BadEvent index) = 33
number_of BigBudget = 34
number_of SmallRoom = 35

unfoldable pub index_of : Refusal → ℕ
index_of (Image refusal) = 0
index_of BadScript = 0
index_of (BadEvent index) = index
index_of BigBudget = 0
index_of SmallRoom = 0

-- Refusals 23: the same of what may be refused: both are 0 where nothing is.
unfoldable pub told_number : Result (Unit {0}) Refusal → ℕ
told_number (Ok u) = 0
told_number (Err refusal) = number_of refusal

unfoldable pub told_index : Result (Unit {0}) Refusal → ℕ
told_index (Ok u) = 0
told_index (Err refusal) = index_of refusal

-- Events 7, Refusals 23: the whole answer.
unfoldable pub ran : List ℕ → List ℕ → ℕ → ℕ → Ran
ran s script budget room =
    let course = ran_as (image_course s script budget) in
    let refused = refused_as (run_refusal s script budget room) (refusal_index (run_refusal s script budget room) script) in
    cond (eqb (run_refusal s script budget room) 0) course refused

-- Events 8, Refusals 24: what the record buffer holds after a run.
unfoldable pub ran_into : List ℕ → List ℕ → ℕ → List ℕ → List ℕ
ran_into s script budget buffer =
    let written = over (image_course s script budget) buffer in
    cond (eqb (run_refusal s script budget (length buffer)) 0) written buffer
