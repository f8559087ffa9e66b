-- What the customer accepts on: demands 1 to 3, each over the calls that it speaks of. Whatever calls are given, a demand holds of them or it does not.
-- Assumes nothing.
use Rattle.std.specs.Prelude.{◌≡◌, true, false, List, ◌++◌, ◌↔◌, ℕ, ◌+◌, ◌*◌, ◌≤◌, ◌<◌, length, take, drop}
use Rattle.numbers.specs.Bytes.{Bytes}
use Rattle.numbers.specs.Tests.{Lowest, NoRow}
use Rattle.text.specs.Faults.{overlong, faults_of}
use Rattle.image.specs.Check.{image_faults}
use Rattle.events.specs.Events.{bad_script, bad_event, bad_events, event_count}
use Rattle.machine.specs.Run.{over}
use Rattle.running.specs.Courses.{image_course}
use Rattle.translation.specs.Images.{image, accepted}
use Rattle.bench.specs.Translating.{answered, translated, translated_into}
use Rattle.bench.specs.Answers.{ran_as, refused_as}
use Rattle.bench.specs.Running.{checked_as, run_faults, ran, ran_into}
use Rattle.bench.specs.Following.{followed, followed_into}
use Rattle.bench.specs.declared.Translated.{Translated}
use Rattle.bench.specs.declared.Checked.{Checked}
use Rattle.bench.specs.declared.Ran.{Ran}

-- What translating gives: the answer, and the image buffer as the call leaves it. It is given a text and a buffer.
pub record Translation : Type 0 where
  pub answer : Translated
  pub image : List ℕ

abbrev pub Translate : Type 0
Translate = List ℕ → List ℕ → Translation

-- Checking is given an image.
abbrev pub Check : Type 0
Check = List ℕ → Checked

-- What running gives: the answer, and the record buffer as the call leaves it. It is given an image, a script of events, a budget of turns and a buffer.
pub record Outcome : Type 0 where
  pub answer : Ran
  pub records : List ℕ

abbrev pub Run : Type 0
Run = List ℕ → List ℕ → ℕ → List ℕ → Outcome

-- The bytes of the image that translating gives: as many of the buffer's first as the answer says.
abbrev pub given : Translation → List ℕ
given t = take t.answer.length t.image

-- Row k of the faults, from 0, is the lowest that holds for line l of a text, from 1, and no row holds for a line before it; none holds for any line.
abbrev pub FirstFault : List ℕ → ℕ → ℕ → Type 0
FirstFault text k l = Lowest (faults_of text l) k × ((j : ℕ) → j < l → NoRow (faults_of text j))

abbrev pub NoFault : List ℕ → Type 0
NoFault text = (l : ℕ) → NoRow (faults_of text l)

-- Event i of a script, from 0, is bad and none before it is.
abbrev pub FirstBad : List ℕ → ℕ → Type 0
FirstBad script i = (i < event_count script) × (bad_event script i ≡ true) × ((j : ℕ) → j < i → bad_event script j ≡ false)

-- Demand 1 for one text and one image buffer.
pub record TextRefused (text buffer : List ℕ) (t : Translation) : Type 0 where
  -- Refusals 1, Refusals 20: 1 exactly if the text is over 16,384 bytes.
  pub number_1 : (t.answer.number ≡ 1) ↔ (overlong text ≡ true)
  -- Refusals 2 to 9, Refusals 20: else 2 and up, to 9, with line l exactly if that row of the table is the lowest that holds for l, and none holds above l.
  pub faulty : (k l : ℕ) → k < 8
      → ((t.answer.number ≡ 2 + k) × (t.answer.line ≡ l)) ↔ ((overlong text ≡ false) × FirstFault text k l)
  -- Refusals 10, Refusals 20: else 10 exactly if the buffer is shorter than the image.
  pub number_10 : (t.answer.number ≡ 10) ↔ ((overlong text ≡ false) × NoFault text × (length buffer < length (image text)))
  -- Refusals 25: 0 exactly if none of these holds.
  pub number_0 : (t.answer.number ≡ 0) ↔ ((overlong text ≡ false) × NoFault text × (length (image text) ≤ length buffer))
  -- Refusals 22, Refusals 25: the line is 0 for 1, 10 and 0.
  pub line_1 : t.answer.number ≡ 1 → t.answer.line ≡ 0
  pub line_10 : t.answer.number ≡ 10 → t.answer.line ≡ 0
  pub line_0 : t.answer.number ≡ 0 → t.answer.line ≡ 0
  -- Refusals 22, Refusals 25: the length is 0 where the text is refused, and else the image's.
  pub length_refused : (t.answer.number ≡ 0 → ⊥) → t.answer.length ≡ 0
  pub length_accepted : t.answer.number ≡ 0 → t.answer.length ≡ length (image text)
  -- Refusals 24: a refused call leaves the buffer as it was.
  pub buffer_refused : (t.answer.number ≡ 0 → ⊥) → t.image ≡ buffer

-- Demand 1 for one image.
pub record ImageRefused (s : List ℕ) (c : Checked) : Type 0 where
  -- Refusals 11 to 15, Refusals 23: 21 and up exactly if that row of the table holds and no lower one.
  pub refused : (k : ℕ) → (c.number ≡ 21 + k) ↔ Lowest (image_faults s) k
  -- Refusals 25: 0 exactly if none does.
  pub none : (c.number ≡ 0) ↔ NoRow (image_faults s)

-- Demand 1 for one image, script, budget and record buffer.
pub record RunRefused (s script : List ℕ) (budget : ℕ) (buffer : List ℕ) (o : Outcome) : Type 0 where
  -- Refusals 11 to 15, Refusals 23: 21 to 25 exactly as for checking.
  pub image_refused : (k : ℕ) → k < 5 → (o.answer.number ≡ 21 + k) ↔ Lowest (image_faults s) k
  -- Refusals 16 to 19, Refusals 23: 32 and up exactly if the image is accepted, that row of the table holds and no lower one.
  pub run_refused : (k : ℕ) → (o.answer.number ≡ 32 + k) ↔ (NoRow (image_faults s) × Lowest (run_faults script budget (length buffer)) k)
  -- Refusals 25: 0 exactly if no row of either holds.
  pub none : (o.answer.number ≡ 0) ↔ (NoRow (image_faults s) × NoRow (run_faults script budget (length buffer)))
  -- Refusals 23: 33 gives the index of the first bad event, and no other.
  pub event : o.answer.number ≡ 33 → (i : ℕ) → (o.answer.index ≡ i) ↔ FirstBad script i
  -- Refusals 23, Refusals 25: every other number, 0 too, has the index 0.
  pub no_event : (o.answer.number ≡ 33 → ⊥) → o.answer.index ≡ 0
  -- Refusals 23: a refused run tells no more than that; every other number in its answer and in its state is 0.
  pub rest_refused : (o.answer.number ≡ 0 → ⊥) → o.answer ≡ refused_as o.answer.number o.answer.index
  -- Refusals 24: a refused call leaves the buffer as it was.
  pub buffer_refused : (o.answer.number ≡ 0 → ⊥) → o.records ≡ buffer

-- Demand 1: whatever a call is given, and whatever room it is lent, there is one answer. It is a refusal's number exactly where that refusal's test holds
-- and no test in front of it does; and then what was lent comes back unchanged.
pub record Demand1 (translate : Translate) (check : Check) (run : Run) : Type 0 where
  pub translating : (text buffer : List ℕ) → TextRefused text buffer (translate text buffer)
  pub checking : (s : List ℕ) → ImageRefused s (check s)
  pub running : (s script : List ℕ) (budget : ℕ) (buffer : List ℕ) → RunRefused s script budget buffer (run s script budget buffer)

-- Translating turns the text into these bytes, in any buffer with room for them.
abbrev pub TurnsInto : Translate → List ℕ → List ℕ → Type 0
TurnsInto translate text s =
    (buffer : List ℕ) → length s ≤ length buffer
    → ((translate text buffer).answer.number ≡ 0) × ((translate text buffer).answer.length ≡ length s) × (take (length s) (translate text buffer).image ≡ s)

-- Demand 2: a good text is turned into its one image, as document 01 lays the bytes out. The images that pass the check are those that such texts give,
-- and no others. In a run of one each turn does what the paper has its statement do.
pub record Demand2 (translate : Translate) (check : Check) (run : Run) : Type 0 where
  -- Image 1 to 14, Refusals 25: an accepted text, in any buffer with room, is answered by 0, 0 and the image's length;
  -- the buffer holds the image and behind it what stood there.
  pub laid_out : (text buffer : List ℕ) → accepted text ≡ true → length (image text) ≤ length buffer
      → translate text buffer ≡ record { answer = answered 0 0 (length (image text)); image = image text ++ drop (length (image text)) buffer }
  -- And checking accepts that image.
  pub taken : (text : List ℕ) → accepted text ≡ true → (check (image text)).number ≡ 0
  -- Refusals 11 to 15, Refusals 26, Refusals 27: any bytes are accepted as an image exactly if translating turns some accepted text into them.
  pub from_text : (s : List ℕ) → Bytes s
      → ((check s).number ≡ 0) ↔ ((text : List ℕ) × Bytes text × (accepted text ≡ true) × TurnsInto translate text s)
  -- Turn 1 to 25, Events 1 to 8: an accepted image, on an accepted script, with a budget up to 4,096 and room for the records, goes the course that the
  -- one definition of a turn gives, and answers and records just that.
  pub turn_by_turn : (s script : List ℕ) (budget : ℕ) (buffer : List ℕ)
      → (check s).number ≡ 0 → bad_script script ≡ false → bad_events script ≡ false → budget ≤ 4096 → 12 * budget ≤ length buffer
      → run s script budget buffer ≡ record { answer = ran_as (image_course s script budget); records = over (image_course s script budget) buffer }

-- Demand 3: let text and script be good, the turns at most 4,096, and both buffers long enough, whatever they hold. Then the run of the image that
-- translating gives is the text's own run, in one equation: why it ends, after how many turns, each byte of its records, and the state at its end
-- (Text 9, Events 7, Events 8).
pub record Demand3 (translate : Translate) (run : Run) : Type 0 where
  pub one_thing : (text room script : List ℕ) (budget : ℕ) (buffer : List ℕ)
      → accepted text ≡ true → length (image text) ≤ length room
      → bad_script script ≡ false → bad_events script ≡ false → budget ≤ 4096 → 12 * budget ≤ length buffer
      → run (given (translate text room)) script budget buffer ≡ record { answer = followed text script budget; records = followed_into text script budget buffer }

-- The bench's own calls, as its promises (Calls.antt) give them.
abbrev pub our_translate : Translate
our_translate text buffer = record { answer = translated text (length buffer); image = translated_into text buffer }

abbrev pub our_check : Check
our_check s = checked_as s

abbrev pub our_run : Run
our_run s script budget buffer = record { answer = ran s script budget (length buffer); records = ran_into s script budget buffer }
