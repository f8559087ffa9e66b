-- Impostors: calls that a loose statement would let through, each shown to break the demand named for it (Tight 4), whatever the parts are that it leaves free.
-- Assumes nothing.
use mathlib.Core.Path.{◌≡◌, refl, sym, ap, ◌∙◌}
use mathlib.Core.Bool.{true, false}
use mathlib.Core.List.{List, [], ◌∷◌, ◌++◌, flat_map}
use Prim.Native.Nat.{ℕ, ◌-◌, ◌≤◌}
use native.Mathlib.Omega.{arith}
use lib.ListN.{length, take, drop, get_or, set, replicate}
use lib.Seq.{take_at}
use Rattle.numbers.specs.Bits as Bits
use Rattle.numbers.specs.Bytes as B
use Rattle.numbers.specs.Tests as Tests
use Rattle.program.specs.Cells as Cells
use Rattle.program.specs.Statements as Statements
use Rattle.program.specs.Variables as Variables
use Rattle.image.specs.Check as Check
use Rattle.image.specs.Check.{checked}
use Rattle.image.specs.Layout as Layout
use Rattle.effects.specs.Effects as Effects
use Rattle.effects.specs.Deeds as Deeds
use Rattle.events.specs.Events as Events
use Rattle.machine.specs.Happens as Happens
use Rattle.events.specs.Events.{bad_script, bad_events}
use Rattle.machine.specs.Run as R
use Rattle.machine.specs.Turn as Turn
use Rattle.running.specs.Courses as Courses
use Rattle.running.specs.Courses.{image_course}
use Rattle.machine.specs.Run.{over}
use Rattle.translation.specs.Images.{image, accepted}
use Rattle.refusals.proofs.First.{first_none}
use Rattle.agreement.proofs.Checked.{image_checked, image_most}
use Rattle.bench.specs.Translating.{answered, translated, translated_into}
use Rattle.bench.specs.Answers as Answers
use Rattle.bench.specs.Running as Running
use Rattle.bench.specs.Answers.{state_of, ran_as}
use Rattle.bench.specs.Running.{checked_as, ran, ran_into}
use Rattle.bench.specs.Following.{followed}
use Rattle.bench.specs.Calls.{Translates, Checks, Runs}
use Rattle.bench.specs.declared.Translated.{Translated}
use Rattle.bench.specs.declared.Checked.{Checked}
use Rattle.bench.specs.declared.State.{State}
use Rattle.bench.specs.declared.Ran.{Ran}
use Rattle.bench.specs.Demands.{Translation, Translate, Check, Outcome, Run, given, Demand2, Demand3, our_run}
use Rattle.bench.specs.Sheet.{fresh, feeder, feeder_image, feeder_records, two_arrivals, trailer0, sheet_holds}
use Rattle.bench.proofs.Demands.{sound_accepted, text_refused, translated_fits, into_fits, run_accepted}

-- What a row of the sheet says of its text: it is accepted, and this is its image.
pub row_accepted : (text : List ℕ) (n : ℕ) → translated text 128 ≡ answered 0 0 n → accepted text ≡ true
row_accepted text n e =
    let c = (text_refused text (fresh 128)).number_0.0 (ap (λ (a : Translated). a.number) e) in
    sound_accepted text c.0 ((first_none text).1 c.1)

pub row_room : (text : List ℕ) (n : ℕ) → translated text 128 ≡ answered 0 0 n → length (image text) ≤ 128
row_room text n e = ((text_refused text (fresh 128)).number_0.0 (ap (λ (a : Translated). a.number) e)).2

pub row_image : (text s : List ℕ) → translated text 128 ≡ answered 0 0 (length s) → translated_into text (fresh 128) ≡ s ++ fresh (128 - length s) → image text ≡ s
row_image text s e i =
    let ok = row_accepted text (length s) e in
    let room = row_room text (length s) e in
    let size : length (image text) ≡ length s = ap (λ (a : Translated). a.length) (sym (translated_fits text (fresh 128) ok room) ∙ e) in
    sym (take_at (image text) (drop (length (image text)) (fresh 128)) (length s) size)
    ∙ ap (take (length s)) (sym (into_fits text (fresh 128) ok room) ∙ i)
    ∙ take_at s (fresh (128 - length s)) (length s) refl

-- The feeder (row b), and the empty text (row d).
feeder_accepted : accepted feeder ≡ true
feeder_accepted = row_accepted feeder 116 sheet_holds.1.0.0

feeder_room : length (image feeder) ≤ 128
feeder_room = row_room feeder 116 sheet_holds.1.0.0

feeder_image_lem : image feeder ≡ feeder_image
feeder_image_lem = row_image feeder feeder_image sheet_holds.1.0.0 sheet_holds.1.0.1

empty_accepted : accepted [] ≡ true
empty_accepted = row_accepted [] 16 sheet_holds.1.1.1.0.0

empty_image : image [] ≡ trailer0
empty_image = row_image [] trailer0 sheet_holds.1.1.1.0.0 sheet_holds.1.1.1.0.1

script_whole : bad_script two_arrivals ≡ false
unfolding Events.bad_script Events.event_count
script_whole = refl

script_fine : bad_events two_arrivals ≡ false
unfolding Events.bad_events Events.bad_event Events.good_event Events.event_at Events.event_count B.field B.number Bits.signed32 Tests.any_below Tests.eq_z
script_fine = refl

-- No image is empty.
no_empty_image : (s : List ℕ) → length s ≡ 0 → checked s ≡ 0 → ⊥
unfolding Check.checked Check.image_faults Check.bad_length Tests.lowest
no_empty_image [] h e = absurd (omega arith)
no_empty_image (x ∷ s) h e = absurd (omega arith)

-- A translator that takes no text, with any number, line and buffer: shut out by demand 2's layout, at the empty text.
pub refuses_all : (translate : Translate) (check : Check) (run : Run)
    → ((text buffer : List ℕ) → (translate text buffer).answer.number ≡ 0 → ⊥) → Demand2 translate check run → ⊥
refuses_all translate check run refuses d =
    refuses [] (fresh 128) (ap (λ (t : Translation). t.answer.number)
    (d.laid_out [] (fresh 128) empty_accepted (row_room [] 16 sheet_holds.1.1.1.0.0)))

-- A translator that takes every text and gives each the image of the empty text (row d), in every buffer that has room for it, with any line.
abbrev GivesEmpty : Translate → Type 0
GivesEmpty translate =
    (text buffer : List ℕ) → 16 ≤ length buffer → ((translate text buffer).answer.number ≡ 0) × (given (translate text buffer) ≡ image [])

-- Shut out by demand 2's layout, at the feeder, whose image has 116 bytes and not 16.
pub empty_image_for_all : (translate : Translate) (check : Check) (run : Run) → GivesEmpty translate → Demand2 translate check run → ⊥
empty_image_for_all translate check run empty d =
    let laid : given (translate feeder (fresh 128)) ≡ image feeder =
    ap given (d.laid_out feeder (fresh 128) feeder_accepted feeder_room)
    ∙ take_at (image feeder) (drop (length (image feeder)) (fresh 128)) (length (image feeder)) refl in
    let z : ◌≡◌ {A = ℕ} 116 16 =
    ap length (sym feeder_image_lem ∙ sym laid ∙ (empty feeder (fresh 128) (omega arith)).1 ∙ empty_image) in
    omega arith

-- And by demand 3 with our own run, at the feeder: the empty image runs for no turn, the text for 13.
no_turns : (our_run (image []) two_arrivals 20 (fresh 240)).answer.turns ≡ 0
unfolding Answers.ran_as Courses.image_course Courses.cell_acts Layout.cell_count Layout.trailer_place B.field B.number R.trace_on R.finally R.course_of Turn.start_machine
no_turns =
    ap (λ (o : Outcome). o.answer.turns)
    (run_accepted (image []) two_arrivals 20 (fresh 240) (image_checked [] empty_accepted) script_whole script_fine (omega arith) (omega arith))
    ∙ ap (λ (s : List ℕ). (ran_as (image_course s two_arrivals 20)).turns) empty_image

pub empty_image_run : (translate : Translate) → GivesEmpty translate → Demand3 translate our_run → ⊥
empty_image_run translate empty d =
    let e = d.one_thing feeder (fresh 128) two_arrivals 20 (fresh 240) feeder_accepted feeder_room script_whole script_fine (omega arith) (omega arith) in
    let z : ◌≡◌ {A = ℕ} 0 13 =
    sym no_turns
    ∙ ap (λ (s : List ℕ). (our_run s two_arrivals 20 (fresh 240)).answer.turns) (sym (empty feeder (fresh 128) (omega arith)).1)
    ∙ ap (λ (o : Outcome). o.answer.turns) e
    ∙ ap (λ (a : Ran). a.turns) sheet_holds.1.0.2.0.2 in
    omega arith

-- A translator that gives no text any bytes, with any number, line and buffer: by demand 2, at the empty text.
pub no_image : (translate : Translate) (check : Check) (run : Run)
    → ((text buffer : List ℕ) → (translate text buffer).answer.length ≡ 0) → Demand2 translate check run → ⊥
no_image translate check run empty d =
    let e : (translate [] (fresh 128)).answer.length ≡ length (image []) =
    ap (λ (t : Translation). t.answer.length) (d.laid_out [] (fresh 128) empty_accepted (row_room [] 16 sheet_holds.1.1.1.0.0)) in
    no_empty_image (image []) (sym e ∙ empty [] (fresh 128)) (image_checked [] empty_accepted)

-- And by demand 3, with the bench's own run: the text's own run is not refused.
pub no_image_run : (translate : Translate) → ((text buffer : List ℕ) → (translate text buffer).answer.length ≡ 0) → Demand3 translate our_run → ⊥
unfolding Running.ran Running.run_refusal Answers.refused_as Answers.ran_as Running.refusal_index followed Check.checked Check.image_faults Check.bad_length Tests.lowest Events.bad_script Events.event_count Events.bad_events Tests.any_below
no_image_run translate empty d =
    let e = d.one_thing [] (fresh 128) [] 0 [] empty_accepted (row_room [] 16 sheet_holds.1.1.1.0.0) refl refl (omega arith) (omega arith) in
    let nothing : given (translate [] (fresh 128)) ≡ [] = rw (empty [] (fresh 128)) refl in
    let z : ◌≡◌ {A = ℕ} 21 0 = ap (λ (o : Outcome). o.answer.number) (ap (λ (s : List ℕ). our_run s [] 0 []) (sym nothing) ∙ e) in
    omega arith

-- A checker that accepts any bytes: by demand 2, at the image of no bytes, which no accepted text gives.
pub takes_all : (translate : Translate) (check : Check) (run : Run) → ((s : List ℕ) → (check s).number ≡ 0) → Demand2 translate check run → ⊥
takes_all translate check run takes d =
    let c = (d.from_text [] (λ k. omega arith)).0 (takes []) in
    let buffer : List ℕ = replicate 5008 0 in
    let room : length (image c.0) ≤ length buffer = image_most c.0 c.2 in
    let e : (translate c.0 buffer).answer.length ≡ length (image c.0) = ap (λ (t : Translation). t.answer.length) (d.laid_out c.0 buffer c.2 room) in
    no_empty_image (image c.0) (sym e ∙ (c.3 buffer (omega arith)).1) (image_checked c.0 c.2)

-- What demand 2 fixes for a runner: on the feeder's image it gives what the sheet says, whatever translator and checker stand beside it.
module _ (translate : Translate) (check : Check) (run : Run) (d : Demand2 translate check run) where
  abbrev outcome : Outcome
  outcome = run (image feeder) two_arrivals 20 (fresh 240)

  feeder_run : outcome ≡ our_run (image feeder) two_arrivals 20 (fresh 240)
  feeder_run =
      d.turn_by_turn (image feeder) two_arrivals 20 (fresh 240) (d.taken feeder feeder_accepted) script_whole script_fine (omega arith) (omega arith)
      ∙ sym (run_accepted (image feeder) two_arrivals 20 (fresh 240) (image_checked feeder feeder_accepted) script_whole script_fine (omega arith) (omega arith))

  feeder_records_lem : outcome.records ≡ feeder_records ++ fresh 204
  feeder_records_lem =
      ap (λ (o : Outcome). o.records) feeder_run
      ∙ ap (λ (s : List ℕ). ran_into s two_arrivals 20 (fresh 240)) feeder_image_lem
      ∙ sheet_holds.1.0.2.0.1

  feeder_next : outcome.answer.state.next ≡ 6
  feeder_next =
      ap (λ (o : Outcome). o.answer.state.next) feeder_run
      ∙ ap (λ (s : List ℕ). (ran s two_arrivals 20 240).state.next) feeder_image_lem
      ∙ ap (λ (a : Ran). a.state.next) sheet_holds.1.0.2.0.0

-- A runner that leaves the record buffer alone, with any answer: by demand 2's turn rules, at the feeder.
pub writes_nothing : (translate : Translate) (check : Check) (run : Run)
    → ((s script : List ℕ) (budget : ℕ) (buffer : List ℕ) → (run s script budget buffer).records ≡ buffer) → Demand2 translate check run → ⊥
writes_nothing translate check run nothing d =
    let z : ◌≡◌ {A = ℕ} 170 0 = ap (λ (b : List ℕ). get_or b 0 0) (sym (nothing (image feeder) two_arrivals 20 (fresh 240)) ∙ feeder_records_lem translate check run d) in
    omega arith

-- The feeder's first turn, by computation: one record, and the next cell is 1.
one_turn_records : get_or (over (image_course feeder_image two_arrivals 1) (fresh 240)) 12 0 ≡ 170
unfolding Bits.digits32 Bits.signed32 Bits.each_digit Bits.on32 B.bytes B.number B.field Tests.eq_z Tests.listed Tests.all_of Tests.any_of Cells.no_target Cells.operator_number Cells.comparison_number Cells.operator_of Cells.comparison_of Cells.operand_of Cells.jump_of Cells.value_of Cells.condition_of Cells.hold_of Cells.statement_by Cells.statement_of Statements.operands Variables.range_of Variables.start_variables Variables.all_inputs Layout.operand_number Layout.trailer_place Layout.cell_count Layout.label_count Layout.variable_count Layout.operand_at Layout.cell_at Layout.label_place Layout.variable_place Layout.start_value Layout.start_values Layout.first_label_place Effects.read Effects.storing Effects.storing_result Effects.moving Effects.value Effects.effect Deeds.in_error Deeds.clears Deeds.is_er Deeds.reads_er Events.event_at Events.event_count Events.events Happens.happens Events.record_bytes flat_map R.reach_by R.trace_on R.finally R.course_of Turn.no_handler Turn.start_machine Turn.keep Turn.last_place Turn.moving_bit Turn.in_motion Turn.applied Turn.clearing Turn.turn Courses.cell_acts Courses.image_course R.over Answers.state_of
one_turn_records = refl

one_turn_next : (state_of (image_course feeder_image two_arrivals 1).machine).next ≡ 1
unfolding Bits.digits32 Bits.signed32 Bits.each_digit Bits.on32 B.bytes B.number B.field Tests.eq_z Tests.listed Tests.all_of Tests.any_of Cells.no_target Cells.operator_number Cells.comparison_number Cells.operator_of Cells.comparison_of Cells.operand_of Cells.jump_of Cells.value_of Cells.condition_of Cells.hold_of Cells.statement_by Cells.statement_of Statements.operands Variables.range_of Variables.start_variables Variables.all_inputs Layout.operand_number Layout.trailer_place Layout.cell_count Layout.label_count Layout.variable_count Layout.operand_at Layout.cell_at Layout.label_place Layout.variable_place Layout.start_value Layout.start_values Layout.first_label_place Effects.read Effects.storing Effects.storing_result Effects.moving Effects.value Effects.effect Deeds.in_error Deeds.clears Deeds.is_er Deeds.reads_er Events.event_at Events.event_count Events.events Happens.happens Events.record_bytes flat_map R.reach_by R.trace_on R.finally R.course_of Turn.no_handler Turn.start_machine Turn.keep Turn.last_place Turn.moving_bit Turn.in_motion Turn.applied Turn.clearing Turn.turn Courses.cell_acts Courses.image_course R.over Answers.state_of
one_turn_next = refl

-- A runner that takes the first turn and no other: the records of the first turn alone, with any answer; and the state after the first turn, with any records.
-- Both by demand 2's turn rules, at the feeder.
pub idles_records : (translate : Translate) (check : Check) (run : Run)
    → ((s script : List ℕ) (budget : ℕ) (buffer : List ℕ) → (run s script budget buffer).records ≡ over (image_course s script 1) buffer) → Demand2 translate check run → ⊥
idles_records translate check run idles d =
    let z : ◌≡◌ {A = ℕ} 170 6 =
    sym one_turn_records
    ∙ ap (λ (s : List ℕ). get_or (over (image_course s two_arrivals 1) (fresh 240)) 12 0) (sym feeder_image_lem)
    ∙ ap (λ (b : List ℕ). get_or b 12 0) (sym (idles (image feeder) two_arrivals 20 (fresh 240)) ∙ feeder_records_lem translate check run d) in
    omega arith

pub idles_state : (translate : Translate) (check : Check) (run : Run)
    → ((s script : List ℕ) (budget : ℕ) (buffer : List ℕ) → (run s script budget buffer).answer.state ≡ state_of (image_course s script 1).machine)
    → Demand2 translate check run → ⊥
idles_state translate check run idles d =
    let z : ◌≡◌ {A = ℕ} 1 6 =
    sym one_turn_next
    ∙ ap (λ (s : List ℕ). (state_of (image_course s two_arrivals 1).machine).next) (sym feeder_image_lem)
    ∙ ap (λ (s : State). s.next) (sym (idles (image feeder) two_arrivals 20 (fresh 240)))
    ∙ feeder_next translate check run d in
    omega arith

-- What demand 3 fixes for a runner: on what the translator gives for the feeder, and for the empty text, the counts of the text's own run.
module _ (translate : Translate) (run : Run) (d : Demand3 translate run) where
  feeder_followed : (run (given (translate feeder (fresh 128))) two_arrivals 20 (fresh 240)).answer ≡ followed feeder two_arrivals 20
  feeder_followed =
      ap (λ (o : Outcome). o.answer)
      (d.one_thing feeder (fresh 128) two_arrivals 20 (fresh 240) feeder_accepted feeder_room script_whole script_fine (omega arith) (omega arith))

  pub feeder_turns : (run (given (translate feeder (fresh 128))) two_arrivals 20 (fresh 240)).answer.turns ≡ 13
  feeder_turns = ap (λ (a : Ran). a.turns) (feeder_followed ∙ sheet_holds.1.0.2.0.2)

  pub feeder_count : (run (given (translate feeder (fresh 128))) two_arrivals 20 (fresh 240)).answer.records ≡ 3
  feeder_count = ap (λ (a : Ran). a.records) (feeder_followed ∙ sheet_holds.1.0.2.0.2)

  empty_followed : (run (given (translate [] (fresh 128))) [] 0 []).answer ≡ followed [] [] 0
  unfolding Events.bad_script Events.event_count Events.bad_events Tests.any_below
  empty_followed =
      ap (λ (o : Outcome). o.answer)
      (d.one_thing [] (fresh 128) [] 0 [] empty_accepted (row_room [] 16 sheet_holds.1.1.1.0.0) refl refl (omega arith) (omega arith))

  pub empty_turns : (run (given (translate [] (fresh 128))) [] 0 []).answer.turns ≡ 0
  empty_turns = ap (λ (a : Ran). a.turns) (empty_followed ∙ sheet_holds.1.1.1.0.2.0.2)

  pub empty_count : (run (given (translate [] (fresh 128))) [] 0 []).answer.records ≡ 0
  empty_count = ap (λ (a : Ran). a.records) (empty_followed ∙ sheet_holds.1.1.1.0.2.0.2)

-- A runner with an invented number of turns, or of records: by demand 3, at the feeder, for any count but the right one; all else is free.
pub turns_invented : (translate : Translate) (run : Run) (n : ℕ) → (n ≡ 13 → ⊥)
    → (run (given (translate feeder (fresh 128))) two_arrivals 20 (fresh 240)).answer.turns ≡ n → Demand3 translate run → ⊥
turns_invented translate run n other e d = other (sym e ∙ feeder_turns translate run d)

pub records_invented : (translate : Translate) (run : Run) (n : ℕ) → (n ≡ 3 → ⊥)
    → (run (given (translate feeder (fresh 128))) two_arrivals 20 (fresh 240)).answer.records ≡ n → Demand3 translate run → ⊥
records_invented translate run n other e d = other (sym e ∙ feeder_count translate run d)

-- And one that gives the same count always, whichever it is.
pub turns_constant : (translate : Translate) (run : Run) (n : ℕ)
    → ((s script : List ℕ) (budget : ℕ) (buffer : List ℕ) → (run s script budget buffer).answer.turns ≡ n) → Demand3 translate run → ⊥
turns_constant translate run n same d =
    let a = sym (same (given (translate feeder (fresh 128))) two_arrivals 20 (fresh 240)) ∙ feeder_turns translate run d in
    let b = sym (same (given (translate [] (fresh 128))) [] 0 []) ∙ empty_turns translate run d in
    omega arith

pub records_constant : (translate : Translate) (run : Run) (n : ℕ)
    → ((s script : List ℕ) (budget : ℕ) (buffer : List ℕ) → (run s script budget buffer).answer.records ≡ n) → Demand3 translate run → ⊥
records_constant translate run n same d =
    let a = sym (same (given (translate feeder (fresh 128))) two_arrivals 20 (fresh 240)) ∙ feeder_count translate run d in
    let b = sym (same (given (translate [] (fresh 128))) [] 0 []) ∙ empty_count translate run d in
    omega arith

-- Wrong answers to each call, against its promise. Translating: the right image with a wrong length; the right answer with the buffer as it was;
-- a text that writes MV, accepted.
pub wrong_length : (n : ℕ) (after : List ℕ) → (n ≡ 116 → ⊥) → Translates feeder (fresh 128) (answered 0 0 n) after → ⊥
wrong_length n after other t = other (ap (λ (a : Translated). a.length) (t.answers ∙ sheet_holds.1.0.0))

pub image_unwritten : (a : Translated) → Translates feeder (fresh 128) a (fresh 128) → ⊥
image_unwritten a t = let z : ◌≡◌ {A = ℕ} 170 12 = ap (λ (b : List ℕ). get_or b 0 0) (t.leaves ∙ sheet_holds.1.0.1) in omega arith

pub written_mv : (line n : ℕ) (after : List ℕ) → Translates (B.ascii "MV=1") (fresh 128) (answered 0 line n) after → ⊥
written_mv line n after t = let z : ◌≡◌ {A = ℕ} 0 9 = ap (λ (a : Translated). a.number) (t.answers ∙ sheet_holds.1.1.1.1.1.1.1.1.1.0.0) in omega arith

-- Checking: an image of edition 2 accepted; the feeder's image refused.
pub other_edition : Checks (set trailer0 10 2) (record { number = 0 }) → ⊥
unfolding Running.checked_as Check.checked Check.image_faults Check.bad_length Check.bad_edition Layout.edition Layout.trailer_place B.field B.number Tests.lowest
other_edition c = let z : ◌≡◌ {A = ℕ} 0 22 = ap (λ (a : Checked). a.number) c.answers in omega arith

pub good_image_refused : (n : ℕ) → (n ≡ 0 → ⊥) → Checks feeder_image (record { number = n }) → ⊥
unfolding Running.checked_as
good_image_refused n other c =
    other (ap (λ (a : Checked). a.number) c.answers ∙ ap checked (sym feeder_image_lem) ∙ image_checked feeder feeder_accepted)

-- Running: the last record missing; a turn too many or too few; a last byte written behind the records.
pub record_missing : (a : Ran) → Runs feeder_image two_arrivals 20 (fresh 240) a (take 24 feeder_records ++ fresh 216) → ⊥
record_missing a r = let z : ◌≡◌ {A = ℕ} 170 11 = ap (λ (b : List ℕ). get_or b 24 0) (r.leaves ∙ sheet_holds.1.0.2.0.1) in omega arith

pub other_turns : (a : Ran) (after : List ℕ) → (a.turns ≡ 13 → ⊥) → Runs feeder_image two_arrivals 20 (fresh 240) a after → ⊥
other_turns a after other r = other (ap (λ (x : Ran). x.turns) (r.answers ∙ sheet_holds.1.0.2.0.0))

pub byte_behind : (a : Ran) → Runs feeder_image two_arrivals 20 (fresh 240) a (feeder_records ++ (fresh 203 ++ (0 ∷ []))) → ⊥
byte_behind a r = let z : ◌≡◌ {A = ℕ} 0 170 = ap (λ (b : List ℕ). get_or b 239 0) (r.leaves ∙ sheet_holds.1.0.2.0.1) in omega arith
