-- Every final state of an accepted run has the rules (Turn 3 to 5); an image is at most 5,008 bytes (Image 14); a run has at most as many turns as its budget, and as many records as turns.
-- No answer has a slew at velocity 0 (Turn 5, Turn 20).
-- Assumes nothing.
use mathlib.Core.Path.{◌≡◌, refl, sym, ap, ◌∙◌}
use mathlib.Core.Bool.{Bool, false, ◌&&◌, not}
use mathlib.Core.List.{List}
use Prim.Native.Nat.{ℕ, ◌*◌, ◌≤◌, ◌<◌}
use native.Mathlib.Omega.{arith}
use borrow.Author.Tests.{ltb-false, eqb-true}
use lib.Dec.{T, eqb, leb, ltb, le→leb}
use lib.IntN.{pos}
use lib.ListN.{length, get_or}
use Rattle.numbers.specs.Tests.{any_of, any_below, listed}
use Rattle.numbers.proofs.Truth.{is_true, true_is, both_of, neither, chosen}
use Rattle.numbers.proofs.Tests.{each_then, all_each, length_listed, listed_at, any_exactly}
use Rattle.program.specs.Variables.{present, read_only}
use Rattle.program.specs.Statements.{writes, targets, is_hold}
use Rattle.program.specs.Cells.{same, statement_of}
use Rattle.text.specs.Faults.{said, how_many, makes_cell, makes_variable, place_of, number_of}
use Rattle.image.specs.Layout.{cell_count, label_count, variable_count, cell_at, label_target, start_value, start_values}
use Rattle.image.specs.Check.{layouts, fits, bad_length, image_faults, checked}
use Rattle.image.proofs.Accepted.{Names, Writes}
use Rattle.translation.specs.Images.{image_of}
use Rattle.translation.specs.Places.{line_at}
use Rattle.agreement.proofs.Sound.{fine}
use Rattle.agreement.proofs.Records.{place_most}
use Rattle.agreement.proofs.Cells.{line_acceptable}
use Rattle.machine.specs.declared.Machine.{Machine}
use Rattle.machine.specs.declared.Motion.{Motion}
use Rattle.machine.specs.declared.Motion.TheVariants.{Still, To, Slewing}
use Rattle.machine.specs.Turn.{start_machine}
use Rattle.events.specs.Events.{bad_events, events}
use Rattle.running.specs.Courses.{cell_acts, image_course}
use Rattle.rules.specs.Rules.{Ruled}
use Rattle.rules.specs.Good.{writable, Good, Acts}
use Rattle.rules.proofs.Events.{all_good}
use Rattle.rules.proofs.Run.{ruled_run}
use Rattle.rules.proofs.Start.{ruled_start}
use Rattle.rules.proofs.Never.{run_bounded}
use Rattle.rules.proofs.Slewing.{NoZeroSlew, started_nonzero}
use Rattle.numbers.proofs.Lowest.{lowest_zero}
use Rattle.listing.proofs.Accepted.{accepted, faultless}
use Rattle.listing.proofs.Recorded.{Recorded, recorded}
use Rattle.listing.proofs.Resolved.{Written, Aimed, stands}
use Rattle.bench.specs.Answers.{motion_number, motion_value, state_of, no_state, ran_as, refused_as}
use Rattle.bench.specs.Running.{run_faults, run_refusal, ran}
use Rattle.bench.specs.Requests.{AtLine}
use Rattle.bench.specs.Following.{lines_course, text_course, followed}
use Rattle.bench.specs.declared.State.{State}
use Rattle.bench.specs.declared.Ran.{Ran}
use Rattle.bench.proofs.Demands.{ran_number, run_refused}

-- Each cell of an accepted image is a good statement.
module _ (s : List ℕ) (r : Recorded s) (k : ℕ) where
  -- A target that a label has is at most the cell count.
  aimed : (n : ℕ) → Aimed s n → T (leb n (cell_count s))
  aimed n t =
      let c = (any_exactly (λ j. eqb (label_target s j) n) (label_count s)).0 (is_true (any_below (label_count s) (λ j. eqb (label_target s j) n)) t) in
      let e = eqb-true (label_target s c.0) n c.2 in
      let i = r.inside c.0 c.1 in
      le→leb n (cell_count s) (omega arith)

  pub good_cell : T (any_of (fits s (16 * k)) layouts) → Good (cell_count s) (variable_count s) same same (statement_of (cell_at s k))
  unfolding writable
  good_cell t =
      let a = statement_of (cell_at s k) in
      let h = (stands s k t).resolved in
      record {
        named = all_each (λ n. leb n (cell_count s)) (targets a) (each_then (Aimed s) (λ n. T (leb n (cell_count s))) aimed (targets a) h.aims);
        written = all_each (writable (variable_count s)) (writes a)
            (each_then (Written s) (λ v. T (writable (variable_count s) v)) (λ v w. both_of (present (variable_count s) v) (not (read_only v)) w.0 w.1) (writes a) h.sets);
      }

-- Each line of an accepted text is one too.
module _ (text : List ℕ) (m : Machine) (h : AtLine text m) where
  pub good_line : Good (how_many makes_cell (said text)) (how_many makes_variable (said text)) (place_of (said text)) (number_of (said text)) (line_at (said text) m.next)
  unfolding writable Writes
  good_line =
      let xs = said text in
      let a = line_at xs m.next in
      let f = line_acceptable xs (fine text h.fine) m.next h.here in
      record {
        named = all_each (λ n. leb (place_of xs n) (how_many makes_cell xs)) (targets a)
            (each_then (Names (place_of xs) (number_of xs) (image_of xs) (how_many makes_variable xs)) (λ n. T (leb (place_of xs n) (how_many makes_cell xs)))
            (λ n t. le→leb (place_of xs n) (how_many makes_cell xs) (place_most xs n)) (targets a) f.aims);
        written = all_each (λ v. writable (how_many makes_variable xs) (number_of xs v)) (writes a)
            (each_then (Writes (place_of xs) (number_of xs) (image_of xs) (how_many makes_variable xs)) (λ v. T (writable (how_many makes_variable xs) (number_of xs v)))
            (λ v w. true_is (present (how_many makes_variable xs) (number_of xs v) && not (read_only (number_of xs v))) w) (writes a) f.sets);
      }

-- Turn 5: cell k is an `H x`.
abbrev pub holds_at : List ℕ → ℕ → Bool
holds_at s k = is_hold (statement_of (cell_at s k))

module _ (s : List ℕ) (good : checked s ≡ 0) where
  -- A run begins in a state that has the rules, and at each cell a good statement acts.
  pub start_ruled : Ruled (cell_count s) (variable_count s) (holds_at s) (start_machine (start_values s))
  unfolding start_values
  start_ruled =
      let a = accepted s good in
      ruled_start (cell_count s) (variable_count s) (holds_at s) (start_values s) a.few_variables (length_listed (start_value s) 0 (variable_count s))
      (λ k h. let e : get_or (listed 0 (variable_count s) (start_value s)) k (pos 0) ≡ start_value s k = listed_at (start_value s) (pos 0) 0 (variable_count s) k h ∙ ap (start_value s) (omega arith) in
      rw e (a.start_value k h))

  pub acts : (m : Machine) → Ruled (cell_count s) (variable_count s) (holds_at s) m → m.next < cell_count s → Acts (cell_count s) (variable_count s) (holds_at s) same same (cell_acts s) m
  unfolding cell_acts
  acts m r h =
      record {
        statement = statement_of (cell_at s m.next);
        good = good_cell s (recorded s good) m.next ((accepted s good).layout m.next h);
        hold = refl;
        does = refl;
      }

  -- Turn 3 to 5: the final state of a run of an accepted image, on a script without a bad event, whatever the budget.
  pub final_state_ruled : (script : List ℕ) (budget : ℕ) → bad_events script ≡ false
      → Ruled (cell_count s) (variable_count s) (holds_at s) (image_course s script budget).machine
  unfolding image_course events
  final_state_ruled script budget fine =
      ruled_run (cell_count s) (variable_count s) (holds_at s) same same (cell_acts s) acts budget 0 (events script) (start_machine (start_values s))
      (all_good script fine)
      start_ruled

  -- Image 14: an accepted image is at most 5,008 bytes.
  pub image_size : length s ≤ 5008
  unfolding bad_length
  image_size = ltb-false 5008 (length s) (neither (ltb (length s) 16) (ltb 5008 (length s)) (faultless s good).size).1

-- The answer of a run: where its number is 0, image and script are accepted, and its state is that of the machine with which the run ended.
pub answer_state : (s script : List ℕ) (budget : ℕ) (buffer : List ℕ) → (ran s script budget (length buffer)).number ≡ 0
    → (checked s ≡ 0) × (bad_events script ≡ false) × ((ran s script budget (length buffer)).state ≡ state_of (image_course s script budget).machine)
unfolding ran ran_as checked run_faults
answer_state s script budget buffer e =
    let c = (run_refused s script budget buffer).none.0 e in
    let n = sym (ran_number s script budget buffer) ∙ e in
    ((lowest_zero 20 (image_faults s)).1 c.0, c.1 1, rw n refl)

-- So it is that of a machine that has the rules.
pub answer_ruled : (s script : List ℕ) (budget : ℕ) (buffer : List ℕ) → (ran s script budget (length buffer)).number ≡ 0
    → (m : Machine) × Ruled (cell_count s) (variable_count s) (holds_at s) m × ((ran s script budget (length buffer)).state ≡ state_of m)
answer_ruled s script budget buffer e =
    let a = answer_state s script budget buffer e in
    ((image_course s script budget).machine, final_state_ruled s a.0 script budget a.1, a.2)

-- Turn 6, Events 6: at most as many turns as the budget, and as many records as turns, refused or not.
pub answer_bounded : (s script : List ℕ) (budget room : ℕ) → ((ran s script budget room).turns ≤ budget) × ((ran s script budget room).records ≤ (ran s script budget room).turns)
unfolding ran ran_as refused_as image_course
answer_bounded s script budget room =
    let b = run_bounded (cell_acts s) (cell_count s) budget 0 (events script) (start_machine (start_values s)) in
    let w = b.whole in
    let u = b.budget in
    let o = b.one_each in
    chosen (λ (a : Ran). (a.turns ≤ budget) × (a.records ≤ a.turns)) (eqb (run_refusal s script budget room) 0)
    (λ k. (omega arith, omega arith))
    (λ k. (omega arith, omega arith))

-- Turn 5, Turn 20: in no answer does the axis slew, motion 2, at velocity 0: not of a run, refused or not, and not of a text's own run.
abbrev pub NoZeroAnswer : State → Type 0
NoZeroAnswer s = s.motion ≡ 2 → s.value ≡ pos 0 → ⊥

no_zero : (x : Motion) → NoZeroSlew x → motion_number x ≡ 2 → motion_value x ≡ pos 0 → ⊥
unfolding motion_number motion_value
no_zero Still h e v = omega arith
no_zero (To z) h e v = omega arith
no_zero (Slewing z) h e v = h (ap Slewing v)

pub answer_nonzero : (s script : List ℕ) (budget room : ℕ) → NoZeroAnswer (ran s script budget room).state
unfolding ran ran_as refused_as state_of no_state image_course
answer_nonzero s script budget room =
    chosen (λ (a : Ran). NoZeroAnswer a.state) (eqb (run_refusal s script budget room) 0)
    (λ k. no_zero (image_course s script budget).machine.motion (started_nonzero (cell_acts s) (cell_count s) budget 0 (events script) (start_values s)))
    (λ k e v. omega arith)

pub followed_nonzero : (text script : List ℕ) (budget : ℕ) → NoZeroAnswer (followed text script budget).state
unfolding followed ran_as state_of text_course lines_course
followed_nonzero text script budget = no_zero (text_course text script budget).machine.motion (started_nonzero _ _ budget 0 (events script) _)
