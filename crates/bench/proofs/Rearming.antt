-- Q-7: what the request asks holds of all calls that meet the demands, the bench's own among them; and of no runner whose RT arms nothing, whose OE leaves a mark,
-- or whose answer tells another mark or target.
-- Assumes nothing.
use mathlib.Core.Path.{◌≡◌, refl, sym, ap, ◌∙◌, subst}
use mathlib.Core.Bool.{Bool, true, false}
use mathlib.Core.List.{List, []}
use mathlib.Core.Logic.{inl, inr}
use Prim.Native.Nat.{ℕ, ◌≤◌}
use native.Mathlib.Omega.{arith}
use borrow.Author.Tests.{eq-eqb, ne_eqb}
use lib.IntN.{pos, nat_abs}
use lib.ListN.{length, get_or-map}
use Rattle.numbers.specs.Tests.{Each}
use Rattle.numbers.proofs.Truth.{if_same}
use Rattle.program.specs.Statements.{is_hold}
use Rattle.program.specs.Cells.{same}
use Rattle.text.specs.Faults.{said, how_many, makes_cell, makes_variable, place_of, number_of}
use Rattle.image.specs.Layout.{cell_count, variable_count, start_values}
use Rattle.image.specs.Check.{checked}
use Rattle.translation.specs.Images.{accepted, image}
use Rattle.translation.specs.Places.{line_at}
use Rattle.effects.specs.Effects.{read}
use Rattle.machine.specs.declared.Machine.{Machine}
use Rattle.machine.specs.declared.Place.{Place}
use Rattle.machine.specs.Turn.{no_handler, unused, start_machine}
use Rattle.machine.specs.Run.{PlainTrace, Course}
use Rattle.machine.proofs.Quiet.{happens_way}
use Rattle.events.specs.Events.{bad_events, events}
use Rattle.running.specs.Courses.{cell_acts, image_trace, image_course}
use Rattle.rules.specs.Rules.{place_at, Ruled}
use Rattle.rules.specs.Handlers.{TurnHandlers, OneHandler, HandlersIn, Origins}
use Rattle.rules.proofs.Events.{all_good}
use Rattle.rules.proofs.Start.{everywhere}
use Rattle.rules.proofs.Handlers.{Keeps, handlers, handlers_act, handlers_run, start_one, one_run, origins}
use Rattle.agreement.proofs.Checked.{image_checked}
use Rattle.bench.specs.declared.StatePlace.{StatePlace}
use Rattle.bench.specs.declared.State.{State}
use Rattle.bench.specs.declared.Ran.{Ran}
use Rattle.bench.specs.Answers.{state_place_of, no_place, state_of, no_state, refused_as}
use Rattle.bench.specs.Running.{ran}
use Rattle.bench.specs.Following.{line_acts, text_trace, text_course}
use Rattle.bench.specs.Demands.{Translate, Check, Outcome, Run, Demand1, Demand2, Demand3, our_translate, our_check, our_run}
use Rattle.bench.specs.Sheet.{fresh, again_image, in_handler, armed_again, own_choice_image, erred, sheet_holds}
use Rattle.bench.specs.Requests.{AtCell, AtLine, told_place, GoodMark, Marks, Request7}
use Rattle.bench.proofs.Demands.{one_trace, one_course, run_refused, demand1, demand2, demand3}
use Rattle.bench.proofs.Decided.{run_decided}
use Rattle.bench.proofs.States.{holds_at, start_ruled, acts, good_line, answer_state}

-- A place in an answer, by whether it has a handler.
module _ (place : Place) where
  told_call : place.handler ≡ no_handler → state_place_of place ≡ record { cell = place.cell; target = 0; mark = 0 }
  unfolding state_place_of
  told_call e = rw (eq-eqb place.handler no_handler e)

  told_handler : (place.handler ≡ no_handler → ⊥) → state_place_of place ≡ record { cell = place.cell; target = place.handler; mark = 1 }
  unfolding state_place_of
  told_handler n = rw (ne_eqb place.handler no_handler n)

  -- What holds of both holds of it.
  told_by : (P : StatePlace → Type 0) → (place.handler ≡ no_handler → P (record { cell = place.cell; target = 0; mark = 0 }))
      → ((place.handler ≡ no_handler → ⊥) → P (record { cell = place.cell; target = place.handler; mark = 1 })) → P (state_place_of place)
  told_by P f g = if_same place.handler no_handler (λ e. subst P (sym (told_call e)) (f e)) (λ n. subst P (sym (told_handler n)) (g n))

  marked_so : (state_place_of place).mark ≡ 1 → place.handler ≡ no_handler → ⊥
  marked_so t e = let n : ◌≡◌ {A = ℕ} 0 1 = sym (ap (λ (p : StatePlace). p.mark) (told_call e)) ∙ t in omega arith

-- The places of a machine's state.
module _ {cells variables : ℕ} {holds : ℕ → Bool} (m : Machine) (r : Ruled cells variables holds m) (o : OneHandler m.places m.handler) where
  told_at : (k : ℕ) → told_place (state_of m) k ≡ state_place_of (place_at m.places k)
  unfolding state_of state_place_of no_handler
  told_at k = get_or-map state_place_of m.places.all k unused

  of_place : (P : StatePlace → Type 0) (k : ℕ) → P (state_place_of (place_at m.places k)) → P (told_place (state_of m) k)
  of_place P k = subst P (sym (told_at k))

  marked_at : (k : ℕ) → (told_place (state_of m) k).mark ≡ 1 → (place_at m.places k).handler ≡ no_handler → ⊥
  marked_at k t = marked_so (place_at m.places k) (sym (ap (λ (p : StatePlace). p.mark) (told_at k)) ∙ t)

  no_handler_lem : m.handler ≡ no_handler → (state_of m).handler ≡ 65535
  unfolding state_of no_handler
  no_handler_lem e = e

  not_kept : (k : ℕ) → (state_of m).kept ≤ k → state_place_of (place_at m.places k) ≡ no_place
  unfolding state_of
  not_kept k h = ap state_place_of (r.unused_places k h) ∙ told_call unused refl

  marks_of : Marks cells (state_of m)
  marks_of =
      record {
        cell = λ k. of_place (λ p. p.cell ≤ cells) k (told_by (place_at m.places k) (λ p. p.cell ≤ cells) (λ e. (r.places k).cell) (λ n. (r.places k).cell));
        target = λ k. of_place (λ p. p.target ≤ cells) k (told_by (place_at m.places k) (λ p. p.target ≤ cells) (λ e. omega arith) (λ n. (r.places k).handler n));
        mark = λ k. of_place GoodMark k (told_by (place_at m.places k) GoodMark (λ e. inl (refl, refl)) (λ n. inr refl));
        unused = λ k h. told_at k ∙ not_kept k h;
        one = λ j k s t. o.one j k (marked_at j s) (marked_at k t);
        unarmed = λ k t. no_handler_lem (o.unarmed k (marked_at k t));
      }

-- Refusals 23: a refused run has no place at all.
none_told : (cells : ℕ) → Marks cells no_state
unfolding no_state
none_told cells =
    let none : (k : ℕ) → told_place no_state k ≡ no_place = λ k. everywhere 8 k no_place in
    let free : (k : ℕ) → (told_place no_state k).mark ≡ 1 → ⊥ = λ k t. let n : ◌≡◌ {A = ℕ} 0 1 = sym (ap (λ (p : StatePlace). p.mark) (none k)) ∙ t in omega arith in
    record {
      cell = λ k. rw (none k) (omega arith);
      target = λ k. rw (none k) (omega arith);
      mark = λ k. rw (none k) (inl (refl, refl));
      unused = λ k h. none k;
      one = λ j k s t. absurd (free j s);
      unarmed = λ k t. absurd (free k t);
    }

-- In a run from the start the rules are kept, and at most one place is a handler's.
module _ (s : List ℕ) (good : checked s ≡ 0) where
  kept_first : Keeps (cell_count s) (variable_count s) (holds_at s) same same (cell_acts s) (acts s good) (start_machine (start_values s))
  kept_first = (start_ruled s good, start_one (start_values s))

  image_handlers : (script : List ℕ) (budget : ℕ) → bad_events script ≡ false → Each HandlersIn (image_trace s script budget).steps
  unfolding image_trace
  image_handlers script budget fine =
      handlers_run (cell_count s) (variable_count s) (holds_at s) same same (cell_acts s) (acts s good) budget 0 (events script) (start_machine (start_values s)) (all_good script fine) kept_first

  kept_last : (script : List ℕ) (budget : ℕ) → bad_events script ≡ false
      → Keeps (cell_count s) (variable_count s) (holds_at s) same same (cell_acts s) (acts s good) (image_course s script budget).machine
  unfolding image_course
  kept_last script budget fine =
      one_run (cell_count s) (variable_count s) (holds_at s) same same (cell_acts s) (acts s good) budget 0 (events script) (start_machine (start_values s)) (all_good script fine) kept_first

  image_origin : (script : List ℕ) (budget : ℕ) → bad_events script ≡ false → Origins (image_course s script budget).machine.places (image_trace s script budget).steps
  unfolding image_course image_trace
  image_origin script budget fine =
      origins (cell_count s) (variable_count s) (holds_at s) same same (cell_acts s) (acts s good) budget 0 (events script) (start_values s) (all_good script fine) (start_ruled s good)

text_origin : (text script : List ℕ) (budget : ℕ) → accepted text ≡ true → bad_events script ≡ false → Origins (text_course text script budget).machine.places (text_trace text script budget).steps
text_origin text script budget ok fine =
    subst (λ (c : Course). Origins c.machine.places (text_trace text script budget).steps) (one_course text script budget ok)
    (subst (λ (trace : PlainTrace). Origins (image_course (image text) script budget).machine.places trace.steps) (one_trace text script budget ok)
    (image_origin (image text) (image_checked text ok) script budget fine))

text_handlers : (text script : List ℕ) (budget : ℕ) → accepted text ≡ true → bad_events script ≡ false → Each HandlersIn (text_trace text script budget).steps
text_handlers text script budget ok fine =
    subst (λ (trace : PlainTrace). Each HandlersIn trace.steps) (one_trace text script budget ok) (image_handlers (image text) (image_checked text ok) script budget fine)

-- Q-7 4, Q-7 5: the marks in every answer.
answer_marks : (s script : List ℕ) (budget : ℕ) (buffer : List ℕ) → Marks (cell_count s) (ran s script budget (length buffer)).state
unfolding refused_as
answer_marks s script budget buffer =
    if_same (ran s script budget (length buffer)).number 0
    (λ e.
    let a = answer_state s script budget buffer e in
    let k = kept_last s a.0 script budget a.1 in
    subst (Marks (cell_count s)) (sym a.2) (marks_of (image_course s script budget).machine k.0 k.1))
    (λ n. subst (λ (a : Ran). Marks (cell_count s) a.state) (sym ((run_refused s script budget buffer).rest_refused n)) (none_told (cell_count s)))

cell_turn : (s : List ℕ) (m : Machine) → AtCell s m → TurnHandlers (cell_count s) (cell_acts s m) m
cell_turn s m h = handlers_act (cell_count s) (variable_count s) (holds_at s) same same (cell_acts s) (acts s h.accepted) m h.ruled h.here

line_turn : (text : List ℕ) (m : Machine) → AtLine text m → TurnHandlers (how_many makes_cell (said text)) (line_acts (said text) m) m
unfolding line_acts
line_turn text m h =
    handlers (how_many makes_cell (said text)) (how_many makes_variable (said text)) (λ k. is_hold (line_at (said text) k)) (place_of (said text)) (number_of (said text))
    (line_at (said text) m.next) m (good_line text m h) h.ruled refl

pub request7 : (translate : Translate) (check : Check) (run : Run) → Demand1 translate check run → Demand2 translate check run → Demand3 translate run → Request7 translate check run
request7 translate check run one two three =
    record {
      demand_1 = one;
      demand_2 = two;
      demand_3 = three;
      cell_handlers = cell_turn;
      line_handlers = line_turn;
      event_handlers = λ e m. let w = happens_way e m in (w.1, w.2);
      image_run = λ s script budget good fine. image_handlers s good script budget fine;
      text_run = text_handlers;
      image_origins = λ s script budget good fine. image_origin s good script budget fine;
      text_origins = text_origin;
      marks = λ s script budget buffer.
          subst (λ (o : Outcome). Marks (cell_count s) o.answer.state) (sym (run_decided translate check run one two s script budget buffer)) (answer_marks s script budget buffer);
    }

pub request7_ours : Request7 our_translate our_check our_run
request7_ours = request7 our_translate our_check our_run demand1 demand2 demand3

-- What the request fixes for a runner on the sheet's two images: the state at the end of the handler's second return, inside its first call, and behind an `OE 0`.
module _ (translate : Translate) (check : Check) (run : Run) (q : Request7 translate check run) where
  decided : (s : List ℕ) (budget : ℕ) (buffer : List ℕ) → (run s [] budget buffer).answer.state ≡ (ran s [] budget (length buffer)).state
  decided s budget buffer = ap (λ (o : Outcome). o.answer.state) (run_decided translate check run q.demand_1 q.demand_2 s [] budget buffer)

  twice : (run again_image [] 9 (fresh 108)).answer.state ≡ armed_again
  twice = decided again_image 9 (fresh 108) ∙ ap (λ (a : Ran). a.state) sheet_holds.1.1.1.1.1.1.1.1.1.1.1.1.1.1.0.2.0.0

  inside : (run again_image [] 3 (fresh 36)).answer.state ≡ in_handler
  inside = decided again_image 3 (fresh 36) ∙ ap (λ (a : Ran). a.state) sheet_holds.1.1.1.1.1.1.1.1.1.1.1.1.1.1.0.2.1.0.0

  chosen : (run own_choice_image [] 9 (fresh 108)).answer.state ≡ erred 105 5
  chosen = decided own_choice_image 9 (fresh 108) ∙ ap (λ (a : Ran). a.state) sheet_holds.1.1.1.1.1.1.1.1.1.1.1.1.1.1.1.0.2.0.0

-- An RT that arms nothing: the handler counts one error, and not two.
pub arms_nothing : (translate : Translate) (check : Check) (run : Run) → read (run again_image [] 9 (fresh 108)).answer.state.variables 1 ≡ pos 1 → Request7 translate check run → ⊥
unfolding read
arms_nothing translate check run old q =
    let n : ◌≡◌ {A = ℕ} 1 2 = ap nat_abs (sym old ∙ ap (λ (s : State). read s.variables 1) (twice translate check run q)) in omega arith

-- A mark that is not told, and a target off by one.
pub tells_no_mark : (translate : Translate) (check : Check) (run : Run) → (told_place (run again_image [] 3 (fresh 36)).answer.state 0).mark ≡ 0 → Request7 translate check run → ⊥
tells_no_mark translate check run old q =
    let n : ◌≡◌ {A = ℕ} 0 1 = sym old ∙ ap (λ (s : State). (told_place s 0).mark) (inside translate check run q) in omega arith

pub target_off : (translate : Translate) (check : Check) (run : Run) → (told_place (run again_image [] 3 (fresh 36)).answer.state 0).target ≡ 5 → Request7 translate check run → ⊥
target_off translate check run old q =
    let n : ◌≡◌ {A = ℕ} 5 4 = sym old ∙ ap (λ (s : State). (told_place s 0).target) (inside translate check run q) in omega arith

-- An OE that leaves the mark: the return arms the handler that `OE 0` had taken away.
pub oe_leaves_mark : (translate : Translate) (check : Check) (run : Run) → (run own_choice_image [] 9 (fresh 108)).answer.state.handler ≡ 3 → Request7 translate check run → ⊥
oe_leaves_mark translate check run old q =
    let n : ◌≡◌ {A = ℕ} 3 65535 = sym old ∙ ap (λ (s : State). s.handler) (chosen translate check run q) in omega arith
