-- The run of an image, turn by turn: what is left to run from here, behind the records written so far, gives the whole.
-- Assumes nothing.
use mathlib.Core.Path.{◌≡◌, refl, sym, ap, ◌∙◌}
use mathlib.Core.Bool.{true, false}
use mathlib.Core.List.{List, [], ◌++◌, append_assoc, append-nil}
use Prim.Native.Nat.{ℕ, suc, ◌+◌, ◌*◌, ◌-◌, ◌≤◌, ◌<◌}
use native.Mathlib.Nat.{sub-zero}
use native.Mathlib.Numerals.{add-one}
use native.Mathlib.Omega.{arith}
use lib.ListN.{length, take, drop, take-append-drop, length-append}
use lib.Seq.{sets, sets-eq, length-sets, length-take-le, take_at, drop_at, drop-drop}
use Rattle.image.specs.Layout.{cell_count, start_values}
use Rattle.machine.specs.declared.Machine.{Machine}
use Rattle.machine.specs.declared.Turned.{Turned}
use Rattle.machine.specs.Turn.{start_machine}
use Rattle.events.specs.Events.{event_count, record_bytes}
use Rattle.machine.specs.Run.{Course, plain, ends, course_of, over}
use Rattle.machine.specs.Code.{Inputs}
use Rattle.machine.proofs.Inputs.{inputs_start}
use Rattle.events.proofs.Written.{record_most}
use Rattle.machine.proofs.Traces.{ended, after, course_ends, course_before}
use Rattle.running.specs.Courses.{image_course}
use Rattle.running.specs.declared.EndReason.{EndReason}
use Rattle.running.specs.declared.EndReason.TheVariants.{PastTheLast, Stopped, BudgetUsed}
use Rattle.running.specs.Code.{reason_number, SteppedBy, course_from, EndedAs}
use Rattle.running.proofs.Scripts.{events_all}
use Rattle.running.proofs.Turns.{rest, rest_past, rest_spent, rest_stopped, rest_goes, taken}

-- Bytes written from a place on: what stands before their end, and behind it.
module _ (at : ℕ) (b bs : List ℕ) (fits : at + length bs ≤ length b) where
  in_front : length (take at b ++ bs) ≡ at + length bs
  in_front = rw (length-append (take at b) bs, length-take-le at b (omega arith))

  pub take_written : take (at + length bs) (sets b at bs) ≡ take at b ++ bs
  take_written = rw (sets-eq bs b at fits) (take_at (take at b ++ bs) (drop (at + length bs) b) (at + length bs) in_front)

  pub drop_written : drop (at + length bs) (sets b at bs) ≡ drop (at + length bs) b
  drop_written = rw (sets-eq bs b at fits) (drop_at (take at b ++ bs) (drop (at + length bs) b) (at + length bs) in_front)

-- The buffer has the records up to `at`, and behind them what it had at the start, which is `b₀`; with what is left to run they give the whole.
pub record Written (course : Course) (b₀ b : List ℕ) (at : ℕ) (left : Course) : Type 0 where
  pub inside : at ≤ length b
  pub behind : drop at b ≡ drop at b₀
  pub whole : after (take at b) left ≡ course

-- A run that ended here.
abbrev pub Ends : EndReason → ℕ → ℕ → Machine → Course → List ℕ → List ℕ → Type 0
Ends reason t at m course b₀ b = EndedAs course (record { reason = reason; turns = t; bytes = at; machine = m }) b₀ b

module _ {course : Course} {b₀ b : List ℕ} {at t : ℕ} (reason : EndReason) {m : Machine} (w : Written course b₀ b at (ended (reason_number reason) t m)) where
  all_bytes : length (take at b ++ []) ≡ at
  all_bytes = rw append-nil (length-take-le at b w.inside)

  all_over : b ≡ over (after (take at b) (ended (reason_number reason) t m)) b₀
  unfolding over
  all_over = rw (append-nil, length-take-le at b w.inside, ← w.behind, take-append-drop)

  ended_as : Ends reason t at m course b₀ b
  ended_as =
      let e = w.whole in
      record {
        reason = ap (λ (c : Course). c.reason) e;
        turns = ap (λ (c : Course). c.turns) e;
        bytes = sym all_bytes ∙ ap (λ (c : Course). length c.records) e;
        machine = ap (λ (c : Course). c.machine) e;
        buffer = all_over ∙ ap (λ (c : Course). over c b₀) e;
      }

-- A turn's record is written.
written_more : {course : Course} {b₀ b : List ℕ} {at : ℕ} {left more : Course} (bs : List ℕ) → Written course b₀ b at left → at + length bs ≤ length b → left ≡ after bs more
    → Written course b₀ (sets b at bs) (at + length bs) more
written_more {b₀ = b₀} {b = b} {at = at} {more = more} bs w f e =
    record {
      inside = rw (length-sets b at bs) f;
      behind = drop_written at b bs f ∙ sym (drop-drop (length bs) at b) ∙ ap (drop (length bs)) w.behind ∙ drop-drop (length bs) at b₀;
      whole =
          ap (λ (bytes : List ℕ). after bytes more) (take_written at b bs f)
          ∙ rw append_assoc (ap (λ (c : Course). after (take at b) c) (sym e) ∙ w.whole);
    }

-- How the rest of a run goes from turn t on.
module _ (s script : List ℕ) (last : ℕ) where
  abbrev goes : ℕ → ℕ → Machine → Course
  goes t k m = course_of plain t m (rest s script last t k m)

  goes_past : (t k : ℕ) (m : Machine) → cell_count s ≤ m.next → goes t k m ≡ ended 1 t m
  goes_past t k m h = rw (rest_past s script last t k m h) (course_ends plain 1 t m)

  goes_spent : (t k : ℕ) (m : Machine) → m.next < cell_count s → last ≤ t → goes t k m ≡ ended 3 t m
  goes_spent t k m h l = rw (rest_spent s script last t k m h l) (course_ends plain 3 t m)

  module _ (t k : ℕ) (m : Machine) (h : m.next < cell_count s) (l : t < last) {d : Turned} {n : ℕ} (er : SteppedBy s (cell_count s) script t k m d n) where
    goes_stopped : d.stops ≡ true → goes t k m ≡ after (record_bytes t d.wrote) (ended 2 (t + 1) d.machine)
    goes_stopped e =
        rw (rest_stopped s script last t k m h l er e, add-one t)
        (course_before plain t m (taken s script last t k m h l er) (ends 2) ∙ rw (course_ends plain 2 (suc t) d.machine))

    goes_more : d.stops ≡ false → goes t k m ≡ after (record_bytes t d.wrote) (goes (t + 1) n d.machine)
    goes_more e =
        rw (rest_goes s script last t k m h l er e)
        (course_before plain t m (taken s script last t k m h l er) (rest s script last (t + 1) n d.machine) ∙ rw (add-one t))

-- What holds before each turn t of a run from turn t₀ on that goes this course, with the events from number k on to come and the records up to `at` in the buffer.
pub record Underway (s script : List ℕ) (course : Course) (t₀ last : ℕ) (b₀ b : List ℕ) (m : Machine) (t k at : ℕ) : Type 0 where
  pub begun : t₀ ≤ t
  pub within : k ≤ event_count script
  pub inputs : Inputs m.variables
  pub most : at ≤ 12 * (t - t₀)
  pub size : length b ≡ length b₀
  pub written : Written course b₀ b at (goes s script last t k m)

module _ {s script : List ℕ} {t₀ last : ℕ} {b₀ : List ℕ} where
  -- Before the first turn.
  pub underway : (m : Machine) (k : ℕ) → k ≤ event_count script → Inputs m.variables → Underway s script (course_from s script m t₀ k last) t₀ last b₀ b₀ m t₀ k 0
  unfolding course_from
  underway m k w i =
      record {
        begun = omega arith;
        within = w;
        inputs = i;
        most = omega arith;
        size = refl;
        written = record { inside = omega arith; behind = refl; whole = refl };
      }

  module _ {course : Course} {b : List ℕ} {m : Machine} {t k at : ℕ} (u : Underway s script course t₀ last b₀ b m t k at) {cells : ℕ} (en : cells ≡ cell_count s) where
    -- Turn 6: no cell is left, or else no turn.
    pub past_last : cells ≤ m.next → Ends PastTheLast t at m course b₀ b
    unfolding reason_number
    past_last h = ended_as PastTheLast (rw (goes_past s script last t k m (omega arith)) at u.written)

    pub budget_used : m.next < cells → last ≤ t → Ends BudgetUsed t at m course b₀ b
    unfolding reason_number
    budget_used h l = ended_as BudgetUsed (rw (goes_spent s script last t k m (omega arith) l) at u.written)

    -- One turn is taken, and its record is written.
    module _ (room : 12 * (last - t₀) ≤ length b₀) (h : m.next < cells) (l : t < last) {d : Turned} {n : ℕ} (er : SteppedBy s cells script t k m d n)
        {at' : ℕ} {b' : List ℕ} (ea : at' ≡ at + length (record_bytes t d.wrote)) (eb : b' ≡ sets b at (record_bytes t d.wrote)) where
      fits : at + length (record_bytes t d.wrote) ≤ length b
      fits = omega (arith, record_most t d.wrote, u.begun, u.most, u.size)

      more : (left : Course) → goes s script last t k m ≡ after (record_bytes t d.wrote) left → Written course b₀ b' at' left
      more left e = rw (ea, eb) (written_more (record_bytes t d.wrote) u.written fits e)

      -- Turn 25: the run stops after the turn.
      pub stopped : d.stops ≡ true → Ends Stopped (t + 1) at' d.machine course b₀ b'
      unfolding reason_number
      stopped e = ended_as Stopped (more (ended 2 (t + 1) d.machine) (goes_stopped s script last t k m (omega arith) l (rw en at er) e))

      pub goes_on : d.stops ≡ false → Underway s script course t₀ last b₀ b' d.machine (t + 1) n at'
      goes_on e =
          record {
            begun = omega (arith, u.begun);
            within = er.within;
            inputs = er.inputs;
            most = omega (arith, record_most t d.wrote, u.begun, u.most);
            size = rw eb (length-sets b at (record_bytes t d.wrote) ∙ u.size);
            written = more (goes s script last (t + 1) n d.machine) (goes_more s script last t k m (omega arith) l (rw en at er) e);
          }

-- From the start: the whole run.
pub from_start : (s script : List ℕ) (budget : ℕ) {m : Machine} → m ≡ start_machine (start_values s) → course_from s script m 0 0 budget ≡ image_course s script budget
unfolding course_from image_course
from_start s script budget e = rw (e, sub-zero, events_all script)

pub inputs_first : (s : List ℕ) {m : Machine} → m ≡ start_machine (start_values s) → Inputs m.variables
inputs_first s e = rw e (inputs_start (start_values s))
