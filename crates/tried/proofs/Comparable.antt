-- Whatever a run records, comparing takes: the records of a run are whole, few enough, and each has its zeros.
-- Assumes nothing.
use mathlib.Core.Path.{◌≡◌, refl, sym, ap, ◌∙◌}
use mathlib.Core.Bool.{Bool, true, false, not}
use mathlib.Core.List.{List, [], ◌∷◌, ◌++◌, flat_map}
use Prim.Native.Nat.{ℕ, zero, suc, ◌+◌, ◌*◌, ◌/◌, ◌≤◌, ◌<◌}
use native.Mathlib.Omega.{arith}
use borrow.Author.Tests.{ltb-false, eq-eqb}
use lib.Dec.{eqb}
use lib.ListN.{length, take, drop, length-append}
use lib.Seq.{take_at}
use Rattle.numbers.specs.Bytes.{bytes, number, field}
use Rattle.numbers.proofs.Laws.{field_behind}
use Rattle.events.specs.declared.Record.{Record}
use Rattle.events.specs.Events.{event_at, event_count, events, record_bytes}
use Rattle.events.proofs.Written.{record_size, record_none}
use Rattle.machine.specs.declared.Machine.{Machine}
use Rattle.machine.specs.declared.Turned.{Turned}
use Rattle.machine.specs.Run.{Step, PlainTrace, Course, plain, course_of, over}
use Rattle.machine.proofs.Traces.{few_turns}
use Rattle.running.specs.Courses.{image_course}
use Rattle.bench.specs.Answers.{ran_as}
use Rattle.bench.specs.Running.{big_budget, run_faults, ran, ran_into}
use Rattle.bench.specs.Following.{lines_course, text_course, followed, followed_into}
use Rattle.bench.proofs.Demands.{ran_number, run_refused}
use Rattle.comparing.specs.Differences.{bad_record, bad_buffer}
use Rattle.comparing.proofs.Buffers.{no_bad}

-- Whole records, no more than n of them, each with its two zeros.
record Records (n : ℕ) (s : List ℕ) : Type 0 where
  pub count : ℕ
  pub whole : length s ≡ 12 * count
  pub few : count ≤ n
  pub zeros : (k : ℕ) → k < count → field 2 (12 * k + 6) s ≡ 0

-- Q-4 5: comparing takes them where there are 8,192 at most.
records_taken : (n : ℕ) (s : List ℕ) → Records n s → n ≤ 8192 → bad_buffer s ≡ false
unfolding bad_record event_at event_count
records_taken n s r h =
    let w = r.whole in
    let f = r.few in
    no_bad s (omega arith) (omega arith) (λ k l. ap not (eq-eqb (field 2 (12 * k + 6) s) 0 (r.zeros k (omega arith))))

-- Events 1: one more record before others: its own zeros, and those of the others 12 bytes on.
module _ (t : ℕ) (r : Record) (h : eqb r.kind 0 ≡ false) (s : List ℕ) where
  first_zeros : field 2 6 (record_bytes t r ++ s) ≡ 0
  unfolding record_bytes bytes field number
  first_zeros = rw h refl

  later_zeros : (k : ℕ) → field 2 (12 * suc k + 6) (record_bytes t r ++ s) ≡ field 2 (12 * k + 6) s
  later_zeros k =
      let e : 12 * suc k + 6 ≡ length (record_bytes t r) + (12 * k + 6) = omega (arith, record_size t r h) in
      ap (λ (from : ℕ). field 2 from (record_bytes t r ++ s)) e ∙ field_behind 2 (12 * k + 6) (record_bytes t r) s

  one_more : {n : ℕ} → Records n s → Records (suc n) (record_bytes t r ++ s)
  one_more q =
      let w = q.whole in
      let f = q.few in
      record {
        count = suc q.count;
        whole = length-append (record_bytes t r) s ∙ omega (arith, record_size t r h);
        few = omega arith;
        zeros = go;
      }
    where
      go : (k : ℕ) → k < suc q.count → field 2 (12 * k + 6) (record_bytes t r ++ s) ≡ 0
      go zero l = first_zeros
      go (suc k) l = later_zeros k ∙ q.zeros k (omega arith)

-- Events 6: what a turn records, before the records of the turns behind it.
none_more : {n : ℕ} {s : List ℕ} → Records n s → Records (suc n) s
none_more q = let f = q.few in record { count = q.count; whole = q.whole; few = omega arith; zeros = q.zeros }

turn_more : (t : ℕ) (r : Record) (n : ℕ) (s : List ℕ) → Records n s → Records (suc n) (record_bytes t r ++ s)
turn_more t r n s q = by_kind (eqb r.kind 0) refl
  where
    by_kind : (b : Bool) → eqb r.kind 0 ≡ b → Records (suc n) (record_bytes t r ++ s)
    by_kind true h = rw (record_none t r h) (none_more q)
    by_kind false h = one_more t r h s q

turns_record : {M D : Type 0} (ss : List (Step M D Turned)) → Records (length ss) (flat_map (λ s. record_bytes s.turn s.came.wrote) ss)
unfolding flat_map
turns_record [] = record { count = 0; whole = refl; few = omega arith; zeros = λ k l. absurd (omega arith) }
turns_record (s ∷ ss) = turn_more s.turn s.came.wrote (length ss) (flat_map (λ s. record_bytes s.turn s.came.wrote) ss) (turns_record ss)

-- Turn 6, Events 6: the records of any run of no more turns than this.
course_records : (budget t : ℕ) (m : Machine) (trace : PlainTrace) → length trace.steps ≤ budget → Records budget (course_of plain t m trace).records
unfolding course_of
course_records budget t m trace h =
    let q = turns_record trace.steps in
    let f = q.few in
    record { count = q.count; whole = q.whole; few = omega arith; zeros = q.zeros }

-- Events 8: those that stand over a buffer, as many as there are.
over_taken : (c : Course) (budget : ℕ) (old : List ℕ) → Records budget c.records → budget ≤ 4096 → bad_buffer (take (12 * (length c.records / 12)) (over c old)) ≡ false
unfolding over
over_taken c budget old r h =
    let w = r.whole in
    let e : length c.records ≡ 12 * (length c.records / 12) = omega arith in
    ap bad_buffer (take_at c.records (drop (length c.records) old) (12 * (length c.records / 12)) e) ∙ records_taken budget c.records r (omega arith)

-- Events 1, Events 6, Q-4 5: the records of a run, as many as its answer says, are a buffer that comparing takes; of an image's run, and of a text's own run.
pub run_comparable : (s script : List ℕ) (budget : ℕ) (old : List ℕ) → (ran s script budget (length old)).number ≡ 0
    → bad_buffer (take (12 * (ran s script budget (length old)).records) (ran_into s script budget old)) ≡ false
unfolding ran ran_into ran_as image_course run_faults big_budget
run_comparable s script budget old e =
    let n = sym (ran_number s script budget old) ∙ e in
    let b = ltb-false 4096 budget (((run_refused s script budget old).none.0 e).1 2) in
    rw n (over_taken (image_course s script budget) budget old (course_records budget 0 _ _ (few_turns plain _ _ budget 0 (events script) _)) b)

pub text_comparable : (text script : List ℕ) (budget : ℕ) (old : List ℕ) → budget ≤ 4096
    → bad_buffer (take (12 * (followed text script budget).records) (followed_into text script budget old)) ≡ false
unfolding followed followed_into ran_as text_course lines_course
text_comparable text script budget old h = over_taken (text_course text script budget) budget old (course_records budget 0 _ _ (few_turns plain _ _ budget 0 (events script) _)) h
