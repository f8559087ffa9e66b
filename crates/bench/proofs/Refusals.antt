-- Which answer to a run the tests lead to.
-- Assumes nothing.
use mathlib.Core.Path.{◌≡◌, refl, sym, ap, ◌∙◌}
use mathlib.Core.Bool.{Bool, true, false}
use mathlib.Core.List.{List, [], ◌∷◌}
use Prim.Native.Nat.{ℕ, ◌*◌, ◌/◌, ◌≤◌, ◌<◌}
use native.Mathlib.Omega.{arith}
use borrow.Author.Tests.{lt-ltb, le-ltb, ne_eqb}
use lib.Dec.{eqb}
use lib.ListN.{length}
use Rattle.numbers.specs.Tests.{lowest}
use Rattle.image.specs.Check.{checked, image_faults, bad_length, bad_edition, bad_trailer, bad_cells, bad_records}
use Rattle.events.specs.Events.{bad_script, bad_events, first_bad_event, event_count}
use Rattle.events.proofs.Scripts.{bad_events_lem}
use Rattle.running.specs.declared.Ended.{Ended}
use Rattle.running.specs.Courses.{image_course}
use Rattle.running.specs.Code.{reason_number, EndedAs}
use Rattle.bench.specs.declared.Ran.{Ran}
use Rattle.bench.specs.declared.State.{State}
use Rattle.bench.specs.Answers.{state_of, ran_as, refused_as}
use Rattle.bench.specs.Running.{big_budget, small_room, run_faults, run_refusal, refusal_index, ran, ran_into}
use Rattle.bench.specs.Calls.{Runs}

-- an image's refusal is not that of a bad event
below_events : (a b c d e : Bool) → eqb (lowest 21 (a ∷ b ∷ c ∷ d ∷ e ∷ [])) 33 ≡ false
unfolding lowest
below_events true b c d e = refl
below_events false true c d e = refl
below_events false false true d e = refl
below_events false false false true e = refl
below_events false false false false true = refl
below_events false false false false false = refl

image_index : (s script : List ℕ) → refusal_index (checked s) script ≡ 0
unfolding refusal_index checked image_faults
image_index s script = rw (below_events (bad_length s) (bad_edition s) (bad_trailer s) (bad_cells s) (bad_records s))

-- no event is bad where the first bad one is past the last
pub no_bad_event : (script : List ℕ) {i : ℕ} → i ≡ first_bad_event script → event_count script ≤ i → bad_events script ≡ false
no_bad_event script {i} e h = bad_events_lem script ∙ rw (← e) (le-ltb i (event_count script) h)

module _ (s script : List ℕ) (budget : ℕ) (b : List ℕ) where
  -- the answer of a refusal, and the buffer as it was
  pub refused_as_lem : (n index : ℕ) {r : Ran} → run_refusal s script budget (length b) ≡ n → (n ≡ 0 → ⊥) → refusal_index n script ≡ index → r ≡ refused_as n index → Runs s script budget b r b
  unfolding ran ran_into
  refused_as_lem n index e h i k =
      record {
        answers = k ∙ sym (rw (e, ne_eqb n 0 h, i) refl);
        leaves = sym (rw (e, ne_eqb n 0 h) refl);
      }

  pub refused_image : {n : ℕ} {r : Ran} → n ≡ checked s → (n ≡ 0 → ⊥) → r ≡ refused_as n 0 → Runs s script budget b r b
  unfolding run_refusal
  refused_image {n} e h k =
      refused_as_lem n 0 (rw (ne_eqb (checked s) 0 (λ z. h (e ∙ z))) (sym e)) h (ap (λ (m : ℕ). refusal_index m script) e ∙ image_index s script) k

  -- the rows of a run, behind an accepted image
  module _ (good : checked s ≡ 0) where
    by_rows : {n : ℕ} → lowest 32 (run_faults script budget (length b)) ≡ n → run_refusal s script budget (length b) ≡ n
    unfolding run_refusal
    by_rows e = rw good e

    pub refused_script : {r : Ran} → bad_script script ≡ true → r ≡ refused_as 32 0 → Runs s script budget b r b
    unfolding run_faults lowest refusal_index
    refused_script t k = refused_as_lem 32 0 (by_rows (rw t refl)) (λ e. absurd (omega arith)) refl k

    module _ (whole : bad_script script ≡ false) where
      pub refused_event : {i : ℕ} {r : Ran} → i ≡ first_bad_event script → i < event_count script → r ≡ refused_as 33 i → Runs s script budget b r b
      unfolding run_faults lowest refusal_index
      refused_event {i} e h k =
          let bad : bad_events script ≡ true = bad_events_lem script ∙ rw (← e) (lt-ltb i (event_count script) h) in
          refused_as_lem 33 i (by_rows (rw (whole, bad) refl)) (λ z. absurd (omega arith)) (sym e) k

      module _ (fine : bad_events script ≡ false) where
        pub refused_budget : {r : Ran} → 4096 < budget → r ≡ refused_as 34 0 → Runs s script budget b r b
        unfolding run_faults lowest refusal_index big_budget
        refused_budget h k = refused_as_lem 34 0 (by_rows (rw (whole, fine, lt-ltb 4096 budget h) refl)) (λ z. absurd (omega arith)) refl k

        module _ (low : budget ≤ 4096) where
          pub refused_room : {r : Ran} → length b < 12 * budget → r ≡ refused_as 35 0 → Runs s script budget b r b
          unfolding run_faults lowest refusal_index big_budget small_room
          refused_room h k =
              refused_as_lem 35 0 (by_rows (rw (whole, fine, le-ltb 4096 budget low, lt-ltb (length b) (12 * budget) h) refl)) (λ z. absurd (omega arith)) refl k

          none_refused : 12 * budget ≤ length b → run_refusal s script budget (length b) ≡ 0
          unfolding run_faults lowest big_budget small_room
          none_refused h = by_rows (rw (whole, fine, le-ltb 4096 budget low, le-ltb (length b) (12 * budget) h) refl)

          -- the answer and the buffer of a run that ended so
          pub ran_as_lem : {e : Ended} {b' : List ℕ} {state : State} {r : Ran} → 12 * budget ≤ length b → EndedAs (image_course s script budget) e b b' → state ≡ state_of e.machine
              → r ≡ record { number = 0; index = 0; reason = reason_number e.reason; turns = e.turns; records = e.bytes / 12; state = state } → Runs s script budget b r b'
          unfolding ran ran_into ran_as
          ran_as_lem {e} {b'} {state} h a q k =
              record {
                answers = k ∙ rw (none_refused h, q, a.reason, a.turns, a.bytes, a.machine);
                leaves = a.buffer ∙ sym (rw (none_refused h) refl);
              }
