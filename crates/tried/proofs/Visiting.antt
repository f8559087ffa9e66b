-- Translating and then visiting gives the places of the text's own run.
-- Assumes nothing.
use mathlib.Core.Path.{◌≡◌, refl, sym, ap, ◌∙◌}
use mathlib.Core.Bool.{Bool, true, false, not, ◌||◌}
use mathlib.Core.List.{List, [], ◌∷◌}
use Prim.Native.Nat.{ℕ, ◌*◌, ◌≤◌, ◌<◌}
use borrow.Author.Tests.{ltb-false, ne_eqb}
use lib.Dec.{eqb, ltb}
use lib.ListN.{length, take}
use Rattle.std.specs.Prelude.{Result, is_err}
use Rattle.numbers.specs.Tests.{lowest}
use Rattle.numbers.proofs.Truth.{neither}
use Rattle.events.specs.Events.{events, bad_script, bad_events}
use Rattle.running.specs.Courses.{cell_acts}
use Rattle.running.specs.Visits.{image_visits, visits_over}
use Rattle.running.specs.Code.{VisitedAs}
use Rattle.translation.specs.Images.{image, accepted}
use Rattle.agreement.proofs.Course.{same_visits}
use Rattle.bench.specs.declared.Translated.{Translated}
use Rattle.bench.specs.Translating.{translated}
use Rattle.bench.specs.declared.Refusal.{Refusal}
use Rattle.bench.specs.Running.{big_budget, faults_with, told_number}
use Rattle.bench.specs.Following.{line_acts}
use Rattle.bench.specs.Calls.{Translates}
use Rattle.bench.proofs.Refusing.{err_numbered}
use Rattle.tried.specs.Visiting.{lines_visits, text_visits, visit_refused, visited_turns, visited_into, Visited}
use Rattle.tried.proofs.Trials.{Accepts, Answer, refused, taken, answer, whole}

-- What refuses a run on the script refuses the call.
pub refuses : (script : List ℕ) (budget size : ℕ) → not (eqb (lowest 32 (faults_with script budget size 2)) 0) ≡ visit_refused script budget size
unfolding visit_refused lowest
refuses script budget size = by_tests (bad_script script) (bad_events script) (big_budget budget) (ltb size (2 * budget))
  where
    by_tests : (a b c d : Bool) → not (eqb (lowest 32 (a ∷ b ∷ c ∷ d ∷ [])) 0) ≡ (a || (b || (c || d)))
    by_tests true b c d = refl
    by_tests false true c d = refl
    by_tests false false true d = refl
    by_tests false false false true = refl
    by_tests false false false false = refl

pub asked : (script : List ℕ) (budget size : ℕ) (r : Result (Unit {0}) Refusal) {b t : Bool} → told_number r ≡ lowest 32 (faults_with script budget size 2) → b ≡ is_err r → b ≡ t
    → visit_refused script budget size ≡ t
asked script budget size r q e k = sym (refuses script budget size) ∙ sym (ap (λ (n : ℕ). not (eqb n 0)) q) ∙ sym (err_numbered r) ∙ sym e ∙ k

-- What holds where nothing is refused.
pub record Fit (script : List ℕ) (budget size : ℕ) : Type 0 where
  pub whole_script : bad_script script ≡ false
  pub good_events : bad_events script ≡ false
  pub low : budget ≤ 4096
  pub room : 2 * budget ≤ size

pub fit : {script : List ℕ} {budget size : ℕ} → visit_refused script budget size ≡ false → Fit script budget size
unfolding visit_refused big_budget
fit {script} {budget} {size} e =
    let a = neither (bad_script script) _ e in
    let b = neither (bad_events script) _ a.1 in
    let c = neither (ltb 4096 budget) _ b.1 in
    record { whole_script = a.0; good_events = b.0; low = ltb-false 4096 budget c.0; room = ltb-false size (2 * budget) c.1 }

-- An accepted text and its image go by the same places.
one_row : (text script : List ℕ) (budget : ℕ) → accepted text ≡ true → image_visits (image text) script budget ≡ text_visits text script budget
unfolding image_visits cell_acts text_visits lines_visits line_acts
one_row text script budget ok = same_visits text ok budget (events script)

module _ (text room : List ℕ) {t : Translated} {after : List ℕ} (a : Translates text room t after) (script : List ℕ) (budget : ℕ) (buffer : List ℕ) where
  number_is : t.number ≡ (translated text (length room)).number
  number_is = ap (λ (x : Translated). x.number) a.answers

  -- The text is refused.
  pub text_refused : (t.number ≡ 0 → ⊥) → Visited text room script budget buffer 0 after buffer
  unfolding visited_turns visited_into
  text_refused h =
      let n = ne_eqb (translated text (length room)).number 0 (λ z. h (number_is ∙ z)) in
      record { answers = rw n; leaves_image = a.leaves; leaves_visits = rw n }

  module _ (z : t.number ≡ 0) where
    zero_is : (translated text (length room)).number ≡ 0
    zero_is = sym number_is ∙ z

    -- The script, the budget or the room is.
    pub call_refused : visit_refused script budget (length buffer) ≡ true → Visited text room script budget buffer 0 after buffer
    unfolding visited_turns visited_into
    call_refused h = record { answers = rw (zero_is, h) refl; leaves_image = a.leaves; leaves_visits = rw (zero_is, h) refl }

    accepts : Accepts text (length room)
    accepts = go (answer text (length room))
      where
        go : Answer text (length room) → Accepts text (length room)
        go (refused h l) = absurd (h zero_is)
        go (taken q) = q

    -- Nothing is.
    pub visited : visit_refused script budget (length buffer) ≡ false → {s : List ℕ} {turns : ℕ} {visits : List ℕ} → s ≡ take t.length after
        → VisitedAs (image_visits s script budget) turns buffer visits → Visited text room script budget buffer turns after visits
    unfolding visited_turns visited_into
    visited h {s} e v =
        let q = accepts in
        let k : image_visits s script budget ≡ text_visits text script budget =
        ap (λ (x : List ℕ). image_visits x script budget) (e ∙ whole text room a q) ∙ one_row text script budget q.ok in
        record {
          answers = rw (zero_is, h) (v.turns ∙ ap length k);
          leaves_image = a.leaves;
          leaves_visits = rw (zero_is, h) (v.buffer ∙ ap (λ (ps : List ℕ). visits_over ps buffer) k);
        }
