-- Translating and then running is following the text.
-- Assumes nothing.
use mathlib.Core.Path.{◌≡◌, refl, sym, ap, ◌∙◌}
use mathlib.Core.Bool.{Bool, true, false, cond, true≢false}
use mathlib.Core.List.{List, [], ◌++◌}
use Prim.Native.Nat.{ℕ, ◌≤◌}
use native.Mathlib.Omega.{arith}
use borrow.Author.Tests.{ne_eqb, eq-eqb, eqb-true, ltb-false}
use lib.Dec.{eqb}
use lib.ListN.{length, take, drop, length-append, length-drop}
use lib.Seq.{take_at}
use Rattle.numbers.specs.Tests.{lowest}
use Rattle.text.specs.Faults.{overlong, first_fault}
use Rattle.image.specs.Check.{checked, image_faults, bad_length}
use Rattle.translation.specs.Images.{image, accepted}
use Rattle.agreement.proofs.Checked.{image_checked}
use Rattle.bench.specs.declared.Translated.{Translated}
use Rattle.bench.specs.declared.Ran.{Ran}
use Rattle.bench.specs.Translating.{too_short, translated}
use Rattle.bench.specs.Answers.{refused_as}
use Rattle.bench.specs.Running.{ran, ran_into, run_refusal, refusal_index}
use Rattle.bench.specs.Following.{followed, followed_into}
use Rattle.bench.specs.Calls.{Translates, Runs}
use Rattle.bench.proofs.Demands.{one_course, sound_accepted, translated_fits, into_fits}
use Rattle.tried.specs.Trying.{script_refusal, tried_as, tried_into, Tries}

-- What an answer to translating says of the text: it is refused, with no length; or it is accepted, and the image has room.
pub record Accepts (text : List ℕ) (room : ℕ) : Type 0 where
  pub ok : accepted text ≡ true
  pub fits : length (image text) ≤ room

pub data Answer (text : List ℕ) (room : ℕ) : Type 0 where
  refused : ((translated text room).number ≡ 0 → ⊥) → (translated text room).length ≡ 0 → Answer text room
  taken : Accepts text room → Answer text room

module _ (text : List ℕ) (room : ℕ) where
  by_tests : (a b c : Bool) → overlong text ≡ a → eqb (first_fault text).number 0 ≡ b → too_short text room ≡ c → Answer text room
  unfolding translated too_short
  by_tests true b c x y z = refused (rw x (λ e. absurd (omega arith))) (rw x refl)
  by_tests false false c x y z = refused (rw (x, y) (λ e. true≢false (sym (eq-eqb (first_fault text).number 0 e) ∙ y))) (rw (x, y) refl)
  by_tests false true true x y z = refused (rw (x, y, z) (λ e. absurd (omega arith))) (rw (x, y, z) refl)
  by_tests false true false x y z =
      taken (record { ok = sound_accepted text x (eqb-true (first_fault text).number 0 y); fits = ltb-false room (length (image text)) z })

  pub answer : Answer text room
  answer = by_tests (overlong text) (eqb (first_fault text).number 0) (too_short text room) refl refl refl

-- No image: the run is refused with 21 and leaves the buffer.
module _ (script : List ℕ) (budget : ℕ) where
  empty_ran : (size : ℕ) → ran [] script budget size ≡ refused_as 21 0
  unfolding ran run_refusal refusal_index checked image_faults bad_length lowest
  empty_ran size = refl

  empty_into : (buffer : List ℕ) → ran_into [] script budget buffer ≡ buffer
  unfolding ran_into run_refusal checked image_faults bad_length lowest
  empty_into buffer = refl

-- The image of an accepted text: only the script, the budget and the buffer can be refused, and its run is the text's.
module _ (text : List ℕ) (ok : accepted text ≡ true) (script : List ℕ) (budget : ℕ) where
  refusal_same : (size : ℕ) → run_refusal (image text) script budget size ≡ script_refusal script budget size
  unfolding run_refusal script_refusal
  refusal_same size = rw (image_checked text ok) refl

  image_ran : (size : ℕ) → let n = script_refusal script budget size in
      ran (image text) script budget size ≡ cond (eqb n 0) (followed text script budget) (refused_as n (refusal_index n script))
  unfolding ran followed
  image_ran size = rw (refusal_same size, one_course text script budget ok) refl

  image_into : (buffer : List ℕ)
      → ran_into (image text) script budget buffer ≡ cond (eqb (script_refusal script budget (length buffer)) 0) (followed_into text script budget buffer) buffer
  unfolding ran_into followed_into
  image_into buffer = rw (refusal_same (length buffer), one_course text script budget ok) refl

-- What trying gives, by the answer to translating.
module _ (text room : List ℕ) where
  tried_refused : ((translated text (length room)).number ≡ 0 → ⊥) → (script : List ℕ) (budget size : ℕ) → tried_as text (length room) script budget size ≡ refused_as 21 0
  unfolding tried_as
  tried_refused h script budget size = rw (ne_eqb (translated text (length room)).number 0 h) refl

  left_refused : ((translated text (length room)).number ≡ 0 → ⊥) → (script : List ℕ) (budget : ℕ) (buffer : List ℕ) → tried_into text (length room) script budget buffer ≡ buffer
  unfolding tried_into
  left_refused h script budget buffer = rw (ne_eqb (translated text (length room)).number 0 h) refl

  tried_taken : Accepts text (length room) → (script : List ℕ) (budget size : ℕ) → let n = script_refusal script budget size in
      tried_as text (length room) script budget size ≡ cond (eqb n 0) (followed text script budget) (refused_as n (refusal_index n script))
  unfolding tried_as
  tried_taken q script budget size = rw (translated_fits text room q.ok q.fits) refl

  left_taken : Accepts text (length room) → (script : List ℕ) (budget : ℕ) (buffer : List ℕ)
      → tried_into text (length room) script budget buffer ≡ cond (eqb (script_refusal script budget (length buffer)) 0) (followed_into text script budget buffer) buffer
  unfolding tried_into
  left_taken q script budget buffer = rw (translated_fits text room q.ok q.fits) refl

module _ (text room : List ℕ) {t : Translated} {after : List ℕ} (a : Translates text room t after) where
  -- the bytes of the image that are run
  pub prefix : t.length ≤ length after
  prefix = go (answer text (length room))
    where
      go : Answer text (length room) → t.length ≤ length after
      go (refused h l) = let e : t.length ≡ 0 = ap (λ (x : Translated). x.length) a.answers ∙ l in omega arith
      go (taken q) =
          let e : t.length ≡ length (image text) = ap (λ (x : Translated). x.length) (a.answers ∙ translated_fits text room q.ok q.fits) in
          let n : length after ≡ length (image text ++ drop (length (image text)) room) = ap length (a.leaves ∙ into_fits text room q.ok q.fits) in
          let f = q.fits in
          omega (arith, length-append (image text) (drop (length (image text)) room), length-drop (length (image text)) room)

  -- where the text is accepted they are its image
  pub whole : Accepts text (length room) → take t.length after ≡ image text
  whole q =
      ap (λ (k : ℕ). take k after) (ap (λ (x : Translated). x.length) (a.answers ∙ translated_fits text room q.ok q.fits))
      ∙ ap (λ (l : List ℕ). take (length (image text)) l) (a.leaves ∙ into_fits text room q.ok q.fits)
      ∙ take_at (image text) (drop (length (image text)) room) (length (image text)) refl

  module _ (script : List ℕ) (budget : ℕ) (buffer : List ℕ) {s : List ℕ} {r : Ran} {records : List ℕ} (e : s ≡ take t.length after) (b : Runs s script budget buffer r records) where
    pub tries : Tries text room script budget buffer (record { translated = t; ran = r }) after records
    tries =
        record {
          translates = a.answers;
          runs = b.answers ∙ go_ran (answer text (length room));
          leaves_image = a.leaves;
          leaves_records = b.leaves ∙ go_records (answer text (length room));
        }
      where
        none : ((translated text (length room)).length ≡ 0) → s ≡ []
        none l = e ∙ ap (λ (k : ℕ). take k after) (ap (λ (x : Translated). x.length) a.answers ∙ l)

        go_ran : Answer text (length room) → ran s script budget (length buffer) ≡ tried_as text (length room) script budget (length buffer)
        go_ran (refused h l) = ap (λ (x : List ℕ). ran x script budget (length buffer)) (none l) ∙ empty_ran script budget (length buffer) ∙ sym (tried_refused text room h script budget (length buffer))
        go_ran (taken q) = ap (λ (x : List ℕ). ran x script budget (length buffer)) (e ∙ whole q) ∙ image_ran text q.ok script budget (length buffer) ∙ sym (tried_taken text room q script budget (length buffer))

        go_records : Answer text (length room) → ran_into s script budget buffer ≡ tried_into text (length room) script budget buffer
        go_records (refused h l) = ap (λ (x : List ℕ). ran_into x script budget buffer) (none l) ∙ empty_into script budget buffer ∙ sym (left_refused text room h script budget buffer)
        go_records (taken q) = ap (λ (x : List ℕ). ran_into x script budget buffer) (e ∙ whole q) ∙ image_into text q.ok script budget buffer ∙ sym (left_taken text room q script budget buffer)
