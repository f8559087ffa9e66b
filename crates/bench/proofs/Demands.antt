-- The bench's own calls meet the customer's three demands.
-- Assumes nothing.
use mathlib.Core.Path.{◌≡◌, refl, sym, subst, ap, ap₂, ◌∙◌}
use mathlib.Core.Bool.{Bool, true, false, ◌&&◌, not, true≢false, false≢true}
use mathlib.Core.List.{List, [], ◌∷◌, ◌++◌}
use mathlib.Core.Logic.{◌↔◌, ◌⊎◌, inl, inr, ⊎_elim}
use Prim.Native.Nat.{ℕ, zero, suc, ◌+◌, ◌*◌, ◌≤◌, ◌<◌}
use native.Mathlib.Omega.{arith}
use borrow.Author.Tests.{ltb-true, ltb-false, le-ltb, eqb-true, eqb-false, ne_eqb}
use lib.Dec.{eqb, ltb}
use lib.ListN.{length, take, drop}
use lib.Seq.{take_at}
use Rattle.numbers.specs.Bytes.{Bytes}
use Rattle.numbers.specs.Tests.{lowest, Lowest, NoRow}
use Rattle.text.specs.declared.Fault.{Fault}
use Rattle.text.specs.Faults.{overlong, fault, first_fault}
use Rattle.image.specs.Check.{bad_length, bad_edition, bad_trailer, bad_cells, bad_records, image_faults, checked}
use Rattle.events.specs.Events.{bad_script, bad_event, bad_events, first_bad_event, event_count, events}
use Rattle.machine.specs.Run.{Course, over}
use Rattle.running.specs.Courses.{cell_acts, image_trace, image_course}
use Rattle.translation.specs.Images.{image, accepted}
use Rattle.events.proofs.Scripts.{bad_events_lem}
use Rattle.numbers.proofs.Lowest.{lowest_range, lowest_exactly, lowest_zero, first_exactly}
use Rattle.refusals.proofs.First.{first_exactly_at, first_none, Given, first_given}
use Rattle.printing.specs.Listing.{listing}
use Rattle.listing.proofs.Back.{listing_accepted}
use Rattle.listing.proofs.Image.{listing_image}
use Rattle.agreement.proofs.Checked.{image_checked}
use Rattle.agreement.proofs.Course.{same_steps, same_course}
use Rattle.bench.specs.Translating.{answered, too_short, translated, translated_into}
use Rattle.bench.specs.Answers.{ran_as, refused_as}
use Rattle.bench.specs.Running.{checked_as, big_budget, small_room, run_faults, run_refusal, refusal_index, ran, ran_into}
use Rattle.bench.specs.Following.{line_acts, lines_trace, text_trace, lines_course, text_course, followed, followed_into}
use Rattle.bench.specs.Calls.{Translates, Checks, Runs}
use Rattle.bench.specs.declared.Translated.{Translated}
use Rattle.bench.specs.declared.Checked.{Checked}
use Rattle.bench.specs.declared.Ran.{Ran}
use Rattle.bench.specs.Demands.{Translation, given, FirstFault, FirstBad, TextRefused, ImageRefused, RunRefused, TurnsInto, Demand1, Demand2, Demand3, our_translate, our_check, our_run}
use Rattle.bench.proofs.Texts.{clean_bytes}

-- The promises of the calls (Calls.antt) say exactly that they are these functions.
pub translates_ours : (text before : List ℕ) (a : Translated) (after : List ℕ)
    → Translates text before a after ↔ ((a ≡ (our_translate text before).answer) × (after ≡ (our_translate text before).image))
translates_ours text before a after = (λ t. (t.answers, t.leaves), λ e. record { answers = e.0; leaves = e.1 })

pub checks_ours : (s : List ℕ) (a : Checked) → Checks s a ↔ (a ≡ our_check s)
checks_ours s a = (λ c. c.answers, λ e. record { answers = e })

pub runs_ours : (s script : List ℕ) (budget : ℕ) (before : List ℕ) (a : Ran) (after : List ℕ)
    → Runs s script budget before a after ↔ ((a ≡ (our_run s script budget before).answer) × (after ≡ (our_run s script budget before).records))
runs_ours s script budget before a after = (λ r. (r.answers, r.leaves), λ e. record { answers = e.0; leaves = e.1 })

-- What an accepted text has: it is not overlong, and no line of it is faulty.
pub record Sound (text : List ℕ) : Type 0 where
  pub short : overlong text ≡ false
  pub clean : (first_fault text).number ≡ 0

parts : (a b : Bool) → (not a && b) ≡ true → (a ≡ false) × (b ≡ true)
parts true b e = absurd (false≢true e)
parts false b e = (refl, e)

pub sound : (text : List ℕ) → accepted text ≡ true → Sound text
unfolding accepted
sound text ok =
    let p = parts (overlong text) (eqb (first_fault text).number 0) ok in
    record { short = p.0; clean = eqb-true (first_fault text).number 0 p.1 }

pub sound_accepted : (text : List ℕ) → overlong text ≡ false → (first_fault text).number ≡ 0 → accepted text ≡ true
unfolding accepted
sound_accepted text s c = rw (s, c) refl

-- An accepted text in a buffer with room.
module _ (text buffer : List ℕ) (ok : accepted text ≡ true) (room : length (image text) ≤ length buffer) where
  pub translated_fits : translated text (length buffer) ≡ answered 0 0 (length (image text))
  unfolding translated too_short
  translated_fits =
      let s = sound text ok in
      rw (s.short, s.clean, le-ltb (length buffer) (length (image text)) room) refl

  pub into_fits : translated_into text buffer ≡ image text ++ drop (length (image text)) buffer
  unfolding translated_into
  into_fits = rw translated_fits refl

  pub ours_fits : our_translate text buffer ≡ record { answer = answered 0 0 (length (image text)); image = image text ++ drop (length (image text)) buffer }
  ours_fits = rw (translated_fits, into_fits) refl

  pub given_fits : given (our_translate text buffer) ≡ image text
  given_fits = rw (translated_fits, into_fits) (take_at (image text) (drop (length (image text)) buffer) (length (image text)) refl)

-- An accepted image on an accepted script, with a budget that is not too big and room for the records.
module _ (s script : List ℕ) (budget : ℕ) (buffer : List ℕ) (good : checked s ≡ 0) (whole : bad_script script ≡ false) (fine : bad_events script ≡ false)
    (low : budget ≤ 4096) (room : 12 * budget ≤ length buffer) where
  pub none_refused : run_refusal s script budget (length buffer) ≡ 0
  unfolding run_refusal run_faults lowest big_budget small_room
  none_refused = rw (good, whole, fine, le-ltb 4096 budget low, le-ltb (length buffer) (12 * budget) room) refl

  pub run_accepted : our_run s script budget buffer ≡ record { answer = ran_as (image_course s script budget); records = over (image_course s script budget) buffer }
  unfolding ran ran_into
  run_accepted = rw none_refused refl

-- Beside demand 3, over the definitions: an accepted text and its image take the same turns, step for step, within any budget. Each turn has the same number,
-- the same machine before it and once its events have acted, a statement that does the same, and the same outcome; so both go by the same places, and end for the same reason.
pub one_trace : (text script : List ℕ) (budget : ℕ) → accepted text ≡ true → image_trace (image text) script budget ≡ text_trace text script budget
unfolding image_trace cell_acts text_trace lines_trace line_acts
one_trace text script budget ok = same_steps text ok budget (events script)

-- So they go one course.
pub one_course : (text script : List ℕ) (budget : ℕ) → accepted text ≡ true → image_course (image text) script budget ≡ text_course text script budget
unfolding image_course cell_acts text_course lines_course line_acts
one_course text script budget ok = same_course text ok budget (events script)

pub demand3 : Demand3 our_translate our_run
unfolding followed followed_into
demand3 =
    record {
      one_thing = λ text room script budget buffer ok fits whole fine low size.
          ap (λ (s : List ℕ). our_run s script budget buffer) (given_fits text room ok fits)
          ∙ run_accepted (image text) script budget buffer (image_checked text ok) whole fine low size
          ∙ ap (λ (c : Course). record { answer = ran_as c; records = over c buffer }) (one_course text script budget ok);
    }

-- Demand 1, translating: a text falls under one of four cases.
module _ (text buffer : List ℕ) (t : Translation) where
  over_case : overlong text ≡ true → t.answer ≡ answered 1 0 0 → t.image ≡ buffer → TextRefused text buffer t
  over_case o e i =
      let n : t.answer.number ≡ 1 = ap (λ (a : Translated). a.number) e in
      let l : t.answer.line ≡ 0 = ap (λ (a : Translated). a.line) e in
      let k : t.answer.length ≡ 0 = ap (λ (a : Translated). a.length) e in
      record {
        number_1 = (λ q. o, λ q. n);
        faulty = λ k j high. (λ q. let z = q.0 in absurd (omega arith), λ q. absurd (true≢false (sym o ∙ q.0)));
        number_10 = (λ q. absurd (omega arith), λ q. absurd (true≢false (sym o ∙ q.0)));
        number_0 = (λ q. absurd (omega arith), λ q. absurd (true≢false (sym o ∙ q.0)));
        line_1 = λ q. l;
        line_10 = λ q. l;
        line_0 = λ q. l;
        length_refused = λ q. k;
        length_accepted = λ q. absurd (omega arith);
        buffer_refused = λ q. i;
      }

  module _ (short : overlong text ≡ false) where
    fault_case : Given text (first_fault text) → t.answer ≡ answered (first_fault text).number (first_fault text).line 0 → t.image ≡ buffer → TextRefused text buffer t
    fault_case g e i =
        let n : t.answer.number ≡ (first_fault text).number = ap (λ (a : Translated). a.number) e in
        let l : t.answer.line ≡ (first_fault text).line = ap (λ (a : Translated). a.line) e in
        let k : t.answer.length ≡ 0 = ap (λ (a : Translated). a.length) e in
        let r = g.number in
        let low = g.possible.0 in
        record {
          number_1 = (λ q. absurd (omega arith), λ q. absurd (true≢false (sym q ∙ short)));
          faulty = λ m j high. (
            λ q. (short, (first_exactly_at text m j).0 (ap₂ fault (sym n ∙ q.0) (sym l ∙ q.1))),
            λ q.
                let f = (first_exactly_at text m j).1 q.1 in
                (n ∙ ap (λ (x : Fault). x.number) f, l ∙ ap (λ (x : Fault). x.line) f),
          );
          number_10 = (λ q. absurd (omega arith), λ q. let z = (first_none text).1 q.1 in absurd (omega arith));
          number_0 = (λ q. absurd (omega arith), λ q. let z = (first_none text).1 q.1 in absurd (omega arith));
          line_1 = λ q. absurd (omega arith);
          line_10 = λ q. absurd (omega arith);
          line_0 = λ q. absurd (omega arith);
          length_refused = λ q. k;
          length_accepted = λ q. absurd (omega arith);
          buffer_refused = λ q. i;
        }

    module _ (clean : (first_fault text).number ≡ 0) where
      not_first : (k l : ℕ) → FirstFault text k l → ⊥
      not_first k l c = let z : (first_fault text).number ≡ 2 + k = ap (λ (x : Fault). x.number) ((first_exactly_at text k l).1 c) in omega arith

      short_case : length buffer < length (image text) → t.answer ≡ answered 10 0 0 → t.image ≡ buffer → TextRefused text buffer t
      short_case h e i =
          let n : t.answer.number ≡ 10 = ap (λ (a : Translated). a.number) e in
          let l : t.answer.line ≡ 0 = ap (λ (a : Translated). a.line) e in
          let k : t.answer.length ≡ 0 = ap (λ (a : Translated). a.length) e in
          record {
            number_1 = (λ q. absurd (omega arith), λ q. absurd (true≢false (sym q ∙ short)));
            faulty = λ k j high. (λ q. let z = q.0 in absurd (omega arith), λ q. absurd (not_first k j q.1));
            number_10 = (λ q. (short, (first_none text).0 clean, h), λ q. n);
            number_0 = (λ q. absurd (omega arith), λ q. let z = q.2 in absurd (omega arith));
            line_1 = λ q. l;
            line_10 = λ q. l;
            line_0 = λ q. l;
            length_refused = λ q. k;
            length_accepted = λ q. absurd (omega arith);
            buffer_refused = λ q. i;
          }

      fits_case : length (image text) ≤ length buffer → t.answer ≡ answered 0 0 (length (image text)) → TextRefused text buffer t
      fits_case h e =
          let n : t.answer.number ≡ 0 = ap (λ (a : Translated). a.number) e in
          let l : t.answer.line ≡ 0 = ap (λ (a : Translated). a.line) e in
          record {
            number_1 = (λ q. absurd (omega arith), λ q. absurd (true≢false (sym q ∙ short)));
            faulty = λ k j high. (λ q. let z = q.0 in absurd (omega arith), λ q. absurd (not_first k j q.1));
            number_10 = (λ q. absurd (omega arith), λ q. let z = q.2 in absurd (omega arith));
            number_0 = (λ q. (short, (first_none text).0 clean, h), λ q. n);
            line_1 = λ q. l;
            line_10 = λ q. l;
            line_0 = λ q. l;
            length_refused = λ q. absurd (q n);
            length_accepted = λ q. ap (λ (a : Translated). a.length) e;
            buffer_refused = λ q. absurd (q n);
          }

module _ (text buffer : List ℕ) where
  kept : (n : ℕ) → (translated text (length buffer)).number ≡ n → (n ≡ 0 → ⊥) → translated_into text buffer ≡ buffer
  unfolding translated_into
  kept n e h = rw (e, ne_eqb n 0 h) refl

  by_room : (b : Bool) → ltb (length buffer) (length (image text)) ≡ b → overlong text ≡ false → (first_fault text).number ≡ 0 → TextRefused text buffer (our_translate text buffer)
  unfolding translated too_short
  by_room true r short clean =
      let e : translated text (length buffer) ≡ answered 10 0 0 = rw (short, clean, r) refl in
      short_case text buffer (our_translate text buffer) short clean (ltb-true (length buffer) (length (image text)) r) e
      (kept 10 (ap (λ (a : Translated). a.number) e) (λ z. absurd (omega arith)))
  by_room false r short clean =
      fits_case text buffer (our_translate text buffer) short clean (ltb-false (length buffer) (length (image text)) r) (rw (short, clean, r) refl)

  by_fault : ((first_fault text).number ≡ 0) ⊎ Given text (first_fault text) → overlong text ≡ false → TextRefused text buffer (our_translate text buffer)
  unfolding translated
  by_fault (inl f) short = by_room (ltb (length buffer) (length (image text))) refl short f
  by_fault (inr g) short =
      let some : (first_fault text).number ≡ 0 → ⊥ = λ z. let r = g.number in absurd (omega arith) in
      let e : translated text (length buffer) ≡ answered (first_fault text).number (first_fault text).line 0 =
      rw (short, ne_eqb (first_fault text).number 0 some) refl in
      fault_case text buffer (our_translate text buffer) short g e (kept (first_fault text).number (ap (λ (a : Translated). a.number) e) some)

  by_size : (b : Bool) → overlong text ≡ b → TextRefused text buffer (our_translate text buffer)
  unfolding translated
  by_size true o =
      let e : translated text (length buffer) ≡ answered 1 0 0 = rw o refl in
      over_case text buffer (our_translate text buffer) o e (kept 1 (ap (λ (a : Translated). a.number) e) (λ z. absurd (omega arith)))
  by_size false o = by_fault (first_given text) o

  pub text_refused : TextRefused text buffer (our_translate text buffer)
  text_refused = by_size (overlong text) refl

-- Demand 1, checking.
pub image_refused : (s : List ℕ) → ImageRefused s (our_check s)
unfolding checked_as checked
image_refused s = record { refused = lowest_exactly 20 (image_faults s); none = lowest_zero 20 (image_faults s) }

-- An image's refusal is from 21 to 25.
pub image_numbers : (s : List ℕ) → (checked s ≡ 0 → ⊥) → (21 ≤ checked s) × (checked s ≤ 25)
unfolding checked image_faults
image_numbers s h =
    ⊎_elim (λ z. absurd (h z)) (λ r. r)
    (lowest_range 20 (bad_length s ∷ bad_edition s ∷ bad_trailer s ∷ bad_cells s ∷ bad_records s ∷ []))

-- Demand 1, running: the number, the index and the rest of the answer.
module _ (s script : List ℕ) (budget : ℕ) (buffer : List ℕ) where
  abbrev number : ℕ
  number = run_refusal s script budget (length buffer)

  abbrev rows : List Bool
  rows = run_faults script budget (length buffer)

  pub ran_number : (ran s script budget (length buffer)).number ≡ number
  unfolding ran ran_as refused_as
  ran_number = go number refl where
    go : (n : ℕ) → number ≡ n → (ran s script budget (length buffer)).number ≡ number
    go zero e = rw e refl
    go (suc n) e = rw (e, ne_eqb (suc n) 0 (λ z. absurd (omega arith))) refl

  ran_index : (ran s script budget (length buffer)).index ≡ refusal_index number script
  unfolding ran ran_as refused_as refusal_index
  ran_index = go number refl where
    go : (n : ℕ) → number ≡ n → (ran s script budget (length buffer)).index ≡ refusal_index number script
    go zero e = rw e refl
    go (suc n) e = rw (e, ne_eqb (suc n) 0 (λ z. absurd (omega arith))) refl

  ran_refused : (number ≡ 0 → ⊥) → ran s script budget (length buffer) ≡ refused_as number (refusal_index number script)
  unfolding ran
  ran_refused h = rw (ne_eqb number 0 h) refl

  ran_kept : (number ≡ 0 → ⊥) → ran_into s script budget buffer ≡ buffer
  unfolding ran_into
  ran_kept h = rw (ne_eqb number 0 h) refl

  module _ (good : checked s ≡ 0) where
    by_rows : number ≡ lowest 32 rows
    unfolding run_refusal
    by_rows = rw good refl

    no_fault : NoRow (image_faults s)
    unfolding checked
    no_fault = (lowest_zero 20 (image_faults s)).0 good

    good_numbers : (k : ℕ) → k < 5 → (number ≡ 21 + k) ↔ Lowest (image_faults s) k
    unfolding checked
    good_numbers k h = (
      λ e. let b = by_rows in ⊎_elim (λ z. absurd (omega arith)) (λ r. absurd (omega arith)) (lowest_range 31 rows),
      λ c. let e = (lowest_exactly 20 (image_faults s) k).1 c in absurd (omega (arith, good)),
    )

    good_runs : (k : ℕ) → (number ≡ 32 + k) ↔ (NoRow (image_faults s) × Lowest rows k)
    good_runs k = (λ e. (no_fault, (lowest_exactly 31 rows k).0 (sym by_rows ∙ e)), λ c. by_rows ∙ (lowest_exactly 31 rows k).1 c.1)

    good_none : (number ≡ 0) ↔ (NoRow (image_faults s) × NoRow rows)
    good_none = (λ e. (no_fault, (lowest_zero 31 rows).0 (sym by_rows ∙ e)), λ c. by_rows ∙ (lowest_zero 31 rows).1 c.1)

  module _ (bad : checked s ≡ 0 → ⊥) where
    by_image : number ≡ checked s
    unfolding run_refusal
    by_image = rw (ne_eqb (checked s) 0 bad) refl

    some_fault : NoRow (image_faults s) → ⊥
    unfolding checked
    some_fault f = bad ((lowest_zero 20 (image_faults s)).1 f)

    bad_numbers : (k : ℕ) → (number ≡ 21 + k) ↔ Lowest (image_faults s) k
    unfolding checked
    bad_numbers k = (λ e. (lowest_exactly 20 (image_faults s) k).0 (sym by_image ∙ e), λ c. by_image ∙ (lowest_exactly 20 (image_faults s) k).1 c)

    bad_runs : (k : ℕ) → (number ≡ 32 + k) ↔ (NoRow (image_faults s) × Lowest rows k)
    bad_runs k = (λ e. let b = by_image in let r = image_numbers s bad in absurd (omega arith), λ c. absurd (some_fault c.0))

    bad_none : (number ≡ 0) ↔ (NoRow (image_faults s) × NoRow rows)
    bad_none = (λ e. absurd (bad (sym by_image ∙ e)), λ c. absurd (some_fault c.0))

  record Numbers : Type 0 where
    pub images : (k : ℕ) → k < 5 → (number ≡ 21 + k) ↔ Lowest (image_faults s) k
    pub runs : (k : ℕ) → (number ≡ 32 + k) ↔ (NoRow (image_faults s) × Lowest rows k)
    pub none : (number ≡ 0) ↔ (NoRow (image_faults s) × NoRow rows)

  numbers : Numbers
  numbers = go (eqb (checked s) 0) refl where
    go : (b : Bool) → eqb (checked s) 0 ≡ b → Numbers
    go true e = let g = eqb-true (checked s) 0 e in record { images = good_numbers g; runs = good_runs g; none = good_none g }
    go false e = let g = eqb-false (checked s) 0 e in record { images = λ k h. bad_numbers g k; runs = bad_runs g; none = bad_none g }

  -- 33: there is a bad event, and the first of them is given.
  event_there : number ≡ 33 → first_bad_event script < event_count script
  unfolding run_faults
  event_there e = ltb-true (first_bad_event script) (event_count script) (sym (bad_events_lem script) ∙ ((numbers.runs 1).0 e).1.0)

  event_first : number ≡ 33 → (i : ℕ) → (refusal_index number script ≡ i) ↔ FirstBad script i
  unfolding refusal_index first_bad_event
  event_first e i =
      let h = event_there e in
      let z : refusal_index number script ≡ first_bad_event script = rw e refl in (
        λ q.
            let l : i < event_count script = omega (arith, sym z ∙ q) in
            let c = (first_exactly (event_count script) (bad_event script) i l).0 (sym z ∙ q) in
            (l, c.0, c.1),
        λ c. z ∙ (first_exactly (event_count script) (bad_event script) i c.0).1 (c.1, c.2),
      )

  no_event : (number ≡ 33 → ⊥) → refusal_index number script ≡ 0
  unfolding refusal_index
  no_event h = rw (ne_eqb number 33 h) refl

  pub run_refused : RunRefused s script budget buffer (our_run s script budget buffer)
  run_refused =
      record {
        image_refused = λ k h. (λ e. (numbers.images k h).0 (sym ran_number ∙ e), λ c. ran_number ∙ (numbers.images k h).1 c);
        run_refused = λ k. (λ e. (numbers.runs k).0 (sym ran_number ∙ e), λ c. ran_number ∙ (numbers.runs k).1 c);
        none = (λ e. numbers.none.0 (sym ran_number ∙ e), λ c. ran_number ∙ numbers.none.1 c);
        event = λ e i. (λ q. (event_first (sym ran_number ∙ e) i).0 (sym ran_index ∙ q), λ c. ran_index ∙ (event_first (sym ran_number ∙ e) i).1 c);
        no_event = λ h. ran_index ∙ no_event (λ e. h (ran_number ∙ e));
        rest_refused = λ h. ran_refused (λ e. h (ran_number ∙ e)) ∙ ap₂ refused_as (sym ran_number) (sym ran_index);
        buffer_refused = λ h. ran_kept (λ e. h (ran_number ∙ e));
      }

pub demand1 : Demand1 our_translate our_check our_run
demand1 = record { translating = text_refused; checking = image_refused; running = run_refused }

-- Demand 2: the listing of an accepted image is a text for it; and bytes that translating gives are an image, which is accepted.
module _ (s : List ℕ) (byte : Bytes s) where
  listed : checked s ≡ 0 → (text : List ℕ) × Bytes text × (accepted text ≡ true) × TurnsInto our_translate text s
  listed e =
      let text = listing s in
      let ok = listing_accepted s e in
      let same : image text ≡ s = listing_image s e byte in (
        text,
        clean_bytes text (sound text ok).clean,
        ok,
        λ buffer h.
            let room : length (image text) ≤ length buffer = rw same h in
            let a = translated_fits text buffer ok room in (
              ap (λ (t : Translated). t.number) a,
              ap (λ (t : Translated). t.length) a ∙ ap length same,
              rw (into_fits text buffer ok room) (take_at (image text) (drop (length (image text)) buffer) (length s) (ap length same)) ∙ same,
            ),
      )

  unlisted : (text : List ℕ) → accepted text ≡ true → TurnsInto our_translate text s → checked s ≡ 0
  unlisted text ok f =
      let r = f s (omega arith) in
      let room : length (image text) ≤ length s = ((text_refused text s).number_0.0 r.0).2 in
      let size : length (image text) ≡ length s = sym (ap (λ (t : Translated). t.length) (translated_fits text s ok room)) ∙ r.1 in
      let same : image text ≡ s =
      sym (take_at (image text) (drop (length (image text)) s) (length s) size)
      ∙ ap (take (length s)) (sym (into_fits text s ok room))
      ∙ r.2 in
      subst (λ (i : List ℕ). checked i ≡ 0) same (image_checked text ok)

pub demand2 : Demand2 our_translate our_check our_run
unfolding checked_as
demand2 =
    record {
      laid_out = λ text buffer ok room. ours_fits text buffer ok room;
      taken = λ text ok. image_checked text ok;
      from_text = λ s byte. (listed s byte, λ c. unlisted s byte c.0 c.2 c.3);
      turn_by_turn = λ s script budget buffer good whole fine low room. run_accepted s script budget buffer good whole fine low room;
    }
