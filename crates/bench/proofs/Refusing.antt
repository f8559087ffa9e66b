-- What refuses a run, by the number of the refusal; and what holds where nothing does.
-- Assumes nothing.
use mathlib.Core.Path.{◌≡◌, refl, sym, ap, ◌∙◌}
use mathlib.Core.Bool.{Bool, true, false, not, cond}
use mathlib.Core.List.{List}
use Prim.Native.Nat.{ℕ, ◌*◌, ◌≤◌, ◌<◌}
use native.Mathlib.Omega.{arith}
use borrow.Author.Tests.{lt-ltb, le-ltb, ltb-false, ne_eqb, eqb-true, eqb-false}
use lib.Dec.{eqb}
use Rattle.std.specs.Prelude.{Result, Ok, Err, is_err}
use Rattle.numbers.specs.Tests.{lowest}
use Rattle.numbers.proofs.Lowest.{lowest_zero}
use Rattle.image.specs.Check.{checked}
use Rattle.events.specs.Events.{bad_script, bad_events, first_bad_event, event_count}
use Rattle.events.proofs.Scripts.{bad_events_lem}
use Rattle.bench.specs.declared.Refusal.{Refusal}
use Rattle.bench.specs.declared.Refusal.TheVariants.{Image, BadScript, BadEvent, BigBudget, SmallRoom}
use Rattle.bench.specs.Running.{big_budget, small_room, run_faults, run_refusal, refusal_index, faults_with, number_of, index_of, told_number, told_index}
use Rattle.checking.specs.Code as Checking
use Rattle.checking.specs.declared.Refusal as OfImage
use Rattle.checking.specs.declared.Refusal.TheVariants as Checked
use Rattle.bench.proofs.Refusals.{no_bad_event}

-- What a refusal tells: its number, which is never 0, and the index beside it.
pub record Told (n : ℕ) (script : List ℕ) (e : Refusal) : Type 0 where
  pub some : n ≡ 0 → ⊥
  pub number : number_of e ≡ n
  pub index : refusal_index n script ≡ index_of e

pub some_image : (r : OfImage.Refusal) → Checking.number_of r ≡ 0 → ⊥
unfolding Checking.number_of
some_image Checked.BadLength z = omega arith
some_image Checked.BadEdition z = omega arith
some_image Checked.BadTrailer z = omega arith
some_image Checked.BadCells z = omega arith
some_image Checked.BadRecords z = omega arith

numbered : (e : Refusal) → number_of e ≡ 0 → ⊥
unfolding number_of
numbered (Image r) z = some_image r z
numbered BadScript z = omega arith
numbered (BadEvent i) z = omega arith
numbered BigBudget z = omega arith
numbered SmallRoom z = omega arith

-- What may be refused by a number on a script: the one, and the index beside it.
pub record Asked (n : ℕ) (script : List ℕ) (r : Result (Unit {0}) Refusal) : Type 0 where
  pub number : told_number r ≡ n
  pub index : told_index r ≡ refusal_index n script

pub told : {n : ℕ} {script : List ℕ} {r : Result (Unit {0}) Refusal} {e : Refusal} → Asked n script r → r ≡ Err e → Told n script e
unfolding told_number told_index
told {n} {script} {r} {e} a p =
    let q : number_of e ≡ n = sym (ap told_number p) ∙ a.number in
    record { some = λ z. numbered e (q ∙ z); number = q; index = sym a.index ∙ ap told_index p }

pub none_told : {n : ℕ} {r : Result (Unit {0}) Refusal} {u : Unit {0}} → told_number r ≡ n → r ≡ Ok u → n ≡ 0
unfolding told_number
none_told q p = sym q ∙ ap told_number p

-- A refusal is one whose number is not 0.
pub err_numbered : (r : Result (Unit {0}) Refusal) → is_err r ≡ not (eqb (told_number r) 0)
unfolding told_number
err_numbered (Ok u) = refl
err_numbered (Err e) = sym (ap not (ne_eqb (number_of e) 0 (numbered e)))

-- Which test refuses a run on a script.
module _ (script : List ℕ) (budget room size : ℕ) where
  abbrev By : Result (Unit {0}) Refusal → Type 0
  By r = Asked (lowest 32 (faults_with script budget room size)) script r

  pub by_script : bad_script script ≡ true → By (Err BadScript)
  unfolding lowest told_number told_index number_of index_of refusal_index
  by_script t = record { number = sym (rw t refl); index = sym (rw t refl) }

  module _ (w : bad_script script ≡ false) {i n : ℕ} (e : i ≡ first_bad_event script) (k : n ≡ event_count script) where
    pub by_event : i < n → By (Err (BadEvent i))
    unfolding lowest told_number told_index number_of index_of refusal_index
    by_event h = let t : bad_events script ≡ true = bad_events_lem script ∙ rw (← e, ← k) (lt-ltb i n h) in record { number = sym (rw (w, t) refl); index = sym (rw (w, t, e) refl) }

    module _ (h : n ≤ i) where
      fine : bad_events script ≡ false
      fine = no_bad_event script e (rw k at h)

      pub by_budget : 4096 < budget → By (Err BigBudget)
      unfolding lowest told_number told_index number_of index_of refusal_index big_budget
      by_budget l = record { number = sym (rw (w, fine, lt-ltb 4096 budget l) refl); index = sym (rw (w, fine, lt-ltb 4096 budget l) refl) }

      module _ (l : budget ≤ 4096) where
        pub by_room : room < size * budget → By (Err SmallRoom)
        unfolding lowest told_number told_index number_of index_of refusal_index big_budget
        by_room o = record {
          number = sym (rw (w, fine, le-ltb 4096 budget l, lt-ltb room (size * budget) o) refl);
          index = sym (rw (w, fine, le-ltb 4096 budget l, lt-ltb room (size * budget) o) refl);
        }

        pub by_none : size * budget ≤ room → By (Ok tt)
        unfolding lowest told_number told_index number_of index_of refusal_index big_budget
        by_none o = record {
          number = sym (rw (w, fine, le-ltb 4096 budget l, le-ltb room (size * budget) o) refl);
          index = sym (rw (w, fine, le-ltb 4096 budget l, le-ltb room (size * budget) o) refl);
        }

-- An image's refusal is none of a run's own.
below_33 : (r : OfImage.Refusal) → eqb (Checking.number_of r) 33 ≡ false
unfolding Checking.number_of
below_33 Checked.BadLength = refl
below_33 Checked.BadEdition = refl
below_33 Checked.BadTrailer = refl
below_33 Checked.BadCells = refl
below_33 Checked.BadRecords = refl

module _ (s script : List ℕ) (budget room : ℕ) {answer : Result (Unit {0}) OfImage.Refusal} (q : Checking.refusal_number answer ≡ checked s) where
  pub by_image : {r : OfImage.Refusal} → answer ≡ Err r → Asked (run_refusal s script budget room) script (Err (Image r))
  unfolding run_refusal told_number told_index number_of index_of refusal_index Checking.refusal_number
  by_image {r} p =
      let e : Checking.number_of r ≡ checked s = sym (ap Checking.refusal_number p) ∙ q in
      let t = ne_eqb (checked s) 0 (λ z. some_image r (e ∙ z)) in
      record { number = e ∙ sym (rw t refl); index = sym (rw (t, ← e, below_33 r) refl) }

  pub by_rest : {u : Unit {0}} {r : Result (Unit {0}) Refusal} → answer ≡ Ok u → Asked (lowest 32 (faults_with script budget room 12)) script r → Asked (run_refusal s script budget room) script r
  unfolding run_refusal run_faults small_room Checking.refusal_number
  by_rest p a =
      let good : checked s ≡ 0 = sym q ∙ ap Checking.refusal_number p in
      record { number = a.number ∙ sym (rw good refl); index = a.index ∙ sym (rw good refl) }

module _ (s script : List ℕ) (budget room : ℕ) where
  -- Nothing refuses the run.
  pub record Clear : Type 0 where
    pub image : checked s ≡ 0
    pub whole : bad_script script ≡ false
    pub fine : bad_events script ≡ false
    pub low : budget ≤ 4096
    pub space : 12 * budget ≤ room

  clear_by : (t : Bool) → eqb (checked s) 0 ≡ t → cond t (lowest 32 (run_faults script budget room)) (checked s) ≡ 0 → Clear
  unfolding run_faults big_budget small_room
  clear_by true z e =
      let none = (lowest_zero 31 (run_faults script budget room)).0 e in
      record {
        image = eqb-true (checked s) 0 z;
        whole = none 0;
        fine = none 1;
        low = ltb-false 4096 budget (none 2);
        space = ltb-false room (12 * budget) (none 3);
      }
  clear_by false z e = absurd (eqb-false (checked s) 0 z e)

  pub clear : run_refusal s script budget room ≡ 0 → Clear
  unfolding run_refusal
  clear e = clear_by (eqb (checked s) 0) refl e
