-- What is written is read: by the reader of both editions as it was written, where the finished set keeps the ranges; the kept reader refuses it.
-- Assumes nothing.
use mathlib.Core.Path.{◌≡◌, refl, sym, ap, ◌∙◌}
use mathlib.Core.Bool.{Bool, true, false, cond, not, false≢true}
use mathlib.Core.List.{List, [], ◌∷◌}
use mathlib.Core.Logic.{◌↔◌}
use Prim.Native.Nat.{ℕ, ◌≤◌}
use native.Mathlib.Omega.{arith}
use borrow.Author.Tests.{le-ltb}
use lib.Dec.{eqb}
use lib.ListN.{length, drop}
use lib.Seq.{take-append_seam}
use Rattle.numbers.specs.Tests.{Each, lowest}
use Rattle.numbers.proofs.Truth.{cond_yes}
use Rattle.settings.specs.Layout.{good_pairs, file_of}
use Rattle.settings.specs.Sets.{by_pairs, finished, in_ranges}
use Rattle.settings.specs.Calls.{read_faults, read_number, shown, shown_by, chosen_pair, chosen_pairs, write_number, written}
use Rattle.settings.specs.Requests.{Accepts, KeepsRanges, merged, all_four, file_in, our_read, our_first, our_write}
use Rattle.settings.specs.declared.Pair.{Pair}
use Rattle.settings.specs.declared.Settings.{Settings}
use Rattle.settings.specs.declared.Chosen.{Chosen}
use Rattle.settings.specs.declared.Shown.{Shown}
use Rattle.settings.proofs.Ranges.{keeps_exactly}
use Rattle.settings.proofs.Files.{Fits, length_file, edition_file, trailer_file, pairs_file, laid_out_file}
use Rattle.settings.proofs.Choices.{chosen_good, chosen_under, chosen_most, chosen_fits, within_own}
use Rattle.settings.proofs.Writing.{number_0, accepted, accepted_answer, answer_number, given}

-- ---- the file of a few good pairs

module _ (ps : List Pair) (most : length ps ≤ 4) (state : Settings) where
  -- The kept reader takes no edition 2.
  file_refused : shown_by 1 (file_of ps) state ≡ shown 42 state
  unfolding read_faults read_number shown_by lowest
  file_refused = rw (le-ltb (length (file_of ps)) 8 (omega (arith, length_file ps)), le-ltb 40 (length (file_of ps)) (omega (arith, length_file ps)), edition_file ps)

  module _ (fits : Each Fits ps) (good : good_pairs 0 ps ≡ true) where
    -- The finished set is that of the pairs.
    file_finished : finished (file_of ps) state ≡ by_pairs ps state
    unfolding finished
    file_finished = rw (edition_file ps, pairs_file ps fits) refl

    -- The other reader shows it where it is in its ranges, and gives 44 where it is not: the last row of the table.
    last_row : (t : Bool) (g : Settings) → cond (eqb (lowest 44 (not t ∷ [])) 0) (shown 0 g) (shown (lowest 44 (not t ∷ [])) state) ≡ cond t (shown 0 g) (shown 44 state)
    unfolding lowest
    last_row true g = refl
    last_row false g = refl

    file_read : shown_by 2 (file_of ps) state ≡ cond (in_ranges (by_pairs ps state)) (shown 0 (by_pairs ps state)) (shown 44 state)
    unfolding read_faults read_number shown_by lowest
    file_read =
        rw (
          le-ltb (length (file_of ps)) 8 (omega (arith, length_file ps)),
          le-ltb 40 (length (file_of ps)) (omega (arith, length_file ps)),
          edition_file ps,
          trailer_file ps,
          laid_out_file ps fits good,
          file_finished,
        )
        (last_row (in_ranges (by_pairs ps state)) (by_pairs ps state))

-- ---- what an accepted call wrote

-- An answer that goes by a test, told by its number.
by_number_lem : (t : Bool) (answer : Shown) (g state : Settings) → answer ≡ cond t (shown 0 g) (shown 44 state)
    → ((answer.number ≡ 0) ↔ (t ≡ true)) × (answer.number ≡ 0 → answer ≡ shown 0 g) × ((answer.number ≡ 0 → ⊥) → answer ≡ shown 44 state)
by_number_lem true answer g state e =
    let zero : answer.number ≡ 0 = ap (λ (s : Shown). s.number) e in
    ((λ z. refl, λ h. zero), λ z. e, λ o. absurd (o zero))
by_number_lem false answer g state e =
    let other : answer.number ≡ 0 → ⊥ = λ z. let n : ◌≡◌ {A = ℕ} 0 44 = sym z ∙ ap (λ (s : Shown). s.number) e in omega arith in
    ((λ z. absurd (other z), λ h. absurd (false≢true h)), λ z. absurd (other z), λ o. e)

module _ (g : Settings) (which : Chosen) (old : List ℕ) (state : Settings) (accepts : (our_write g which old).answer.number ≡ 0) where
  -- It is the file of the chosen pairs, which the kept reader refuses.
  pub file_in_lem : file_in (our_write g which old) ≡ file_of (chosen_pairs g which)
  file_in_lem = ap file_in (given g which old accepts) ∙ take-append_seam (file_of (chosen_pairs g which)) (drop (length (file_of (chosen_pairs g which))) old)

  pub kept_back : our_first (file_in (our_write g which old)) state ≡ shown 42 state
  kept_back = rw file_in_lem (file_refused (chosen_pairs g which) (chosen_most g which) state)

  -- It is shown where the merged set is in its ranges, and refused by 44 where it is not.
  read_in : our_read (file_in (our_write g which old)) state ≡ cond (in_ranges (merged g which state)) (shown 0 (merged g which state)) (shown 44 state)
  read_in =
      let fits = chosen_fits g which (accepted g which (length old) (sym (answer_number g which (length old)) ∙ accepts)).0 in
      rw (file_in_lem, ← chosen_under g which state) (file_read (chosen_pairs g which) (chosen_most g which) state fits (chosen_good g which))

  pub read_back : (Accepts our_read (file_in (our_write g which old)) state ↔ KeepsRanges (merged g which state))
      × (Accepts our_read (file_in (our_write g which old)) state → our_read (file_in (our_write g which old)) state ≡ shown 0 (merged g which state))
      × ((Accepts our_read (file_in (our_write g which old)) state → ⊥) → our_read (file_in (our_write g which old)) state ≡ shown 44 state)
  read_back =
      let r = by_number_lem (in_ranges (merged g which state)) (our_read (file_in (our_write g which old)) state) (merged g which state) state read_in in
      let k = keeps_exactly (merged g which state) in
      ((λ z. k.0 (r.0.0 z), λ h. r.0.1 (k.1 h)), r.1, r.2)

-- A good set is written, whatever names are chosen, where there is room for four pairs.
pub good_number : (g : Settings) (which : Chosen) (room : ℕ) → in_ranges g ≡ true → 40 ≤ room → write_number g which room ≡ 0
good_number g which room good h =
    number_0 g which room (within_own g which good) (omega (arith, length_file (chosen_pairs g which), chosen_most g which, h))

-- All four names of a good set, for any given state.
pub all_back : (g : Settings) (old : List ℕ) (state : Settings) → KeepsRanges g → 40 ≤ length old
    → ((our_write g all_four old).answer ≡ written 0 40) × (our_read (file_in (our_write g all_four old)) state ≡ shown 0 g)
unfolding chosen_pair chosen_pairs merged
all_back g old state k room =
    let good : in_ranges g ≡ true = (keeps_exactly g).1 k in
    let long : length (file_of (chosen_pairs g all_four)) ≡ 40 = length_file (chosen_pairs g all_four) in
    let number = good_number g all_four (length old) good room in (
      accepted_answer g all_four (length old) number ∙ ap (written 0) long,
      read_in g all_four old state (answer_number g all_four (length old) ∙ number) ∙ cond_yes (in_ranges g) (shown 0 g) (shown 44 state) good,
    )
