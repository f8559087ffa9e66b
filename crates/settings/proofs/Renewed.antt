-- From old to new: what an accepted file shows, written under the names that it has, reads as the file itself, and an edition 2 file comes out equal.
-- Assumes nothing.
use mathlib.Core.Path.{◌≡◌, refl, sym, ap, ap₂, ◌∙◌}
use mathlib.Core.Bool.{true}
use mathlib.Core.List.{List, [], ◌∷◌, ◌++◌, append_assoc, append-nil}
use mathlib.Core.Logic.{⊎_elim}
use Prim.Native.Nat.{ℕ, zero, suc, ◌+◌, ◌≤◌}
use native.Mathlib.Omega.{arith}
use borrow.Author.Tests.{eq-eqb, ne_eqb}
use lib.IntN.{ℤ}
use lib.ListN.{length}
use Rattle.numbers.specs.Bytes.{Bytes}
use Rattle.numbers.specs.Tests.{any_of}
use Rattle.numbers.proofs.Truth.{if_same}
use Rattle.settings.specs.Layout.{edition_of, pairs_of, good_pairs, file_of}
use Rattle.settings.specs.Sets.{by_place, under, by_pairs, has, names_in, finished}
use Rattle.settings.specs.Calls.{read_faults, read_number, shown, chosen_pair, chosen_pairs}
use Rattle.settings.specs.Requests.{value_of, Accepts, file_in, our_read, our_write}
use Rattle.settings.specs.declared.Pair.{Pair}
use Rattle.settings.specs.declared.Settings.{Settings}
use Rattle.settings.specs.declared.Chosen.{Chosen}
use Rattle.settings.specs.declared.Written.{Written}
use Rattle.settings.proofs.Ranges.{keeps_exactly}
use Rattle.settings.proofs.Cases.{accepted, accepted_answer}
use Rattle.settings.proofs.Pairs.{good_exactly, good_first, good_above, good_names}
use Rattle.settings.proofs.Editions.{names_of, one_or_two, finished_1, names_1, eights_2, laid_2, finished_2, names_2}
use Rattle.settings.proofs.Files.{file_pairs}
use Rattle.settings.proofs.Readers.{table_zero, settings_shown}
use Rattle.settings.proofs.Writing.{answer_number}
use Rattle.settings.proofs.Back.{file_in_lem, good_number, all_back}

-- ---- good pairs, name by name

-- The pair that is written of a name of these pairs.
abbrev pair_under : ℕ → List Pair → ℤ → List Pair
pair_under v ps given = chosen_pair (has v ps) v (under v ps given)

-- It is the first pair where that has the number, and goes by the others where it has another.
pair_here : (v : ℕ) (p : Pair) (ps : List Pair) (given : ℤ) → p.number ≡ v → p.zeros ≡ 0 → pair_under v (p ∷ ps) given ≡ p ∷ []
unfolding any_of under has chosen_pair
pair_here v p ps given n z =
    rw (eq-eqb p.number v n) (ap₂ (λ (m k : ℕ). record { value = p.value; number = m; zeros = k } ∷ []) (sym n) (sym z))

pair_later : (v : ℕ) (p : Pair) (ps : List Pair) (given : ℤ) → (p.number ≡ v → ⊥) → pair_under v (p ∷ ps) given ≡ pair_under v ps given
unfolding any_of under has
pair_later v p ps given o = rw (ne_eqb p.number v o) refl

-- There is none of a number that good pairs are above.
pair_none : (last : ℕ) (ps : List Pair) → good_pairs last ps ≡ true → (v : ℕ) (given : ℤ) → v ≤ last → pair_under v ps given ≡ []
unfolding any_of has chosen_pair
pair_none last [] g v given h = refl
pair_none last (p ∷ ps) g v given h =
    let f = good_first last p ps g in
    pair_later v p ps given (λ e. omega (arith, e, f.1, h)) ∙ pair_none p.number ps f.2 v given (omega (arith, f.1, h))

-- The pairs of n names above v; a pair of a lower number does not count.
unfoldable pairs_under : ℕ → ℕ → List Pair → Settings → List Pair
pairs_under v zero ps given = []
pairs_under v (suc n) ps given = pair_under (suc v) ps (value_of given (suc v)) ++ pairs_under (suc v) n ps given

pairs_later : (v n : ℕ) (p : Pair) (ps : List Pair) (given : Settings) → p.number ≤ v → pairs_under v n (p ∷ ps) given ≡ pairs_under v n ps given
unfolding pairs_under
pairs_later v zero p ps given h = refl
pairs_later v (suc n) p ps given h =
    rw (pair_later (suc v) p ps (value_of given (suc v)) (λ e. omega (arith, e, h)), pairs_later (suc v) n p ps given (omega arith)) refl

-- So good pairs are the pairs of all names above v.
all_pairs : (v n : ℕ) (ps : List Pair) (given : Settings) → v + n ≡ 9 → good_pairs v ps ≡ true → pairs_under v n ps given ≡ ps
unfolding any_of good_pairs has chosen_pair pairs_under
all_pairs v zero [] given e g = refl
all_pairs v zero (p ∷ ps) given e g = let f = good_first v p ps g in absurd (omega (arith, e, f.1, ((good_exactly p).0 f.0).0.1))
all_pairs v (suc n) [] given e g = all_pairs (suc v) n [] given (omega arith) refl
all_pairs v (suc n) (p ∷ ps) given e g =
    let f = good_first v p ps g in
    let m : suc v + n ≡ 9 = omega arith in
    if_same p.number (suc v)
    (λ s.
    rw (pair_here (suc v) p ps (value_of given (suc v)) s ((good_exactly p).0 f.0).1, pairs_later (suc v) n p ps given (omega (arith, s)))
    (ap (λ (l : List Pair). p ∷ l) (all_pairs (suc v) n ps given m (rw s at f.2))))
    (λ o.
    let above = good_above v (suc v) p ps g (omega (arith, f.1, o)) in
    rw (pair_none (suc v) (p ∷ ps) above (suc v) (value_of given (suc v)) (omega arith)) (all_pairs (suc v) n (p ∷ ps) given m above))

-- And so what is written of them is what they are.
same_pairs : (ps : List Pair) (given : Settings) → good_pairs 0 ps ≡ true → chosen_pairs (by_pairs ps given) (names_of ps) ≡ ps
unfolding by_pairs chosen_pairs pairs_under
same_pairs ps given g =
    let a = pair_under 6 ps given.a in
    let d = pair_under 7 ps given.d in
    let vi = pair_under 8 ps given.vi in
    let vm = pair_under 9 ps given.vm in
    append_assoc a d (vi ++ vm)
    ∙ ap (λ (l : List Pair). a ++ (d ++ (vi ++ l))) (sym (append-nil vm))
    ∙ all_pairs 5 4 ps given refl (good_names ps g)

-- ---- an accepted file

-- What is asked of a set that is written under these names.
abbrev Renews : Settings → Chosen → List ℕ → List ℕ → Settings → Type 0
Renews g which file old state =
    ((our_write g which old).answer.number ≡ 0)
    × (our_read (file_in (our_write g which old)) state ≡ our_read file state)
    × (edition_of file ≡ 2 → file_in (our_write g which old) ≡ file)

module _ (file : List ℕ) (given : Settings) (old : List ℕ) (state : Settings) (zero_number : read_number 2 file given ≡ 0) (room : 40 ≤ length old) where
  -- Edition 1 has all four names, and what it shows does not go by the state.
  first_read : edition_of file ≡ 1 → our_read file state ≡ shown 0 (by_place file)
  unfolding read_number read_faults
  first_read e =
      let same : finished file state ≡ finished file given = finished_1 file e state ∙ sym (finished_1 file e given) in
      accepted_answer 2 file state (rw same zero_number) ∙ ap (shown 0) (finished_1 file e state)

  first_renewed : edition_of file ≡ 1 → Renews (finished file given) (names_in file) file old state
  first_renewed e =
      let keeps = (keeps_exactly (by_place file)).0 (rw (finished_1 file e given) at (accepted 2 file given zero_number).1) in
      let back = all_back (by_place file) old state keeps room in
      rw (finished_1 file e given, names_1 file e)
      (ap (λ (w : Written). w.number) back.0, back.1 ∙ sym (first_read e), λ o. absurd (omega (arith, e, o)))

  -- Edition 2 is written as it stands.
  second_renewed : Bytes file → edition_of file ≡ 2 → Renews (finished file given) (names_in file) file old state
  second_renewed b e =
      let a = accepted 2 file given zero_number in
      let g = finished file given in
      let which = names_in file in
      let pairs : chosen_pairs g which ≡ pairs_of file = rw (finished_2 file e given, names_2 file e) (same_pairs (pairs_of file) given (laid_2 file e a.0.5)) in
      let number : (our_write g which old).answer.number ≡ 0 = answer_number g which (length old) ∙ good_number g which (length old) a.1 room in
      let same : file_in (our_write g which old) ≡ file =
      file_in_lem g which old state number ∙ ap file_of pairs ∙ file_pairs file b a.0.0 (eights_2 file e a.0.5) (rw e at a.0.4) in
      (number, ap (λ (f : List ℕ). our_read f state) same, λ o. same)

pub renewed : (file : List ℕ) (given : Settings) (old : List ℕ) (state : Settings) → Bytes file → Accepts our_read file given → 40 ≤ length old
    → ((our_write (our_read file given).settings (names_in file) old).answer.number ≡ 0)
    × (our_read (file_in (our_write (our_read file given).settings (names_in file) old)) state ≡ our_read file state)
    × (edition_of file ≡ 2 → file_in (our_write (our_read file given).settings (names_in file) old) ≡ file)
renewed file given old state b z room =
    let n = table_zero 2 file given z in
    let laid = (accepted 2 file given n).0 in
    rw (settings_shown 2 file given z)
    (⊎_elim (first_renewed file given old state n room) (second_renewed file given old state n room b) (one_or_two file 2 (omega arith) laid.2 laid.3))
