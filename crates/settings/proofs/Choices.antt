-- The pairs of the chosen names: they are good, at most four, and under the given values they are the merged set; those of values in range fit their bytes.
-- Assumes nothing.
use mathlib.Core.Path.{◌≡◌, refl, sym, ◌∙◌}
use mathlib.Core.Bool.{Bool, true, false, not}
use mathlib.Core.List.{List, [], ◌∷◌, ◌++◌}
use Prim.Native.Nat.{ℕ, ◌≤◌, ◌<◌}
use native.Mathlib.Omega.{arith}
use borrow.Author.Tests.{not-false}
use lib.IntN.{ℤ, pos, negsuc}
use lib.ListN.{length}
use lib.Signed.{le_z}
use Rattle.numbers.specs.Tests.{Each, any_of}
use Rattle.numbers.proofs.Kit.{within32}
use Rattle.numbers.proofs.Tests.{any_append}
use Rattle.numbers.proofs.Truth.{neither}
use Rattle.program.specs.Variables.{in_range, range_of}
use Rattle.settings.specs.Layout.{good_pair, good_pairs}
use Rattle.settings.specs.Sets.{under, by_pairs, in_ranges, own_range}
use Rattle.settings.specs.Calls.{chosen_pair, chosen_pairs, outside}
use Rattle.settings.specs.Requests.{merged}
use Rattle.settings.specs.declared.Pair.{Pair}
use Rattle.settings.specs.declared.Settings.{Settings}
use Rattle.settings.specs.declared.Chosen.{Chosen}
use Rattle.settings.proofs.Ranges.{keeps_exactly}
use Rattle.settings.proofs.Pairs.{good_most}
use Rattle.settings.proofs.Files.{Fits}

-- ---- by the sixteen choices

-- What holds for both values of a Bool, and so of each choice of names.
abbrev Two : (Bool → Type 0) → Type 0
Two P = P true × P false

two : (P : Bool → Type 0) → Two P → (t : Bool) → P t
two P h true = h.0
two P h false = h.1

abbrev names : Bool → Bool → Bool → Bool → Chosen
names a d vi vm = record { a = a; d = d; vi = vi; vm = vm }

by_names : (P : Chosen → Type 0) → Two (λ a. Two (λ d. Two (λ vi. Two (λ vm. P (names a d vi vm))))) → (which : Chosen) → P which
by_names P h which =
    let with_a = two (λ a. Two (λ d. Two (λ vi. Two (λ vm. P (names a d vi vm))))) h which.a in
    let with_d = two (λ d. Two (λ vi. Two (λ vm. P (names which.a d vi vm)))) with_a which.d in
    let with_vi = two (λ vi. Two (λ vm. P (names which.a which.d vi vm))) with_d which.vi in
    two (λ vm. P (names which.a which.d which.vi vm)) with_vi which.vm

-- They are good, and their numbers rise.
pub chosen_good : (g : Settings) (which : Chosen) → good_pairs 0 (chosen_pairs g which) ≡ true
unfolding good_pair good_pairs chosen_pair chosen_pairs
chosen_good g =
    by_names (λ which. good_pairs 0 (chosen_pairs g which) ≡ true) (
      (((refl, refl), (refl, refl)), ((refl, refl), (refl, refl))),
      (((refl, refl), (refl, refl)), ((refl, refl), (refl, refl))),
    )

-- Taken up by number, they give the merged set.
pub chosen_under : (g : Settings) (which : Chosen) (given : Settings) → by_pairs (chosen_pairs g which) given ≡ merged g which given
unfolding under by_pairs chosen_pair chosen_pairs merged
chosen_under g which given =
    by_names (λ w. by_pairs (chosen_pairs g w) given ≡ merged g w given) (
      (((refl, refl), (refl, refl)), ((refl, refl), (refl, refl))),
      (((refl, refl), (refl, refl)), ((refl, refl), (refl, refl))),
    )
    which

-- So they are four at most.
pub chosen_most : (g : Settings) (which : Chosen) → length (chosen_pairs g which) ≤ 4
chosen_most g which = good_most (chosen_pairs g which) (chosen_good g which)

-- ---- one name at a time

-- What goes over from two lists to both of them joined goes over from the pairs of each name to them all.
joined : (P : List Pair → Type 0) → ((ps qs : List Pair) → P ps → P qs → P (ps ++ qs)) → (g : Settings) (which : Chosen)
    → P (chosen_pair which.a 6 g.a) → P (chosen_pair which.d 7 g.d) → P (chosen_pair which.vi 8 g.vi) → P (chosen_pair which.vm 9 g.vm)
    → P (chosen_pairs g which)
unfolding chosen_pairs
joined P both g which pa pd pvi pvm =
    let a = chosen_pair which.a 6 g.a in
    let d = chosen_pair which.d 7 g.d in
    let vi = chosen_pair which.vi 8 g.vi in
    let vm = chosen_pair which.vm 9 g.vm in
    both (a ++ d) (vi ++ vm) (both a d pa pd) (both vi vm pvi pvm)

-- A pair whose value is in its variable's own range fits its bytes.
one_fits : (t : Bool) (v : ℕ) (value : ℤ) → v < 65536 → le_z (negsuc 2147483647) (own_range v).lowest ≡ true → le_z (own_range v).highest (pos 2147483647) ≡ true
    → any_of outside (chosen_pair t v value) ≡ false → Each Fits (chosen_pair t v value)
unfolding chosen_pair any_of outside
one_fits true v value n l h e =
    let inside = not-false (in_range (own_range v) value) (neither (not (in_range (own_range v) value)) false e).0 in
    (record { number = n; zeros = omega arith; value = within32 (own_range v).lowest (own_range v).highest value l h inside }, tt)
one_fits false v value n l h e = tt

-- So all of them fit.
each_append : (ps qs : List Pair) → Each Fits ps → Each Fits qs → Each Fits (ps ++ qs)
each_append [] qs f h = h
each_append (p ∷ ps) qs f h = (f.0, each_append ps qs f.1 h)

pub chosen_fits : (g : Settings) (which : Chosen) → any_of outside (chosen_pairs g which) ≡ false → Each Fits (chosen_pairs g which)
unfolding range_of own_range
chosen_fits g which =
    joined (λ ps. any_of outside ps ≡ false → Each Fits ps)
    (λ ps qs f h e. let n = neither (any_of outside ps) (any_of outside qs) (sym (any_append outside ps qs) ∙ e) in each_append ps qs (f n.0) (h n.1))
    g which
    (one_fits which.a 6 g.a (omega arith) refl refl)
    (one_fits which.d 7 g.d (omega arith) refl refl)
    (one_fits which.vi 8 g.vi (omega arith) refl refl)
    (one_fits which.vm 9 g.vm (omega arith) refl refl)

-- ---- a good set

-- Each of its values is in its variable's own range.
one_within : (t : Bool) (v : ℕ) (value : ℤ) → in_range (own_range v) value ≡ true → any_of outside (chosen_pair t v value) ≡ false
unfolding chosen_pair any_of outside
one_within true v value e = rw e
one_within false v value e = refl

pub within_own : (g : Settings) (which : Chosen) → in_ranges g ≡ true → any_of outside (chosen_pairs g which) ≡ false
unfolding range_of own_range
within_own g which e =
    let k = (keeps_exactly g).0 e in
    joined (λ ps. any_of outside ps ≡ false) (λ ps qs f h. any_append outside ps qs ∙ rw (f, h) refl) g which
    (one_within which.a 6 g.a k.a)
    (one_within which.d 7 g.d k.d)
    (one_within which.vi 8 g.vi k.vi)
    (one_within which.vm 9 g.vm k.vm)
