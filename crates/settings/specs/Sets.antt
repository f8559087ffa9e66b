-- Document 02, Q-5: the four values that a file gives, and the ranges that they keep. Names, ranges and start values are those of document 01, "Variables".
-- Assumes nothing.
use Rattle.std.specs.Prelude.{Bool, true, cond, ◌&&◌, List, [], ◌∷◌, ℕ, eqb, ℤ, pos, ◌+ℤ◌, get_or}
use Rattle.numbers.specs.Tests.{any_of}
use Rattle.program.specs.Variables.{in_range, range_of, by_number, user_variable}
use Rattle.program.specs.declared.Range.{Range}
use Rattle.settings.specs.Layout.{edition_of, value_at, pairs_of}
use Rattle.settings.specs.declared.Pair.{Pair}
use Rattle.settings.specs.declared.Settings.{Settings}
use Rattle.settings.specs.declared.Chosen.{Chosen}

abbrev pub settings : ℤ → ℤ → ℤ → ℤ → Settings
settings a d vi vm = record { a = a; d = d; vi = vi; vm = vm }

-- Q-5 1: edition 1 has A, D, VI and VM by place.
unfoldable pub by_place : List ℕ → Settings
by_place s = settings (value_at s 0) (value_at s 4) (value_at s 8) (value_at s 12)

-- Q-5 6: the value of the pair with this number; what was given where there is none.
unfoldable pub under : ℕ → List Pair → ℤ → ℤ
under v [] given = given
under v (p ∷ ps) given = let more = under v ps given in cond (eqb p.number v) p.value more

-- Q-5 2, Q-5 6: edition 2 has them by number: A is 6, D 7, VI 8, VM 9 (Variables 1).
unfoldable pub by_pairs : List Pair → Settings → Settings
by_pairs ps given = settings (under 6 ps given.a) (under 7 ps given.d) (under 8 ps given.vi) (under 9 ps given.vm)

-- Q-5 1, Q-5 2: the names that a file has: all four in edition 1, those of its pairs in edition 2.
unfoldable pub has : ℕ → List Pair → Bool
has v ps = any_of (λ p. eqb p.number v) ps

unfoldable pub names_in : List ℕ → Chosen
names_in s =
    cond (eqb (edition_of s) 1) (record { a = true; d = true; vi = true; vm = true })
    (record { a = has 6 (pairs_of s); d = has 7 (pairs_of s); vi = has 8 (pairs_of s); vm = has 9 (pairs_of s) })

-- Q-5 6: the finished set: the given one with what a file of either edition has.
unfoldable pub finished : List ℕ → Settings → Settings
finished s given = cond (eqb (edition_of s) 1) (by_place s) (by_pairs (pairs_of s) given)

-- Q-5 7: each value of a set is in its range, where VI and VM stand at these (Variables 2).
unfoldable pub all_in : Settings → ℤ → ℤ → Bool
all_in g vi vm =
    (in_range (range_of 6 vi vm) g.a && in_range (range_of 7 vi vm) g.d) && (in_range (range_of 8 vi vm) g.vi && in_range (range_of 9 vi vm) g.vm)

-- Q-5 7: that is asked with VI and VM as the set itself has them, so VI is below VM.
unfoldable pub in_ranges : Settings → Bool
in_ranges g = all_in g g.vi g.vm

-- Q-12 4: the range of a variable by itself: what VI may be below a VM out of reach, and VM above a VI of 0. For both 1 to 2,560,000.
unfoldable pub own_range : ℕ → Range
own_range v = range_of v (pos 0) ((range_of 9 (pos 0) (pos 0)).highest +ℤ pos 1)

-- Variables 3: what a fresh state has.
unfoldable pub fresh_settings : Settings
fresh_settings =
    settings (get_or by_number 6 user_variable).start (get_or by_number 7 user_variable).start (get_or by_number 8 user_variable).start (get_or by_number 9 user_variable).start
