-- Impostors of the readers and the writer of settings files: wrong answers, shut out by the promises.
-- Assumes nothing.
use mathlib.Core.Path.{◌≡◌, refl, sym, ap, ◌∙◌}
use mathlib.Core.Bool.{true, false}
use mathlib.Core.List.{List, [], ◌∷◌, ◌++◌}
use mathlib.Core.List as List
use Prim.Native.Nat.{ℕ}
use native.Mathlib.Omega.{arith}
use lib.IntN.{pos, nat_abs}
use lib.ListN.{get_or, replicate}
use Rattle.numbers.specs.Bits as Bits
use Rattle.numbers.specs.Bytes as Bytes
use Rattle.numbers.specs.Tests as Tests
use Rattle.program.specs.Variables as Variables
use Rattle.settings.specs.Layout as Layout
use Rattle.settings.specs.Sets as Sets
use Rattle.settings.specs.Sets.{settings, fresh_settings}
use Rattle.settings.specs.Calls as Calls
use Rattle.settings.specs.Calls.{shown, shown_by, written_into, Reads, ReadsFirst, Writes}
use Rattle.settings.specs.declared.Settings.{Settings}
use Rattle.settings.specs.declared.Chosen.{Chosen}
use Rattle.settings.specs.declared.Shown.{Shown}
use Rattle.settings.specs.declared.Written.{Written}

-- A small set, another that was given, and one name chosen.
abbrev small : Settings
small = settings (pos 1) (pos 2) (pos 3) (pos 4)

abbrev before : Settings
before = settings (pos 11) (pos 12) (pos 13) (pos 14)

abbrev vi_alone : Chosen
vi_alone = record { a = false; d = false; vi = true; vm = false }

-- The edition 1 file of the small set; and its four pairs, in a file of any edition.
abbrev placed : List ℕ
placed = 1 ∷ 0 ∷ 0 ∷ 0 ∷ 2 ∷ 0 ∷ 0 ∷ 0 ∷ 3 ∷ 0 ∷ 0 ∷ 0 ∷ 4 ∷ 0 ∷ 0 ∷ 0 ∷ 0 ∷ 0 ∷ 0 ∷ 0 ∷ 1 ∷ 0 ∷ 24 ∷ 0 ∷ []

-- A pair of one byte's value, and a trailer.
abbrev pair : ℕ → ℕ → List ℕ
pair v value = v ∷ 0 ∷ 0 ∷ 0 ∷ value ∷ 0 ∷ 0 ∷ 0 ∷ []

abbrev ending : ℕ → ℕ → List ℕ
ending edition whole = 0 ∷ 0 ∷ 0 ∷ 0 ∷ edition ∷ 0 ∷ whole ∷ 0 ∷ []

abbrev paired : ℕ → List ℕ
paired edition = pair 6 1 ++ (pair 7 2 ++ (pair 8 3 ++ (pair 9 4 ++ ending edition 40)))

-- Edition 2 files: VI 800,000 and VM 900,000; VM before VI; a bad pair, of number 10, behind a good one.
abbrev fast : List ℕ
fast = 8 ∷ 0 ∷ 0 ∷ 0 ∷ 0 ∷ 53 ∷ 12 ∷ 0 ∷ 9 ∷ 0 ∷ 0 ∷ 0 ∷ 160 ∷ 187 ∷ 13 ∷ 0 ∷ ending 2 24

abbrev falling : List ℕ
falling = pair 9 4 ++ (pair 8 3 ++ ending 2 24)

abbrev half_good : List ℕ
half_good = pair 6 1 ++ (pair 10 1 ++ ending 2 24)

-- What is shown of each.
shown_so : (shown_by 2 placed before ≡ shown 0 small) × (shown_by 2 (paired 2) before ≡ shown 0 small) × (shown_by 2 (paired 3) before ≡ shown 42 before)
    × (shown_by 2 fast fresh_settings ≡ shown 0 (settings (pos 1000000) (pos 1000000) (pos 800000) (pos 900000)))
    × (shown_by 2 falling before ≡ shown 43 before) × (shown_by 2 half_good before ≡ shown 43 before) × (shown_by 1 (paired 2) before ≡ shown 42 before)
unfolding Bits.signed32 Bytes.bytes Bytes.number Bytes.field Tests.eq_list Tests.listed Tests.lowest Variables.range_of Layout.trailer Layout.has_trailer Layout.edition_of Layout.value_at Layout.pair_at Layout.pairs_of Layout.good_pair Layout.good_pairs Layout.laid_out Sets.by_place Sets.under Sets.by_pairs Sets.finished Sets.all_in Sets.in_ranges Sets.fresh_settings Calls.read_faults Calls.read_number Calls.shown_by
shown_so = (refl, refl, refl, refl, refl, refl, refl)

-- What is written of the small set's VI into a buffer that has just the room.
abbrev blank : List ℕ
blank = replicate 16 170

written_so : written_into small vi_alone blank ≡ pair 8 3 ++ ending 2 16
unfolding Bits.digits32 Bytes.bytes Tests.any_of Tests.lowest List.flat_map Variables.range_of Layout.trailer Layout.pair_bytes Layout.file_of Sets.own_range Calls.chosen_pair Calls.chosen_pairs Calls.outside Calls.write_faults Calls.write_number Calls.written_into
written_so = refl

-- ---- the reader

-- Of an edition 1 file, VI shown as VM and VM as VI, with any number.
pub vi_as_vm : (number : ℕ) → Reads placed before (shown number (settings (pos 1) (pos 2) (pos 4) (pos 3))) → ⊥
vi_as_vm number r = let e : ◌≡◌ {A = ℕ} 4 3 = ap (λ (s : Shown). nat_abs s.settings.vi) (r.answers ∙ shown_so.0) in omega arith

-- The pairs of an edition 2 file read by place: 6, 1, 7 and 2 stand at the four places of edition 1.
pub pairs_by_place : (number : ℕ) → Reads (paired 2) before (shown number (settings (pos 6) (pos 1) (pos 7) (pos 2))) → ⊥
pairs_by_place number r = let e : ◌≡◌ {A = ℕ} 6 1 = ap (λ (s : Shown). nat_abs s.settings.a) (r.answers ∙ shown_so.1) in omega arith

-- A file of edition 3 taken, whatever is shown.
pub third_taken : (g : Settings) → Reads (paired 3) before (shown 0 g) → ⊥
third_taken g r = let e : ◌≡◌ {A = ℕ} 0 42 = ap (λ (s : Shown). s.number) (r.answers ∙ shown_so.2) in omega arith

-- The file's VI tested against the given VM, 768,000 in a fresh state, and so refused.
pub against_given : (g : Settings) → Reads fast fresh_settings (shown 44 g) → ⊥
against_given g r = let e : ◌≡◌ {A = ℕ} 44 0 = ap (λ (s : Shown). s.number) (r.answers ∙ shown_so.3) in omega arith

-- Pairs whose numbers fall taken.
pub falling_taken : (g : Settings) → Reads falling before (shown 0 g) → ⊥
falling_taken g r = let e : ◌≡◌ {A = ℕ} 0 43 = ap (λ (s : Shown). s.number) (r.answers ∙ shown_so.4) in omega arith

-- What stands before a bad pair shown all the same, with any number.
pub half_shown : (number : ℕ) → Reads half_good before (shown number (settings (pos 1) (pos 12) (pos 13) (pos 14))) → ⊥
half_shown number r = let e : ◌≡◌ {A = ℕ} 1 11 = ap (λ (s : Shown). nat_abs s.settings.a) (r.answers ∙ shown_so.5) in omega arith

-- Edition 2 taken by the kept reader.
pub second_kept : (g : Settings) → ReadsFirst (paired 2) before (shown 0 g) → ⊥
second_kept g r = let e : ◌≡◌ {A = ℕ} 0 42 = ap (λ (s : Shown). s.number) (r.answers ∙ shown_so.6) in omega arith

-- ---- the writer

-- Edition 1 written as the edition, with any answer; the length left at 0.
pub writes_first : (answer : Written) (new : List ℕ) → get_or new 12 0 ≡ 1 → Writes small vi_alone blank answer new → ⊥
writes_first answer new h w = let e : ◌≡◌ {A = ℕ} 1 2 = sym h ∙ ap (λ (l : List ℕ). get_or l 12 0) (w.leaves ∙ written_so) in omega arith

pub writes_no_length : (answer : Written) (new : List ℕ) → get_or new 14 0 ≡ 0 → Writes small vi_alone blank answer new → ⊥
writes_no_length answer new h w = let e : ◌≡◌ {A = ℕ} 0 16 = sym h ∙ ap (λ (l : List ℕ). get_or l 14 0) (w.leaves ∙ written_so) in omega arith
