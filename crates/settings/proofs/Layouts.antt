-- Bytes are laid out as a reader asks exactly if they are a file: sixteen bytes and the trailer of edition 1, or the edition 2 file of pairs as Q-5 2 has them.
-- Assumes nothing.
use mathlib.Core.Path.{◌≡◌, refl, sym, ap, subst, ◌∙◌}
use mathlib.Core.Bool.{true}
use mathlib.Core.List.{List, [], ◌∷◌, ◌++◌}
use mathlib.Core.Logic.Iff
use mathlib.Core.Logic.{◌↔◌, ◌⊎◌, inl, inr, ⊎_elim}
use Prim.Native.Nat.{ℕ, suc, ◌+◌, ◌*◌, ◌/◌, ◌-◌, ◌^◌, ◌≤◌, ◌<◌}
use native.Mathlib.Omega.{arith}
use borrow.Author.Tests.{lt-ltb, le-ltb, le-leb}
use lib.IntN.{pos, negsuc}
use lib.ListN.{length, get_or, take, drop, take-append-drop}
use lib.Seq.{length-take-le}
use Rattle.numbers.specs.Bits.{signed32}
use Rattle.numbers.specs.Bytes.{Bytes, field}
use Rattle.numbers.specs.Tests.{between, Each}
use Rattle.numbers.proofs.Kit.{within32}
use Rattle.numbers.proofs.Laws.{field_below}
use Rattle.numbers.proofs.Tests.{length_listed, listed_at}
use Rattle.numbers.proofs.Truth.{if_below}
use Rattle.settings.specs.Layout.{trailer, has_trailer, edition_of, value_at, pair_at, pairs_of, good_pairs, laid_out}
use Rattle.settings.specs.Calls.{shown_by}
use Rattle.settings.specs.Requests.{IsName, IsFirst, no_pair, ArePairs, IsSecond, IsFile}
use Rattle.settings.specs.declared.Pair.{Pair}
use Rattle.settings.specs.declared.Settings.{Settings}
use Rattle.settings.proofs.Cases.{IsLaid, answer_number, laid_exactly}
use Rattle.settings.proofs.Pairs.{good_exactly, good_at, rises, good_most}
use Rattle.settings.proofs.Editions.{one_or_two, laid_1, eights_2, laid_2}
use Rattle.settings.proofs.Files.{Fits, ended, length_ended, trailer_ended, edition_ended}
use Rattle.settings.proofs.Files.{length_file, trailer_file, edition_file, laid_out_file, trailer_there, file_pairs}

-- The editions that a reader may know: 1, or 1 and 2.
abbrev pub Knows : ℕ → Type 0
Knows last = (1 ≤ last) × (last ≤ 2)

-- ---- edition 1

-- 24 bytes with the trailer of edition 1 are sixteen and that trailer.
laid_first : (s : List ℕ) → edition_of s ≡ 1 → has_trailer s (length s - 8) (edition_of s) ≡ true → laid_out s ≡ true → IsFirst s
laid_first s e t laid =
    let long : length s ≡ 24 = laid_1 s e laid in
    let behind : drop 16 s ≡ trailer 1 24 = rw long at (trailer_there s 1 (rw e at t)) in
    record {
      values = take 16 s;
      sixteen = length-take-le 16 s (omega (arith, long));
      all = sym (take-append-drop 16 s) ∙ ap (λ (l : List ℕ). take 16 s ++ l) behind;
    }

-- And back.
first_laid : (last : ℕ) → 1 ≤ last → (s : List ℕ) → IsFirst s → IsLaid last s
unfolding laid_out
first_laid last k s f =
    let all : s ≡ ended f.values 1 = rw f.sixteen f.all in
    let long : length s ≡ 24 = ap length all ∙ length_ended f.values 1 ∙ rw f.sixteen refl in
    let edition : edition_of s ≡ 1 = ap edition_of all ∙ edition_ended f.values 1 (omega arith) in
    let stands : has_trailer s (length s - 8) 1 ≡ true = ap (λ (l : List ℕ). has_trailer l (length l - 8) 1) all ∙ trailer_ended f.values 1 in (
      omega (arith, long),
      omega (arith, long),
      omega (arith, edition),
      omega (arith, edition, k),
      rw edition stands,
      rw (edition, long) refl,
    )

-- ---- pairs

-- A number of four bytes is in the range of 32 bits.
signed_between : (n : ℕ) → n < 2 ^ 32 → between (negsuc 2147483647) (pos 2147483647) (signed32 n) ≡ true
unfolding signed32
signed_between n h =
    if_below n 2147483648
    (λ l. rw (lt-ltb n 2147483648 l, le-leb n 2147483647 (omega arith)) refl)
    (λ l. rw (le-ltb n 2147483648 l, le-leb (4294967296 - suc n) 2147483647 (omega arith)) refl)

-- Good pairs of a file are pairs as asked.
values_there : (s : List ℕ) → Bytes s → (i : ℕ) → i < length (pairs_of s) → between (negsuc 2147483647) (pos 2147483647) (get_or (pairs_of s) i no_pair).value ≡ true
unfolding pairs_of pair_at value_at
values_there s b i h =
    rw (listed_at (pair_at s) no_pair 0 (length s / 8 - 1) i (omega (arith, h, length_listed (pair_at s) 0 (length s / 8 - 1))))
    (signed_between (field 4 (8 * (0 + i) + 4) s) (field_below 4 (8 * (0 + i) + 4) s b))

good_are : (s : List ℕ) → Bytes s → good_pairs 0 (pairs_of s) ≡ true → ArePairs (pairs_of s)
good_are s b g =
    record { named = λ i h. (each i h).0; zeros = λ i h. (each i h).1; rising = rises no_pair 0 (pairs_of s) g; values = values_there s b }
  where
    each : (i : ℕ) → i < length (pairs_of s) → IsName (get_or (pairs_of s) i no_pair).number × ((get_or (pairs_of s) i no_pair).zeros ≡ 0)
    each i h = (good_exactly (get_or (pairs_of s) i no_pair)).0 (good_at no_pair 0 (pairs_of s) g i h)

-- Of pairs as asked those behind the first are so too; so all are good, and they fit their bytes.
are_behind : (p : Pair) (ps : List Pair) → ArePairs (p ∷ ps) → ArePairs ps
are_behind p ps a =
    record {
      named = λ i h. a.named (suc i) (omega arith);
      zeros = λ i h. a.zeros (suc i) (omega arith);
      rising = λ i j h k. a.rising (suc i) (suc j) (omega arith) (omega arith);
      values = λ i h. a.values (suc i) (omega arith);
    }

are_good : (last : ℕ) (ps : List Pair) → ArePairs ps → ((i : ℕ) → i < length ps → last < (get_or ps i no_pair).number) → good_pairs last ps ≡ true
unfolding good_pairs
are_good last [] a h = refl
are_good last (p ∷ ps) a h =
    rw (
      (good_exactly p).1 (a.named 0 (omega arith), a.zeros 0 (omega arith)),
      lt-ltb last p.number (h 0 (omega arith)),
      are_good p.number ps (are_behind p ps a) (λ i k. a.rising 0 (suc i) (omega arith) (omega arith)),
    )

are_fit : (ps : List Pair) → ArePairs ps → Each Fits ps
are_fit [] a = tt
are_fit (p ∷ ps) a = (
  record {
    number = omega (arith, a.named 0 (omega arith));
    zeros = omega (arith, a.zeros 0 (omega arith));
    value = within32 (negsuc 2147483647) (pos 2147483647) p.value refl refl (a.values 0 (omega arith));
  },
  are_fit ps (are_behind p ps a),
)

-- ---- edition 2

-- Eights with the trailer of edition 2 and good pairs are the file of those pairs.
laid_second : (s : List ℕ) → Bytes s → edition_of s ≡ 2 → 8 ≤ length s → has_trailer s (length s - 8) (edition_of s) ≡ true → laid_out s ≡ true → IsSecond s
laid_second s b e long t laid =
    record {
      pairs = pairs_of s;
      good = good_are s b (laid_2 s e laid);
      all = sym (file_pairs s b long (eights_2 s e laid) (rw e at t));
    }

-- And back.
second_laid : (last : ℕ) → 2 ≤ last → (s : List ℕ) → IsSecond s → IsLaid last s
second_laid last k s f =
    let ps = f.pairs in
    let long = length_file ps in
    let edition = edition_file ps in
    let good = are_good 0 ps f.good (λ i h. omega (arith, (f.good.named i h).0)) in
    let few = good_most ps good in
    subst (IsLaid last) (sym f.all) (
      omega (arith, long),
      omega (arith, long, few),
      omega (arith, edition),
      omega (arith, edition, k),
      rw edition (trailer_file ps),
      laid_out_file ps (are_fit ps f.good) good,
    )

-- ---- either edition

-- Bytes that are laid out are a file of one of the editions, and back.
laid_file : (last : ℕ) → Knows last → (s : List ℕ) → Bytes s → IsLaid last s ↔ IsFile last s
laid_file last k s b = (
  λ l.
      ⊎_elim
      (λ e. inl (laid_first s e l.4 l.5))
      (λ e. inr (omega (arith, e, l.3), laid_second s b e l.0 l.4 l.5))
      (one_or_two s last k.1 l.2 l.3),
  ⊎_elim (first_laid last k.0 s) (λ f. second_laid last f.0 s f.1),
)

-- Q-5 1 to 5: bytes are accepted, or refused by 44, exactly if they are a file.
pub laid_out_exactly : (last : ℕ) → Knows last → (file : List ℕ) (given : Settings) → Bytes file
    → (((shown_by last file given).number ≡ 0) ⊎ ((shown_by last file given).number ≡ 44)) ↔ IsFile last file
laid_out_exactly last k file given b =
    rw (answer_number last file given) (Iff.trans (laid_exactly last file given) (laid_file last k file b))
