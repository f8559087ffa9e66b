-- The faults of the lines of a text, one line after the other: what is known at the start of each line, and at the end.
-- Assumes nothing.
use mathlib.Core.Path.{◌≡◌, refl, sym, ap, ◌∙◌}
use mathlib.Core.List.{List, [], ◌∷◌, ◌++◌, map, map-append, append-nil}
use Prim.Native.Nat.{ℕ, suc, ◌+◌, ◌%◌, ◌<◌}
use native.Mathlib.Numerals.{add-one}
use native.Mathlib.Omega.{arith}
use borrow.Author.Tests.{eq-eqb, ne_eqb}
use lib.ListN.{length, length-map}
use lib.Seq.{sets, length-sets}
use Rattle.std.specs.Prelude.{Ok, Err}
use Rattle.numbers.specs.Bytes.{bytes}
use Rattle.numbers.specs.Tests.{lowest}
use Rattle.text.specs.Lines.{lines}
use Rattle.text.specs.Faults.{heard, said, faults, fault, faults_from, text_faults, line_faults, first_fault}
use Rattle.text.specs.declared.Fault.{Fault}
use Rattle.text.proofs.Faults.{first_of, first_of_lines}
use Rattle.reading.specs.Code.{Reading, told_by, reading_of}
use Rattle.reading.proofs.Heard.{reading_told}
use Rattle.reading.specs.declared.Said.{Said}
use Rattle.rows.specs.Rows.{Row, arranged}
use Rattle.names.specs.declared.Counts.{Counts}
use Rattle.names.specs.Code.{Reached, AllJudged, Surveyed, counted, counts_of, fault_by, faults_on}
use Rattle.names.proofs.Passing.{reached_first, reached_more}
use Rattle.names.specs.Code as Code
use Rattle.names.proofs.Asking.{fault_by_lem}

-- The faults from the first line on are all; behind the last there are none.
faults_all : (s : List ℕ) → faults_on s [] (lines s) ≡ line_faults s
unfolding faults_on line_faults text_faults
faults_all s = refl

-- One line, by its reading and its lowest fault.
module _ {s : List ℕ} {before : List (List ℕ)} {n : Counts} {k : ℕ} {rest : List (List ℕ)} (h : Reached s before n k rest) {l : List ℕ} {more : List (List ℕ)} (r : rest ≡ l ∷ more) where
  whole_said : map heard before ++ (heard l ∷ map heard more) ≡ said s
  unfolding said
  whole_said = sym (map-append heard before (l ∷ more)) ∙ ap (map heard) (rw r at h.whole)

  line_passed : {q : Reading} {rows : List Row} {v : ℕ} → q ≡ reading_of l → rows ≡ arranged (said s) → v ≡ fault_by rows (k + 1) n q
      → faults_on s before rest ≡ v ∷ faults_on s (before ++ (l ∷ [])) more
  unfolding faults_on faults_from
  line_passed {q} {rows} {v} e a g =
      let xs = map heard before in
      let long : length xs ≡ k = length-map before heard ∙ h.many in
      let line : k + 1 ≡ suc (length xs) = omega arith in
      let here : lowest 2 (faults (said s) xs l) ≡ v = sym (g ∙ rw (a, line, h.counts, e) (fault_by_lem s xs l (map heard more) whole_said)) in
      rw (r, here, map-append heard before (l ∷ []))

-- So many lines are passed, none of them faulty: the first fault is that of the lines from here on.
pub record Surveying (s : List ℕ) (n : Counts) (k : ℕ) (rest : List (List ℕ)) : Type 0 where
  pub before : List (List ℕ)
  pub reached : Reached s before n k rest
  pub left : first_of (suc k) (faults_on s before rest) ≡ first_fault s

pub surveying : (s t : List ℕ) (k : ℕ) → t ≡ s → k ≡ 0 → Surveying s (record { cells = 0; labels = 0; variables = 0 }) k (lines t)
surveying s t k e z = rw (e, z) (record { before = []; reached = reached_first s; left = ap (first_of 1) (faults_all s) ∙ first_of_lines s })

module _ {s : List ℕ} {n : Counts} {k : ℕ} {rest : List (List ℕ)} (h : Surveying s n k rest) where
  module _ {l : List ℕ} {more : List (List ℕ)} {q : Reading} {rows : List Row} {v i : ℕ} (r : rest ≡ l ∷ more) (u : i ≡ k) (e : q ≡ reading_of l)
      (a : rows ≡ arranged (said s)) (g : v ≡ fault_by rows (i + 1) n q) where
    first_left : first_of (suc k) (v ∷ faults_on s (h.before ++ (l ∷ [])) more) ≡ first_fault s
    first_left = rw (line_passed h.reached r e a (g ∙ rw u)) at h.left

    pub survey_more : {x : Said} {m : Counts} {j : ℕ} → v ≡ 0 → j ≡ k + 1 → x ≡ told_by q → m ≡ counted n x → Surveying s m j more
    unfolding first_of
    survey_more {x} {m} {j} z w t c =
        rw w
        (record {
          before = h.before ++ (l ∷ []);
          reached = reached_more h.reached r (c ∙ ap (counted n) (t ∙ rw e (reading_told l)));
          left = rw (add-one k) (rw (eq-eqb v 0 z) at first_left);
        })

    pub fault_here : (v ≡ 0 → ⊥) → Surveyed s (Err (fault v (i + 1)))
    unfolding first_of
    fault_here none =
        let first : fault v (suc k) ≡ first_fault s = rw (ne_eqb v 0 none) at first_left in
        record { first = rw (u, add-one k) first; there = none }

  pub fault_none : rest ≡ [] → Surveyed s (Ok n)
  unfolding first_of faults_on faults_from said
  fault_none e =
      let none : fault 0 0 ≡ first_fault s = rw e at h.left in
      let all : h.before ≡ lines s = sym (append-nil h.before) ∙ (rw e at h.reached.whole) in
      record { clear = ap (λ (f : Fault). f.number) (sym none); counts = h.reached.counts ∙ rw all }

-- So many lines are judged: those that are left, with their faults over what the buffer has now, give the whole.
pub record Judging (s b₀ b : List ℕ) (n : Counts) (k : ℕ) (rest : List (List ℕ)) : Type 0 where
  pub before : List (List ℕ)
  pub reached : Reached s before n k rest
  pub size : length b ≡ length b₀
  pub counted : k + length (faults_on s before rest) ≡ length (line_faults s)
  pub written : sets b k (faults_on s before rest) ≡ sets b₀ 0 (line_faults s)

pub judging : (s b t : List ℕ) → t ≡ s → Judging s b b (record { cells = 0; labels = 0; variables = 0 }) 0 (lines t)
judging s b t e =
    rw e
    (record {
      before = [];
      reached = reached_first s;
      size = refl;
      counted = rw (faults_all s) (omega arith);
      written = ap (sets b 0) (faults_all s);
    })

-- A number below 256 is its own byte.
one_byte : (n : ℕ) → n < 256 → bytes 1 n ≡ n ∷ []
unfolding bytes
one_byte n h = let e : n % 256 ≡ n = omega arith in rw e

module _ {s b₀ b : List ℕ} {n : Counts} {k : ℕ} {rest : List (List ℕ)} (h : Judging s b₀ b n k rest) where
  pub judge_more : {l : List ℕ} {more : List (List ℕ)} {q : Reading} {rows : List Row} {x : Said} {m : Counts} {b' : List ℕ} {v : ℕ} → rest ≡ l ∷ more
      → q ≡ reading_of l → rows ≡ arranged (said s) → v ≡ fault_by rows (k + 1) n q → x ≡ told_by q → m ≡ counted n x
      → v < 256 → b' ≡ sets b k (bytes 1 v) → Judging s b₀ b' m (k + 1) more
  judge_more {l} {more} {b'} {v} r e a g t c i w =
      let one : b' ≡ sets b k (v ∷ []) = w ∙ ap (sets b k) (one_byte v i) in
      let next = line_passed h.reached r e a g in
      record {
        before = h.before ++ (l ∷ []);
        reached = reached_more h.reached r (c ∙ ap (λ (z : Said). Code.counted n z) (t ∙ rw e (reading_told l)));
        size = ap length one ∙ length-sets b k (v ∷ []) ∙ h.size;
        counted = omega (arith, ap length next, h.counted);
        written = rw (one, add-one k) (rw next at h.written);
      }

  pub judged_all : rest ≡ [] → AllJudged s k b₀ b
  unfolding faults_on faults_from
  judged_all e = record { count = let c = (rw e at h.counted) in omega (arith, c); buffer = rw e at h.written }
