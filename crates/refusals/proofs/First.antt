-- Document 01, Refusals 20: a text is refused with a number and a line exactly if no line before that has a fault, and the number is its lowest.
-- Assumes nothing.
use mathlib.Core.Path.{◌≡◌, refl, sym, ap, ◌∙◌}
use mathlib.Core.Bool.{Bool, cond, false≢true}
use mathlib.Core.List.{List, [], ◌∷◌}
use mathlib.Core.Logic.{◌↔◌, ◌⊎◌, inl, inr, ⊎_elim}
use Prim.Native.Nat.{ℕ, zero, suc, ◌+◌, ◌≤◌, ◌<◌}
use native.Mathlib.Omega.{arith}
use lib.Dec.{eqb, eqb-suc-zero}
use lib.ListN.{get_or}
use Rattle.numbers.specs.Tests.{lowest, Lowest, NoRow}
use Rattle.text.specs.Faults.{text_faults, faults_of, fault, first_from, first_fault}
use Rattle.text.specs.declared.Fault.{Fault}
use Rattle.numbers.proofs.Lowest.{lowest_range, lowest_exactly, lowest_zero}
use Rattle.refusals.proofs.Rows.{Possible, fault_range}

-- What is given at a line whose lowest number is n.
abbrev chosen : ℕ → ℕ → Fault → Fault
chosen n line after = cond (eqb n 0) after (fault n line)

number_of : {f g : Fault} → f ≡ g → f.number ≡ g.number
number_of e = ap (λ (f : Fault). f.number) e

line_of : {f g : Fault} → f ≡ g → f.line ≡ g.line
line_of e = ap (λ (f : Fault). f.line) e

-- No line before the first is given.
scan_line : (line : ℕ) (t : List (List Bool)) (n l : ℕ) → first_from line t ≡ fault (suc n) l → line ≤ l
unfolding first_from
scan_line line [] n l e = let z = number_of e in absurd (omega arith)
scan_line line (bs ∷ t) n l e = step (lowest 2 bs) (scan_line (suc line) t n l) e where
  step : (m : ℕ) → (first_from (suc line) t ≡ fault (suc n) l → suc line ≤ l) → chosen m line (first_from (suc line) t) ≡ fault (suc n) l → line ≤ l
  step zero ih e = let h = ih e in omega arith
  step (suc m) ih e = let z = line_of (rw (eqb-suc-zero m) at e) in omega arith

-- List i has this lowest number, and those before it have none.
abbrev FirstOf : List (List Bool) → ℕ → ℕ → Type 0
FirstOf t n i = (lowest 2 (get_or t i []) ≡ n) × ((j : ℕ) → j < i → lowest 2 (get_or t j []) ≡ 0)

scan_there : (line : ℕ) (t : List (List Bool)) (n i : ℕ) → first_from line t ≡ fault (suc n) (line + i) → FirstOf t (suc n) i
unfolding first_from
scan_there line [] n i e = let z = number_of e in absurd (omega arith)
scan_there line (bs ∷ t) n i e = step (lowest 2 bs) refl i (scan_there (suc line) t n) e where
  before : (i : ℕ) → lowest 2 bs ≡ 0 → ((j : ℕ) → j < i → lowest 2 (get_or t j []) ≡ 0) → (j : ℕ) → j < suc i → lowest 2 (get_or (bs ∷ t) j []) ≡ 0
  before i z f zero h = z
  before i z f (suc j) h = f j (omega arith)

  step : (m : ℕ) → lowest 2 bs ≡ m → (i : ℕ) → ((i : ℕ) → first_from (suc line) t ≡ fault (suc n) (suc line + i) → FirstOf t (suc n) i)
      → chosen m line (first_from (suc line) t) ≡ fault (suc n) (line + i) → FirstOf (bs ∷ t) (suc n) i
  step zero h zero ih e = absurd (let l = scan_line (suc line) t n (line + 0) e in omega arith)
  step zero h (suc i) ih e = let r = ih i (e ∙ ap (fault (suc n)) (omega arith)) in (r.0, before i h r.1)
  step (suc m) h zero ih e = let z = number_of (rw (eqb-suc-zero m) at e) in (h ∙ z, λ j k. absurd (omega arith))
  step (suc m) h (suc i) ih e = let z = line_of (rw (eqb-suc-zero m) at e) in absurd (omega arith)

scan_back : (line : ℕ) (t : List (List Bool)) (n i : ℕ) → FirstOf t (suc n) i → first_from line t ≡ fault (suc n) (line + i)
unfolding first_from lowest
scan_back line [] n i c = absurd (omega arith)
scan_back line (bs ∷ t) n zero c = rw (c.0, eqb-suc-zero n) (ap (fault (suc n)) (omega arith))
scan_back line (bs ∷ t) n (suc i) c =
    rw (c.1 0 (omega arith)) (scan_back (suc line) t n i (c.0, λ j h. c.1 (suc j) (omega arith)) ∙ ap (fault (suc n)) (omega arith))

-- Nothing is given exactly where no list has a test that holds.
scan_none : (line : ℕ) (t : List (List Bool)) → (first_from line t).number ≡ 0 → (i : ℕ) → lowest 2 (get_or t i []) ≡ 0
unfolding first_from lowest
scan_none line [] e i = refl
scan_none line (bs ∷ t) e i = step (lowest 2 bs) refl i (scan_none (suc line) t) e where
  step : (m : ℕ) → lowest 2 bs ≡ m → (i : ℕ) → ((first_from (suc line) t).number ≡ 0 → (i : ℕ) → lowest 2 (get_or t i []) ≡ 0)
      → (chosen m line (first_from (suc line) t)).number ≡ 0 → lowest 2 (get_or (bs ∷ t) i []) ≡ 0
  step zero h zero ih e = h
  step zero h (suc i) ih e = ih e i
  step (suc m) h i ih e = let z : ◌≡◌ {A = ℕ} (suc m) 0 = rw (eqb-suc-zero m) at e in absurd (omega arith)

none_scan : (line : ℕ) (t : List (List Bool)) → ((i : ℕ) → lowest 2 (get_or t i []) ≡ 0) → first_from line t ≡ fault 0 0
unfolding first_from
none_scan line [] f = refl
none_scan line (bs ∷ t) f = rw (f 0) (none_scan (suc line) t (λ i. f (suc i)))

-- The rows of each line of a text, from line 1 on.
module _ (text : List ℕ) where
  abbrev rows : ℕ → List Bool
  rows i = get_or (text_faults text) i []

  first_there : (n i : ℕ) → first_fault text ≡ fault (suc n) (suc i) → FirstOf (text_faults text) (suc n) i
  unfolding first_fault
  first_there n i e = scan_there 1 (text_faults text) n i (e ∙ ap (fault (suc n)) (omega arith))

  first_back : (n i : ℕ) → FirstOf (text_faults text) (suc n) i → first_fault text ≡ fault (suc n) (suc i)
  unfolding first_fault
  first_back n i c = scan_back 1 (text_faults text) n i c ∙ ap (fault (suc n)) (omega arith)

  -- No line before line i + 1 has a fault; there is no line 0.
  none_before : (i : ℕ) → ((j : ℕ) → j < i → lowest 2 (rows j) ≡ 0) → (l : ℕ) → l < suc i → NoRow (faults_of text l)
  unfolding faults_of
  none_before i f zero h k = refl
  none_before i f (suc j) h k = (lowest_zero 1 (rows j)).0 (f j (omega arith)) k

-- Row k holds for line l, counted from 1, and no lower one; and no row holds for any line before it.
abbrev pub FirstAt : List ℕ → ℕ → ℕ → Type 0
FirstAt text k l = Lowest (faults_of text l) k × ((j : ℕ) → j < l → NoRow (faults_of text j))

-- Refusals 20: number 2 + k at line l is given exactly if that is so.
pub first_exactly_at : (text : List ℕ) (k l : ℕ) → (first_fault text ≡ fault (2 + k) l) ↔ FirstAt text k l
unfolding faults_of first_fault
first_exactly_at text k zero = (
  λ e. absurd (let z = scan_line 1 (text_faults text) (suc k) 0 (e ∙ ap (λ (n : ℕ). fault n 0) (omega arith)) in omega arith),
  λ c. absurd (false≢true c.0.0),
)
first_exactly_at text k (suc i) = (
  λ e.
      let c = first_there text (suc k) i (e ∙ ap (λ (n : ℕ). fault n (suc i)) (omega arith)) in
      ((lowest_exactly 1 (rows text i) k).0 (omega (arith, c.0)), none_before text i c.1),
  λ c.
      first_back text (suc k) i (
        omega (arith, (lowest_exactly 1 (rows text i) k).1 c.0),
        λ j h. (lowest_zero 1 (rows text j)).1 (c.1 (suc j) (omega arith)),
      )
      ∙ ap (λ (n : ℕ). fault n (suc i)) (omega arith),
)

-- No more than one number and line are so.
pub first_unique : (text : List ℕ) (k l k' l' : ℕ) → FirstAt text k l → FirstAt text k' l' → (k ≡ k') × (l ≡ l')
first_unique text k l k' l' c d =
    let e = sym ((first_exactly_at text k l).1 c) ∙ (first_exactly_at text k' l').1 d in
    (let n = number_of e in omega arith, line_of e)

-- No number is given exactly if no line has a fault; then there is no line either.
pub first_none : (text : List ℕ) → ((first_fault text).number ≡ 0) ↔ ((l : ℕ) → NoRow (faults_of text l))
unfolding first_fault faults_of
first_none text = (there, λ f. number_of (none_scan 1 (text_faults text) (λ i. (lowest_zero 1 (rows text i)).1 (f (suc i))))) where
  there : (first_fault text).number ≡ 0 → (l : ℕ) → NoRow (faults_of text l)
  there e zero k = refl
  there e (suc i) k = (lowest_zero 1 (rows text i)).0 (scan_none 1 (text_faults text) e i) k

-- Refusals 20: what is given is none, or a row of the table and a line of the text that are so.
pub record Given (text : List ℕ) (f : Fault) : Type 0 where
  pub row : ℕ
  pub number : f.number ≡ 2 + row
  pub first : FirstAt text row f.line
  pub possible : Possible text row f.line

pub first_given : (text : List ℕ) → ((first_fault text).number ≡ 0) ⊎ Given text (first_fault text)
unfolding first_fault
first_given text = go (first_fault text).number (first_fault text).line refl where
  given : (n i : ℕ) → first_fault text ≡ fault (suc (suc n)) (suc i) → ((first_fault text).number ≡ 0) ⊎ Given text (first_fault text)
  given n i e =
      let c = (first_exactly_at text n (suc i)).0 (e ∙ ap (λ (m : ℕ). fault m (suc i)) (omega arith)) in
      inr (
      rw e
      (record { row = n; number = omega arith; first = c; possible = fault_range text n (suc i) c.0.0 })
      )

  go : (n l : ℕ) → first_fault text ≡ fault n l → ((first_fault text).number ≡ 0) ⊎ Given text (first_fault text)
  go zero l e = inl (number_of e)
  go (suc n) zero e = absurd (let z = scan_line 1 (text_faults text) n 0 e in omega arith)
  go (suc zero) (suc i) e =
      absurd (⊎_elim (λ z. let c = (first_there text 0 i e).0 in omega arith) (λ r. let c = (first_there text 0 i e).0 in omega arith) (lowest_range 1 (rows text i)))
  go (suc (suc n)) (suc i) e = given n i e
