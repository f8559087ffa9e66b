-- The rows are in the order of the names: a lower name stands in a lower row, and each name has a row of its own.
-- Assumes nothing.
use mathlib.Core.Path.{◌≡◌, ap, ap₂, ◌∙◌}
use mathlib.Core.Bool.{true, false, ◌&&◌}
use mathlib.Core.List.{[], ◌∷◌}
use mathlib.Core.Logic.{◌⊎◌, inl, inr, ⊎_elim}
use Prim.Native.Nat.{ℕ, ◌+◌, ◌*◌, ◌-◌, ◌/◌, ◌%◌, ◌≤◌, ◌<◌}
use native.Mathlib.Omega.{arith}
use borrow.Author.Tests.{le-leb, lt-leb}
use lib.Dec.{T, eqb, leb, ltb, leb→le, eqb→eq}
use lib.ListN.{length}
use Rattle.numbers.proofs.Truth.{is_true, true_is, both, either, if_below}
use Rattle.program.specs.Names.{Name, letter, digit, word_character, two_characters}
use Rattle.program.specs.Code.{name_of}
use Rattle.program.proofs.Keys.{name_two, two_bytes}
use Rattle.rows.specs.Rows.{lower, second_place, row_of}

-- The characters of a name.
letter_range : (c : ℕ) → T (letter c) → (65 ≤ c) × (c ≤ 90)
unfolding letter
letter_range c t = let p = both (leb 65 c) (leb c 90) t in (leb→le 65 c p.0, leb→le c 90 p.1)

digit_range : (c : ℕ) → T (digit c) → (48 ≤ c) × (c ≤ 57)
unfolding digit
digit_range c t = let p = both (leb 48 c) (leb c 57) t in (leb→le 48 c p.0, leb→le c 57 p.1)

character_range : (c : ℕ) → T (word_character c) → ((65 ≤ c) × (c ≤ 90)) ⊎ ((48 ≤ c) × (c ≤ 57))
unfolding word_character
character_range c t = ⊎_elim (λ p. inl (letter_range c p)) (λ p. inr (digit_range c p)) (either (letter c) (digit c) t)

pub second_least : (c : ℕ) → T (word_character c) → 48 ≤ c
second_least c t = ⊎_elim (λ r. omega (arith, r.0)) (λ r. r.0) (character_range c t)

pub letter_least : (c : ℕ) → T (word_character c) → 57 < c → 65 ≤ c
letter_least c t h = ⊎_elim (λ r. r.0) (λ r. absurd (omega (arith, r.1))) (character_range c t)

-- The place of a digit, and of a letter: below 36, and lower for a lower character.
digit_place : (c : ℕ) → c ≤ 57 → second_place c ≡ c - 48
unfolding second_place
digit_place c h = rw (le-leb c 57 h)

letter_place : (c : ℕ) → 57 < c → second_place c ≡ c - 65 + 10
unfolding second_place
letter_place c h = rw (lt-leb c 57 h)

pub second_below : (c : ℕ) → T (word_character c) → second_place c < 36
second_below c t =
    ⊎_elim
    (λ r. omega (arith, letter_place c (omega (arith, r.0)), r.0, r.1))
    (λ r. omega (arith, digit_place c r.1, r.0, r.1))
    (character_range c t)

second_lower : (c d : ℕ) → T (word_character c) → T (word_character d) → c < d → second_place c < second_place d
second_lower c d t u h =
    ⊎_elim
    (λ r. omega (arith, letter_place c (omega (arith, r.0)), letter_place d (omega (arith, r.0)), r.0))
    (λ r.
    ⊎_elim
    (λ q. omega (arith, digit_place c r.1, letter_place d (omega (arith, q.0)), r.0, r.1, q.0))
    (λ q. omega (arith, digit_place c r.1, digit_place d q.1, r.0, q.0))
    (character_range d u))
    (character_range c t)

second_apart : (c d : ℕ) → T (word_character c) → T (word_character d) → second_place c ≡ second_place d → c ≡ d
second_apart c d t u e =
    if_below c d
    (λ h. let k = second_lower c d t u h in absurd (omega arith))
    (λ h. if_below d c (λ g. let k = second_lower d c u t g in absurd (omega arith)) (λ g. omega arith))

-- A name of two characters, taken apart.
data IsName : Name → Type 0 where
  name : {a b : ℕ} → T (letter a) → T (word_character b) → IsName (a ∷ b ∷ [])

is_name_lem : (w : Name) → T (two_characters w) → IsName w
unfolding two_characters
is_name_lem [] t = absurd t
is_name_lem (a ∷ []) t = absurd t
is_name_lem (a ∷ b ∷ []) t = let p = both (letter a) (word_character b) t in name p.0 p.1
is_name_lem (a ∷ b ∷ c ∷ w) t =
    let e = eqb→eq (length (a ∷ b ∷ c ∷ w)) 2 (both (eqb (length (a ∷ b ∷ c ∷ w)) 2) (letter a && word_character b) t).0 in
    absurd (omega arith)

row_name : (a b : ℕ) → T (letter a) → T (word_character b) → row_of (a ∷ b ∷ []) ≡ (a - 65) * 36 + second_place b
unfolding row_of two_characters
row_name a b t u = rw (is_true (letter a) t, is_true (word_character b) u)

-- Every name has a row; what is none has no row.
row_below : {w : Name} → IsName w → row_of w < 936
row_below (name {a} {b} t u) = omega (arith, row_name a b t u, (letter_range a t).0, (letter_range a t).1, second_below b u)

pub below : (w : Name) → T (two_characters w) → row_of w < 936
below w t = row_below (is_name_lem w t)

pub past : (w : Name) → two_characters w ≡ false → row_of w ≡ 936
unfolding row_of
past w e = rw e

-- Q-3 2: a lower name stands in a lower row.
row_lower : {v w : Name} → IsName v → IsName w → T (lower v w) → row_of v < row_of w
unfolding lower
row_lower (name {a} {b} t u) (name {a = c} {b = d} p q) l =
    let x = row_name a b t u in
    let y = row_name c d p q in
    let g = letter_range a t in
    ⊎_elim
    (λ h. let k : a < c = leb→le _ _ h in omega (arith, x, y, g.0, second_below b u))
    (λ h.
    let m = both (eqb a c) (ltb b d) h in
    let e = eqb→eq a c m.0 in
    omega (arith, x, y, second_lower b d u q (leb→le _ _ m.1)))
    (either (ltb a c) (eqb a c && ltb b d) l)

pub ordered : (v w : Name) → T (two_characters v) → T (two_characters w) → T (lower v w) → row_of v < row_of w
ordered v w t u l = row_lower (is_name_lem v t) (is_name_lem w u) l

-- Two names in one row are one.
row_apart : {v w : Name} → IsName v → IsName w → row_of v ≡ row_of w → v ≡ w
row_apart (name {a} {b} t u) (name {a = c} {b = d} p q) e =
    let x = row_name a b t u in
    let y = row_name c d p q in
    let i = second_below b u in
    let j = second_below d q in
    let g = (letter_range a t).0 in
    let h = (letter_range c p).0 in
    let first : a ≡ c = omega arith in
    let same : second_place b ≡ second_place d = omega arith in
    ap₂ (λ (m n : ℕ). m ∷ n ∷ []) first (second_apart b d u q same)

pub apart : (v w : Name) → T (two_characters v) → T (two_characters w) → row_of v ≡ row_of w → v ≡ w
apart v w t u e = row_apart (is_name_lem v t) (is_name_lem w u) e

-- The row by a name's key.
module _ (k : ℕ) (e : two_characters (name_of k) ≡ true) where
  characters : T (letter (k % 256)) × T (word_character (k / 256))
  characters = both (letter (k % 256)) (word_character (k / 256)) (true_is _ (two_bytes k ∙ e))

  pub first_least : 65 ≤ k % 256
  first_least = (letter_range (k % 256) characters.0).0

  pub second_character : T (word_character (k / 256))
  second_character = characters.1

  pub row_by_key : row_of (name_of k) ≡ (k % 256 - 65) * 36 + second_place (k / 256)
  row_by_key =
      let h : 256 ≤ k = omega (arith, second_least (k / 256) second_character) in
      ap row_of (name_two k h) ∙ row_name (k % 256) (k / 256) characters.0 characters.1
