-- Laws of words: a word's bytes one by one, of a word that bytes make, and of numbers in decimal as words.
-- Assumes nothing.
use mathlib.Core.Path.{◌≡◌, refl, sym, ap, ◌∙◌}
use mathlib.Core.Bool.{Bool, true, false, ◌&&◌, true≢false}
use mathlib.Core.List.{List, [], ◌∷◌, ◌++◌, append_assoc, append-nil}
use Prim.Native.Nat.{ℕ, zero, suc, ◌+◌, ◌*◌, ◌-◌, ◌/◌, ◌%◌, ◌^◌, ◌≤◌, ◌<◌}
use native.Mathlib.Nat.{pow-suc, pow-le-pow_right, sub-zero, div-lt_iff_lt-mul, le-div_iff_mul-le, div-div-eq-div-mul}
use native.Mathlib.Omega.{arith}
use borrow.Author.Tests.{eqb-true, leb-true, eq-eqb, ne_eqb, lt-ltb, le-ltb, le-leb}
use lib.Arith.{digits_div, digits_mod}
use lib.Dec.{eqb, ltb, leb, lit<}
use lib.IntN.{ℤ, pos, negsuc, nat_abs}
use lib.Signed.{le_z}
use Rattle.numbers.specs.Bytes.{ascii, number}
use Rattle.numbers.specs.Tests.{first_below, Each}
use Rattle.numbers.proofs.Tests.{first_none, first_here, first_before, first_passes}
use Rattle.numbers.proofs.Truth.{is_true, true_is, both, if_below, of_both}
use Rattle.printing.specs.Listing.{printed, width, plain}
use Rattle.printing.specs.Code.{packed_in, packed, at_least, digits_onto}

-- More room than a word needs changes nothing.
enough : (w v n : ℕ) → n ≤ w → n ≤ v → packed_in w n ≡ packed_in v n
unfolding packed_in
enough zero zero n h g = refl
enough zero (suc v) n h g = let z : n ≡ 0 = omega arith in rw z refl
enough (suc w) zero n h g = let z : n ≡ 0 = omega arith in rw z refl
enough (suc w) (suc v) n h g = rw (enough w v (n / 256) (omega arith) (omega arith)) refl

pub packed_none : packed 0 ≡ []
unfolding packed packed_in
packed_none = refl

pub packed_more : (n : ℕ) → (n ≡ 0 → ⊥) → packed n ≡ n % 256 ∷ packed (n / 256)
unfolding packed packed_in
packed_more zero h = absurd (h refl)
packed_more (suc m) h =
    rw (ne_eqb (suc m) 0 (λ e. omega arith)) (ap (λ (xs : List ℕ). suc m % 256 ∷ xs) (enough m (suc m / 256) (suc m / 256) (omega arith) (omega arith)))

-- A byte that is not 0, in front of a word.
packed_byte : (b n : ℕ) → 0 < b → b < 256 → packed (n * 256 + b) ≡ b ∷ packed n
packed_byte b n h g = packed_more (n * 256 + b) (λ e. omega arith) ∙ rw (digits_mod n g, digits_div n g)

-- Bytes that are not 0 are those of the number that they write.
pub packed_number : (xs : List ℕ) → Each (λ b. (0 < b) × (b < 256)) xs → packed (number xs) ≡ xs
unfolding number
packed_number [] h = packed_none
packed_number (b ∷ bs) h = packed_byte b (number bs) h.0.0 h.0.1 ∙ ap (λ (xs : List ℕ). b ∷ xs) (packed_number bs h.1)

-- Two bytes as one word, and a space behind them.
pub packed_two : (a b : ℕ) → (0 < a) × (a < 256) → (0 < b) × (b < 256) → packed (number (a ∷ b ∷ [])) ≡ a ∷ b ∷ []
packed_two a b h g = packed_number (a ∷ b ∷ []) (h, (g, tt))

pub packed_spaced : (a b : ℕ) → (0 < a) × (a < 256) → (0 < b) × (b < 256) → packed (number (a ∷ b ∷ 32 ∷ [])) ≡ packed (number (a ∷ b ∷ [])) ++ (32 ∷ [])
packed_spaced a b h g =
    packed_number (a ∷ b ∷ 32 ∷ []) (h, (g, ((lit< tt, lit< tt), tt))) ∙ sym (ap (λ (xs : List ℕ). xs ++ (32 ∷ [])) (packed_two a b h g))

-- ---- digits

digit_byte : (n : ℕ) → (0 < 48 + n % 10) × (48 + n % 10 < 256)
digit_byte n = (omega arith, omega arith)

each_append : (xs ys : List ℕ) → Each (λ b. (0 < b) × (b < 256)) xs → Each (λ b. (0 < b) × (b < 256)) ys → Each (λ b. (0 < b) × (b < 256)) (xs ++ ys)
each_append [] ys h g = g
each_append (x ∷ xs) ys h g = (h.0, each_append xs ys h.1 g)

digits_bytes : (w n : ℕ) → Each (λ b. (0 < b) × (b < 256)) (printed w n)
unfolding printed
digits_bytes zero n = tt
digits_bytes (suc w) n = each_append (printed w (n / 10)) ((48 + n % 10) ∷ []) (digits_bytes w (n / 10)) (digit_byte n, tt)

-- Digits as a word.
packed_digits : (w n : ℕ) → packed (number (printed w n)) ≡ printed w n
packed_digits w n = packed_number (printed w n) (digits_bytes w n)

-- The digits from the last to the first, each in front of those behind it.
onto : (w n : ℕ) (xs : List ℕ) → digits_onto w n (number xs) ≡ number (printed w n ++ xs)
unfolding digits_onto printed number
onto zero n xs = refl
onto (suc w) n xs = onto w (n / 10) ((48 + n % 10) ∷ xs) ∙ ap number (sym (append_assoc (printed w (n / 10)) ((48 + n % 10) ∷ []) xs))

digits_onto_lem : (w n : ℕ) → digits_onto w n 0 ≡ number (printed w n)
unfolding number
digits_onto_lem w n = onto w n [] ∙ ap number (append-nil (printed w n))

-- Five digits behind the others.
five : (n : ℕ) → n / 10 / 10 / 10 / 10 / 10 ≡ n / 100000
five n = omega arith

printed_split : (w n : ℕ) → printed (w + 5) n ≡ printed w (n / 100000) ++ printed 5 n
unfolding printed
printed_split w n =
    let e : w + 5 ≡ suc (suc (suc (suc (suc w)))) = omega arith in
    rw (e, ← five n) (simp append_assoc refl)

-- ---- how many digits

width_at : (w n : ℕ) → w < 9 → 10 ^ w ≤ n + (1 - w) → n < 10 ^ suc w → width n ≡ suc w
unfolding width
width_at w n h low high =
    ap suc
    (first_here (λ k. ltb n (10 ^ suc k)) 9 w h
    (λ j l. let p : 10 ^ suc j ≤ 10 ^ w = pow-le-pow_right (lit< tt) l in le-ltb n (10 ^ suc j) (omega arith))
    (lt-ltb n (10 ^ suc w) high))

width_most : (n : ℕ) → 10 ^ 9 ≤ n → width n ≡ 10
unfolding width
width_most n h =
    ap suc
    (first_none (λ k. ltb n (10 ^ suc k)) 9
    (λ j l. let p : 10 ^ suc j ≤ 10 ^ 9 = pow-le-pow_right (lit< tt) l in le-ltb n (10 ^ suc j) (omega arith)))

-- A number below a power of ten has no more digits than it says, and one from it on has more.
width_below : (w n : ℕ) → w < 9 → n < 10 ^ suc w → width n ≤ suc w
unfolding width
width_below w n h l =
    if_below w (first_below 9 (λ k. ltb n (10 ^ suc k)))
    (λ g. absurd (true≢false (sym (lt-ltb n (10 ^ suc w) l) ∙ first_before (λ k. ltb n (10 ^ suc k)) 9 w g)))
    (λ g. omega arith)

width_above : (w n : ℕ) → w ≤ 9 → 10 ^ w ≤ n → w < width n
unfolding width
width_above w n h l =
    let p : ℕ → Bool = λ k. ltb n (10 ^ suc k) in
    if_below (first_below 9 p) w
    (λ g. let e : 10 ^ suc (first_below 9 p) ≤ 10 ^ w = pow-le-pow_right (lit< tt) g in
    absurd (true≢false (sym (first_passes p 9 (omega arith)) ∙ le-ltb n (10 ^ suc (first_below 9 p)) (omega arith))))
    (λ g. omega arith)

-- Five digits behind those of the rest.
width_split : (n : ℕ) → 100000 ≤ n → n < 4294967296 → width n ≡ width (n / 100000) + 5
width_split n h l =
    let q = n / 100000 in
    let case : (w : ℕ) → w < 4 → 10 ^ w ≤ q + (1 - w) → q < 10 ^ suc w → 10 ^ (w + 5) ≤ n + (1 - (w + 5)) → n < 10 ^ suc (w + 5) → width n ≡ width q + 5 = λ w b x y z u.
    width_at (w + 5) n (omega arith) z u ∙ omega arith ∙ sym (ap (λ (k : ℕ). k + 5) (width_at w q (omega arith) x y)) in
    if_below q 10 (λ g. case 0 (lit< tt) (omega arith) g (omega arith) (omega arith))
    (λ a. if_below q 100 (λ g. case 1 (lit< tt) (omega arith) g (omega arith) (omega arith))
    (λ b. if_below q 1000 (λ g. case 2 (lit< tt) (omega arith) g (omega arith) (omega arith))
    (λ c. if_below q 10000 (λ g. case 3 (lit< tt) (omega arith) g (omega arith) (omega arith))
    (λ d. width_most n (omega arith) ∙ sym (ap (λ (k : ℕ). k + 5) (width_at 4 q (lit< tt) (omega arith) (omega arith)))))))

-- How many digits are asked for at least: one, and all five.
at_least_one : (n : ℕ) → at_least 1 (width n) ≡ width n
unfolding at_least width
at_least_one n = rw (le-ltb (width n) 1 (omega arith)) refl

at_least_five : (n : ℕ) → n < 100000 → at_least 5 (width n) ≡ 5
unfolding at_least
at_least_five n h =
    let g = width_below 4 n (lit< tt) h in
    if_below (width n) 5 (λ l. rw (lt-ltb (width n) 5 l) refl) (λ l. rw (le-ltb (width n) 5 l) (omega arith))

-- The digits of a number as they are gathered, from the last one on.
pub record Gathering (n least counter word rest : ℕ) : Type 0 where
  pub few : counter ≤ 5
  pub small : word < 256 ^ counter
  pub left : rest ≡ n / 10 ^ counter
  pub within : counter ≤ at_least least (width n)
  pub whole : digits_onto (at_least least (width n) - counter) rest word ≡ digits_onto (at_least least (width n)) n 0

pub gathering : (n least : ℕ) → Gathering n least 0 0 n
gathering n least = record {
  few = omega arith;
  small = lit< tt;
  left = omega arith;
  within = omega arith;
  whole = ap (λ (w : ℕ). digits_onto w n 0) (sub-zero (at_least least (width n)));
}

module _ {n least counter word rest : ℕ} (g : Gathering n least counter word rest) where
  pub gathered_small : word < 1099511627776
  gathered_small = let p : 256 ^ counter ≤ 256 ^ 5 = pow-le-pow_right (lit< tt) g.few in omega (arith, g.small)

  pub gathering_small : counter < 5 → word < 4294967296
  gathering_small h = let l : counter ≤ 4 = omega arith in let p : 256 ^ counter ≤ 256 ^ 4 = pow-le-pow_right (lit< tt) l in omega (arith, g.small)

  gathered : at_least least (width n) ≤ counter → word ≡ number (printed (at_least least (width n)) n)
  unfolding digits_onto
  gathered h =
      let w = at_least least (width n) in
      let e : w - counter ≡ 0 = omega arith in
      sym (ap (λ (w : ℕ). digits_onto w rest word) e) ∙ g.whole ∙ digits_onto_lem w n

  ten : 0 < 10 ^ counter
  ten = let z : 0 ≤ counter = omega arith in let p : 10 ^ 0 ≤ 10 ^ counter = pow-le-pow_right (lit< tt) z in p

  -- No digit is left, and there are enough; one more, since one is left or there are too few; all five.
  pub gathered_here : 0 < least → (eqb rest 0 && leb least counter) ≡ true → word ≡ number (printed (at_least least (width n)) n)
  unfolding at_least
  gathered_here z t =
      let b = both (eqb rest 0) (leb least counter) (true_is (eqb rest 0 && leb least counter) t) in
      let r = eqb-true rest 0 (is_true (eqb rest 0) b.0) in
      let h = leb-true least counter (is_true (leb least counter) b.1) in
      let lt : n / 10 ^ counter < 1 = omega (arith, g.left) in
      let low : n < 1 * 10 ^ counter = (div-lt_iff_lt-mul ten).0 lt in
      let e : suc (counter - 1) ≡ counter = omega arith in
      let w : width n ≤ suc (counter - 1) = width_below (counter - 1) n (omega (arith, g.few)) (rw e (omega arith)) in
      gathered (of_both (λ (k : ℕ). k ≤ counter) (ltb (width n) least) h (omega arith))

  pub gathering_more : (eqb rest 0 && leb least counter) ≡ false → counter < 5 → Gathering n least (counter + 1) (word * 256 + (48 + rest % 10)) (rest / 10)
  unfolding digits_onto at_least
  gathering_more more h =
      let one : counter + 1 ≡ suc counter = omega arith in
      let p = pow-suc 256 counter in
      let within : counter < at_least least (width n) =
      if_below counter least
      (λ l. if_below (width n) least (λ m. rw (lt-ltb (width n) least m) l) (λ m. rw (le-ltb (width n) least m) (omega arith)))
      (λ l. let r : 1 ≤ n / 10 ^ counter =
      if_below 0 rest
      (λ q. omega (arith, g.left))
      (λ q. let z : rest ≡ 0 = omega arith in absurd (true≢false (sym (rw (eq-eqb rest 0 z, le-leb least counter l) refl) ∙ more))) in
      let high : 1 * 10 ^ counter ≤ n = (le-div_iff_mul-le ten).0 r in
      let w : counter < width n = width_above counter n (omega arith) (omega arith) in
      if_below (width n) least (λ m. rw (lt-ltb (width n) least m) (omega arith)) (λ m. rw (le-ltb (width n) least m) w)) in
      let e : at_least least (width n) - counter ≡ suc (at_least least (width n) - suc counter) = omega arith in
      record {
        few = omega arith;
        small = rw (one, p) (omega (arith, g.small));
        left = rw (one, g.left, pow-suc 10 counter) (div-div-eq-div-mul n (10 ^ counter) 10);
        within = omega arith;
        whole = rw one (sym (ap (λ (w : ℕ). digits_onto w rest word) e) ∙ g.whole);
      }

  pub gathered_five : n < 100000 → least ≤ 5 → 5 ≤ counter → word ≡ number (printed (at_least least (width n)) n)
  unfolding at_least
  gathered_five l h five =
      let w = width_below 4 n (lit< tt) l in
      gathered (of_both (λ (k : ℕ). k ≤ counter) (ltb (width n) least) (omega arith) (omega arith))

-- ---- a number in two words, and a literal by its bits

last_digit : (n q m : ℕ) → n ≡ q * 10 + m → m % 10 ≡ n % 10
last_digit n q m e = omega arith

printed_five : (n : ℕ) → printed 5 (n % 100000) ≡ printed 5 n
unfolding printed
printed_five n =
    let q = n / 100000 in
    let m = n % 100000 in
    let a : n ≡ q * 10000 * 10 + m = omega arith in
    let b : n / 10 ≡ q * 1000 * 10 + m / 10 = omega arith in
    let c : n / 10 / 10 ≡ q * 100 * 10 + m / 10 / 10 = omega arith in
    let d : n / 10 / 10 / 10 ≡ q * 10 * 10 + m / 10 / 10 / 10 = omega arith in
    let e : n / 10 / 10 / 10 / 10 ≡ q * 10 + m / 10 / 10 / 10 / 10 = omega arith in
    rw (
      last_digit n (q * 10000) m a,
      last_digit (n / 10) (q * 1000) (m / 10) b,
      last_digit (n / 10 / 10) (q * 100) (m / 10 / 10) c,
      last_digit (n / 10 / 10 / 10) (q * 10) (m / 10 / 10 / 10) d,
      last_digit (n / 10 / 10 / 10 / 10) q (m / 10 / 10 / 10 / 10) e,
    ) refl

pub decimal_one : (n : ℕ) {second : ℕ} → second ≡ number (printed (at_least 1 (width n)) n) → packed 0 ++ packed second ≡ printed (width n) n
decimal_one n {second} e =
    ap (λ (xs : List ℕ). xs ++ packed second) packed_none ∙ ap packed e ∙ packed_digits (at_least 1 (width n)) n ∙ ap (λ (w : ℕ). printed w n) (at_least_one n)

pub decimal_two : (n : ℕ) {first second : ℕ} → 100000 ≤ n → n < 4294967296 → first ≡ number (printed (at_least 1 (width (n / 100000))) (n / 100000))
    → second ≡ number (printed (at_least 5 (width (n % 100000))) (n % 100000)) → packed first ++ packed second ≡ printed (width n) n
decimal_two n {first} {second} h l e f =
    let q = n / 100000 in
    let m = n % 100000 in
    ap (λ (xs : List ℕ). xs ++ packed second) (ap packed e ∙ packed_digits (at_least 1 (width q)) q ∙ ap (λ (w : ℕ). printed w q) (at_least_one q))
    ∙ ap (λ (xs : List ℕ). printed (width q) q ++ xs)
    (ap packed f ∙ packed_digits (at_least 5 (width m)) m ∙ ap (λ (w : ℕ). printed w m) (at_least_five m (omega arith)) ∙ printed_five n)
    ∙ sym (printed_split (width q) n)
    ∙ ap (λ (w : ℕ). printed w n) (sym (width_split n h l))

-- The literal of a value, by its size: as it is, or behind a minus.
pub plain_positive : (z : ℤ) {n : ℕ} → le_z (pos 0) z ≡ true → n ≡ nat_abs z → printed (width n) n ≡ plain z
unfolding plain
plain_positive (pos m) h e = ap (λ (k : ℕ). printed (width k) k) e
plain_positive (negsuc m) h e = absurd (true≢false (sym h))

pub plain_negative : (z : ℤ) (first second : ℕ) {n : ℕ} → le_z (pos 0) z ≡ false → n ≡ nat_abs z → packed first ++ packed second ≡ printed (width n) n
    → packed (45 + 256 * first) ++ packed second ≡ plain z
unfolding plain ascii
plain_negative (pos m) first second h e g = absurd (true≢false (sym (le-leb 0 m (omega arith)) ∙ h))
plain_negative (negsuc m) first second h e g =
    let a : 45 + 256 * first ≡ first * 256 + 45 = omega arith in
    ap (λ (n : ℕ). packed n ++ packed second) a
    ∙ ap (λ (xs : List ℕ). xs ++ packed second) (packed_byte 45 first (lit< tt) (lit< tt))
    ∙ ap (λ (xs : List ℕ). 45 ∷ xs) (g ∙ ap (λ (k : ℕ). printed (width k) k) e)
