-- Laws of pages: bytes put one behind the other are the joined bytes put at once, whatever room there is.
-- Assumes nothing.
use mathlib.Core.Path.{◌≡◌, refl, sym, ap, ◌∙◌}
use mathlib.Core.List.{List, [], ◌∷◌, ◌++◌, flat_map}
use Prim.Native.Nat.{ℕ, suc, ◌+◌, ◌-◌, ◌/◌, ◌%◌, ◌≤◌, ◌<◌}
use native.Mathlib.Omega.{arith}
use borrow.Author.Tests.{lt-ltb, le-ltb}
use lib.ListN.{length, get_or, set, drop, drop_of_length-le, length-set}
use lib.Seq.{sets, set_out, length-sets, drop-cons}
use Rattle.numbers.specs.Tests.{listed}
use Rattle.numbers.proofs.Laws.{sets_out}
use Rattle.numbers.proofs.Truth.{if_below}
use Rattle.printing.specs.Code.{packed, behind, Put}
use Rattle.printing.proofs.Packed.{packed_none, packed_more}

behind_out : (room at : ℕ) (xs : List ℕ) → room ≤ at → behind room at xs ≡ at
unfolding behind
behind_out room at [] h = refl
behind_out room at (x ∷ xs) h = rw (le-ltb at room h) refl

behind_more : (room at x : ℕ) (xs : List ℕ) → at < room → behind room at (x ∷ xs) ≡ behind room (suc at) xs
unfolding behind
behind_more room at x xs h = rw (lt-ltb at room h) refl

-- Where there is room for all, the place is their number further on.
pub behind_fits : (room at : ℕ) (xs : List ℕ) → at + length xs ≤ room → behind room at xs ≡ at + length xs
unfolding behind
behind_fits room at [] h = omega arith
behind_fits room at (x ∷ xs) h = behind_more room at x xs (omega arith) ∙ behind_fits room (suc at) xs (omega arith) ∙ omega arith

behind_append : (room at : ℕ) (xs ys : List ℕ) → behind room (behind room at xs) ys ≡ behind room at (xs ++ ys)
unfolding behind
behind_append room at [] ys = refl
behind_append room at (x ∷ xs) ys =
    if_below at room
    (λ h. rw (lt-ltb at room h) (behind_append room (suc at) xs ys))
    (λ h. rw (le-ltb at room h) (behind_out room at ys h))

sets_append : (page : List ℕ) (at : ℕ) (xs ys : List ℕ) → sets (sets page at xs) (behind (length page) at xs) ys ≡ sets page at (xs ++ ys)
unfolding behind
sets_append page at [] ys = refl
sets_append page at (x ∷ xs) ys =
    if_below at (length page)
    (λ h. let e = length-set page at x in
    rw (lt-ltb at (length page) h) (ap (λ (n : ℕ). sets (sets (set page at x) (suc at) xs) (behind n (suc at) xs) ys) (sym e) ∙ sets_append (set page at x) (suc at) xs ys))
    (λ h. let e = set_out page at x h in
    rw (le-ltb at (length page) h)
    (ap (λ (l : List ℕ). sets (sets l (suc at) xs) at ys) e
    ∙ ap (λ (l : List ℕ). sets l at ys) (sets_out page (suc at) xs (omega arith))
    ∙ sets_out page at ys h
    ∙ sym (ap (λ (l : List ℕ). sets l (suc at) (xs ++ ys)) e ∙ sets_out page (suc at) (xs ++ ys) (omega arith))))

-- Bytes, and others behind them; the same bytes by another name.
module _ {xs ys old mid new : List ℕ} {at next last : ℕ} where
  pub put_then : Put xs old at next mid → Put ys mid next last new → Put (xs ++ ys) old at last new
  put_then p q = record {
    place =
        q.place
        ∙ ap (λ (l : List ℕ). behind (length l) next ys) p.page
        ∙ ap (λ (n : ℕ). behind n next ys) (length-sets old at xs)
        ∙ ap (λ (n : ℕ). behind (length old) n ys) p.place
        ∙ behind_append (length old) at xs ys;
    page =
        q.page
        ∙ ap (λ (l : List ℕ). sets l next ys) p.page
        ∙ ap (λ (n : ℕ). sets (sets old at xs) n ys) p.place
        ∙ sets_append old at xs ys;
  }

module _ {xs ys old new : List ℕ} {at next : ℕ} where
  pub put_same : xs ≡ ys → Put xs old at next new → Put ys old at next new
  put_same e p = record { place = p.place ∙ ap (behind (length old) at) e; page = p.page ∙ ap (sets old at) e }

pub length_put : {xs old new : List ℕ} {at next : ℕ} → Put xs old at next new → length new ≡ length old
length_put {xs} {old} {new} {at} p = ap length p.page ∙ length-sets old at xs

-- A text as it is put piece by piece: what is left of it, put from here on, gives the whole.
pub record Putting (whole old : List ℕ) (start : ℕ) (left page : List ℕ) (at : ℕ) : Type 0 where
  pub size : length page ≡ length old
  pub place : behind (length old) at left ≡ behind (length old) start whole
  pub bytes : sets page at left ≡ sets old start whole

pub putting : (whole old : List ℕ) (start : ℕ) → Putting whole old start whole old start
putting whole old start = record { size = refl; place = refl; bytes = refl }

module _ {whole old left page : List ℕ} {start at : ℕ} where
  -- What is left, said in another way; nothing is left; there is no room left.
  pub putting_same : {more : List ℕ} → left ≡ more → Putting whole old start left page at → Putting whole old start more page at
  putting_same e p = record {
    size = p.size;
    place = ap (behind (length old) at) (sym e) ∙ p.place;
    bytes = ap (sets page at) (sym e) ∙ p.bytes;
  }

  pub put_all : left ≡ [] → Putting whole old start left page at → Put whole old start at page
  unfolding behind
  put_all e p = record {
    place = sym (ap (behind (length old) at) e) ∙ p.place;
    page = sym (ap (sets page at) e) ∙ p.bytes;
  }

  put_out : length page ≤ at → Putting whole old start left page at → Put whole old start at page
  put_out h p = record {
    place = sym (behind_out (length old) at left (omega (arith, p.size))) ∙ p.place;
    page = sym (sets_out page at left h) ∙ p.bytes;
  }

  -- One piece more.
  pub put_next : {xs new : List ℕ} {next : ℕ} → Putting whole old start (xs ++ left) page at → Put xs page at next new → Putting whole old start left new next
  put_next {xs} {new} {next} p q = record {
    size = length_put q ∙ p.size;
    place =
        ap (λ (n : ℕ). behind (length old) n left) q.place
        ∙ ap (λ (n : ℕ). behind (length old) (behind n at xs) left) p.size
        ∙ behind_append (length old) at xs left
        ∙ p.place;
    bytes =
        ap (λ (l : List ℕ). sets l next left) q.page
        ∙ ap (λ (n : ℕ). sets (sets page at xs) n left) q.place
        ∙ sets_append page at xs left
        ∙ p.bytes;
  }

-- A byte of a word.
put_byte : {page : List ℕ} {at b : ℕ} → at < length page → Put (b ∷ []) page at (at + 1) (set page at b)
unfolding behind
put_byte {page} {at} {b} h = record { place = sym (behind_more (length page) at b [] h ∙ omega arith); page = refl }

-- Words as they are put, with what is left of one that was begun: the first is begun; a byte; one is done, and the next is begun or there is none.
pub record Wording (words old : List ℕ) (start rest k : ℕ) (page : List ℕ) (at : ℕ) : Type 0 where
  pub left : Putting (flat_map packed words) old start (packed rest ++ flat_map packed (drop k words)) page at

pub wording : (words old : List ℕ) (start : ℕ) → Wording words old start 0 0 old start
wording words old start = record { left = putting_same (sym (ap (λ (xs : List ℕ). xs ++ flat_map packed words) packed_none)) (putting (flat_map packed words) old start) }

module _ {words old page : List ℕ} {start rest k at : ℕ} (p : Wording words old start rest k page at) where
  pub word_byte : (rest ≡ 0 → ⊥) → at < length page → Wording words old start (rest / 256) k (set page at (rest % 256)) (at + 1)
  word_byte h l = record {
    left = put_next (putting_same (ap (λ (xs : List ℕ). xs ++ flat_map packed (drop k words)) (packed_more rest h)) p.left) (put_byte l);
  }

  word_done : rest ≡ 0 → packed rest ++ flat_map packed (drop k words) ≡ flat_map packed (drop k words)
  word_done e = ap (λ (xs : List ℕ). xs ++ flat_map packed (drop k words)) (ap packed e ∙ packed_none)

  pub word_next : rest ≡ 0 → k < length words → Wording words old start (get_or words k 0) (k + 1) page at
  unfolding flat_map
  word_next e h = record {
    left = let one : k + 1 ≡ suc k = omega arith in putting_same (word_done e ∙ ap (flat_map packed) (drop-cons words k 0 h) ∙ rw one refl) p.left;
  }

  pub word_over : rest ≡ 0 → Wording words old start 0 k page at
  word_over e = record { left = putting_same (ap (λ (n : ℕ). packed n ++ flat_map packed (drop k words)) e) p.left }

  pub words_put : rest ≡ 0 → length words ≤ k → Put (flat_map packed words) old start at page
  unfolding flat_map
  words_put e h = put_all (word_done e ∙ ap (flat_map packed) (drop_of_length-le words h)) p.left

  pub words_out : length page ≤ at → Put (flat_map packed words) old start at page
  words_out h = put_out h p.left

-- Pieces for the numbers from k to before n: one and the others, or none.
module _ (f : ℕ → List ℕ) (k n : ℕ) where
  pub pieces_left : k < n → flat_map f (listed k (n - k) (λ i. i)) ≡ f k ++ flat_map f (listed (k + 1) (n - (k + 1)) (λ i. i))
  unfolding flat_map listed
  pieces_left h =
      let a : n - k ≡ suc (n - (k + 1)) = omega arith in
      let b : k + 1 ≡ suc k = omega arith in
      rw (a, b) refl

  pub pieces_over : n ≤ k → flat_map f (listed k (n - k) (λ i. i)) ≡ []
  unfolding flat_map listed
  pieces_over h = let a : n - k ≡ 0 = omega arith in rw a refl
