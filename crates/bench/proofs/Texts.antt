-- An accepted text consists of bytes: its lines are printable, and what ends them is an LF or a CR.
-- Assumes nothing.
use mathlib.Core.Path.{◌≡◌, refl, sym, ◌∙◌}
use mathlib.Core.Bool.{Bool, true, false, cond, ◌&&◌, true≢false}
use mathlib.Core.List.{List, [], ◌∷◌}
use mathlib.Core.Option.{none, some}
use Prim.Native.Nat.{ℕ, zero, suc, ◌-◌, ◌<◌}
use native.Mathlib.Omega.{arith}
use borrow.Author.Tests.{eqb-true}
use lib.Dec.{T, eqb, leb, leb→le}
use lib.ListN.{length, get_or}
use Rattle.numbers.specs.Bytes.{Bytes}
use Rattle.numbers.specs.Tests.{all_of}
use Rattle.numbers.proofs.Truth.{both, both_of}
use Rattle.text.specs.Lines.{onto_first_line, lines}
use Rattle.text.specs.Tokens.{printable, tokens, uncommented}
use Rattle.text.specs.Forms.{statement, reading}
use Rattle.text.specs.Faults.{bad_form, first_fault}
use Rattle.refusals.proofs.Rows.{row_3}
use Rattle.refusals.proofs.First.{first_none}

-- A line with a form is printable.
formed : (l : List ℕ) → bad_form l ≡ false → T (all_of printable l)
unfolding bad_form reading
formed l e = go (all_of printable l) e where
  go : (t : Bool) → elim (cond t (statement (tokens (uncommented l))) none) [ none ↦ true | some x ↦ false ] ≡ false → T t
  go true e = tt
  go false e = absurd (true≢false e)

-- What holds of each line by its number holds of all.
all_by : {A : Type 0} (p : A → Bool) (d : A) (xs : List A) → ((i : ℕ) → i < length xs → T (p (get_or xs i d))) → T (all_of p xs)
unfolding all_of
all_by p d [] h = tt
all_by p d (x ∷ xs) h = both_of (p x) (all_of p xs) (h 0 (omega arith)) (all_by p d xs (λ i l. h (suc i) (omega arith)))

pub printable_byte : (b : ℕ) → T (printable b) → b < 256
unfolding printable
printable_byte b t = let h = leb→le b 126 (both (leb 32 b) (leb b 126) t).1 in omega arith

one_more : (b : ℕ) (bs : List ℕ) → b < 256 → Bytes bs → Bytes (b ∷ bs)
one_more b bs h f zero = h
one_more b bs h f (suc k) = f k

-- One more byte in front of the first line.
front : (b : ℕ) (ls : List (List ℕ)) → T (all_of (all_of printable) (onto_first_line b ls)) → T (printable b) × T (all_of (all_of printable) ls)
unfolding all_of onto_first_line
front b [] t = ((both (printable b) true (both (printable b && true) true t).0).0, tt)
front b (l ∷ ls) t =
    let u = both (printable b && all_of printable l) (all_of (all_of printable) ls) t in
    let v = both (printable b) (all_of printable l) u.0 in
    (v.0, both_of (all_of printable l) (all_of (all_of printable) ls) v.1 u.1)

lines_bytes : (text : List ℕ) → T (all_of (all_of printable) (lines text)) → Bytes text
unfolding lines all_of
lines_bytes [] t = λ k. omega arith
lines_bytes (b ∷ bs) t = go (eqb b 10) (eqb b 13) (eqb (get_or bs 0 0) 10) refl refl (lines_bytes bs) t where
  go : (x y z : Bool) → eqb b 10 ≡ x → eqb b 13 ≡ y → (T (all_of (all_of printable) (lines bs)) → Bytes bs)
      → T (all_of (all_of printable) (cond x ([] ∷ lines bs) (cond (y && z) (lines bs) (onto_first_line b (lines bs))))) → Bytes (b ∷ bs)
  go true y z e f more t = let q = eqb-true b 10 e in one_more b bs (omega arith) (more t)
  go false true true e f more t = let q = eqb-true b 13 f in one_more b bs (omega arith) (more t)
  go false true false e f more t = let u = front b (lines bs) t in one_more b bs (printable_byte b u.0) (more u.1)
  go false false z e f more t = let u = front b (lines bs) t in one_more b bs (printable_byte b u.0) (more u.1)

-- Text 5: a text without faults.
pub clean_bytes : (text : List ℕ) → (first_fault text).number ≡ 0 → Bytes text
clean_bytes text e =
    lines_bytes text
    (all_by (all_of printable) [] (lines text)
    (λ i h.
    let y : suc i - 1 ≡ i = omega arith in
    formed (get_or (lines text) i []) (rw y at (sym (row_3 text (suc i) (omega arith) h) ∙ (first_none text).0 e (suc i) 1))))
