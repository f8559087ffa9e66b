-- The cases of listing, from what the code writes: refused, no room, listed.
-- Assumes nothing.
use mathlib.Core.Path.{◌≡◌, refl, sym, ap, ◌∙◌}
use mathlib.Core.List.{List, ◌++◌}
use Prim.Native.Nat.{ℕ, ◌≤◌, ◌<◌}
use native.Mathlib.Omega.{arith}
use borrow.Author.Tests.{lt-ltb, le-ltb, ne_eqb}
use lib.ListN.{length, drop}
use Rattle.image.specs.Check.{checked}
use Rattle.printing.specs.Listing.{listing}
use Rattle.printing.specs.Code.{image_text, if_room}
use Rattle.listing.proofs.Size.{listing_size}
use Rattle.listing.proofs.Written.{written}
use Rattle.bench.specs.Listings.{short_text, list_answered, listed_as, listed_into}
use Rattle.bench.specs.Calls.{Lists}
use Rattle.bench.specs.declared.Listed.{Listed}

-- An image that is refused, and a buffer.
module _ (s old : List ℕ) (bad : checked s ≡ 0 → ⊥) where
  pub refused_image : listed_as s (length old) ≡ list_answered (checked s) 0
  unfolding listed_as
  refused_image = rw (ne_eqb (checked s) 0 bad) refl

  pub refused_kept : listed_into s old ≡ old
  unfolding listed_into
  refused_kept = rw (refused_image, ne_eqb (checked s) 0 bad) refl

-- An accepted image, and a buffer that is too short; one with room.
module _ (s old : List ℕ) (good : checked s ≡ 0) where
  pub short_refused : length old < length (listing s) → listed_as s (length old) ≡ list_answered 11 0
  unfolding listed_as short_text
  short_refused h = rw (good, lt-ltb (length old) (length (listing s)) h) refl

  pub short_kept : length old < length (listing s) → listed_into s old ≡ old
  unfolding listed_into
  short_kept h = rw (short_refused h) refl

  pub fits_answered : length (listing s) ≤ length old → listed_as s (length old) ≡ list_answered 0 (length (listing s))
  unfolding listed_as short_text
  fits_answered h = rw (good, le-ltb (length old) (length (listing s)) h) refl

  pub fits_listed : length (listing s) ≤ length old → listed_into s old ≡ listing s ++ drop (length (listing s)) old
  unfolding listed_into
  fits_listed h = rw (fits_answered h) refl

-- The page of the code has room for every listing.
pub page_room : (s : List ℕ) → checked s ≡ 0 → length (image_text s) ≤ 9472
page_room s e = let h = listing_size s e in rw (written s e) h

-- What the function gives in each case.
module _ (s old : List ℕ) {number : ℕ} (e : number ≡ checked s) where
  pub list_refused : {answer : Listed} → (number ≡ 0 → ⊥) → answer ≡ list_answered number 0 → Lists s old answer old
  list_refused h a =
      let bad : checked s ≡ 0 → ⊥ = λ z. h (e ∙ z) in
      record { answers = a ∙ ap (λ (n : ℕ). list_answered n 0) e ∙ sym (refused_image s old bad); leaves = sym (refused_kept s old bad) }

  module _ {size : ℕ} {new : List ℕ} (accepted : number ≡ 0) (l : size ≡ length (image_text s)) (w : new ≡ if_room (image_text s) old) where
    good : checked s ≡ 0
    good = sym e ∙ accepted

    sized : size ≡ length (listing s)
    sized = l ∙ ap length (written s good)

    pub list_short : {answer : Listed} → length old < size → answer ≡ list_answered 11 0 → Lists s old answer new
    unfolding if_room
    list_short h a = record {
      answers = a ∙ sym (short_refused s old good (omega (arith, sized)));
      leaves =
          w
          ∙ ap (λ (xs : List ℕ). if_room xs old) (written s good)
          ∙ rw (lt-ltb (length old) (length (listing s)) (omega (arith, sized))) (sym (short_kept s old good (omega (arith, sized))));
    }

    pub list_fits : size ≤ length old → Lists s old (list_answered 0 size) new
    unfolding if_room
    list_fits h = record {
      answers = ap (list_answered 0) sized ∙ sym (fits_answered s old good (omega (arith, sized)));
      leaves =
          w
          ∙ ap (λ (xs : List ℕ). if_room xs old) (written s good)
          ∙ rw (le-ltb (length old) (length (listing s)) (omega (arith, sized))) (sym (fits_listed s old good (omega (arith, sized))));
    }
