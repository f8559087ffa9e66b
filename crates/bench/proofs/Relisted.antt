-- The bench's own calls do what Q-1 asks, and no other lister does; a longest listing is reached.
-- Assumes nothing.
use mathlib.Core.Path.{◌≡◌, refl, sym, ap, ap₂, ◌∙◌}
use mathlib.Core.List.{List, ◌++◌}
use mathlib.Core.Logic.{◌↔◌}
use Prim.Native.Nat.{ℕ, ◌+◌, ◌-◌, ◌≤◌, ◌<◌}
use native.Mathlib.Omega.{arith}
use lib.ListN.{length, drop, replicate, length-replicate}
use lib.Seq.{take_at}
use Rattle.numbers.specs.Bytes.{Bytes}
use Rattle.numbers.specs.Tests.{NoRow}
use Rattle.numbers.proofs.Truth.{if_same, if_below}
use Rattle.image.specs.Check.{image_faults, checked}
use Rattle.translation.specs.Images.{image}
use Rattle.printing.specs.Listing.{listing}
use Rattle.listing.proofs.Back.{listing_accepted}
use Rattle.listing.proofs.Image.{listing_image}
use Rattle.listing.proofs.Size.{listing_size}
use Rattle.listing.proofs.Longest.{longest_image, longest_accepted, longest_size}
use Rattle.bench.specs.Translating.{answered}
use Rattle.bench.specs.Listings.{list_answered, listed_as}
use Rattle.bench.specs.Running.{checked_as}
use Rattle.bench.specs.Calls.{Lists}
use Rattle.bench.specs.Demands.{Translate, given, our_translate}
use Rattle.bench.specs.Requests.{Listing, ListImage, told, ListRefused, Request1, our_list}
use Rattle.bench.specs.declared.Listed.{Listed}
use Rattle.bench.proofs.Listings.{refused_image, refused_kept, short_refused, short_kept, fits_answered, fits_listed}
use Rattle.bench.proofs.Demands.{ours_fits, given_fits, image_refused, image_numbers}

-- The promise of the call (Calls.antt) says exactly that it is this function.
pub lists_ours : (s before : List ℕ) (a : Listed) (after : List ℕ)
    → Lists s before a after ↔ ((a ≡ (our_list s before).answer) × (after ≡ (our_list s before).text))
lists_ours s before a after = (λ l. (l.answers, l.leaves), λ e. record { answers = e.0; leaves = e.1 })

-- ---- Q-1 4: an image and a buffer fall under one of three cases

module _ (s buffer : List ℕ) where
  accepted_none : checked s ≡ 0 → NoRow (image_faults s)
  unfolding checked_as
  accepted_none e = (image_refused s).none.0 e

  none_accepted : NoRow (image_faults s) → checked s ≡ 0
  unfolding checked_as
  none_accepted n = (image_refused s).none.1 n

  refused_case : (checked s ≡ 0 → ⊥) → ListRefused s buffer (our_list s buffer)
  unfolding checked_as
  refused_case bad =
      let n : (listed_as s (length buffer)).number ≡ checked s = ap (λ (a : Listed). a.number) (refused_image s buffer bad) in
      let r = image_numbers s bad in
      record {
        image_refused = λ k h. (λ q. ((image_refused s).refused k).0 (sym n ∙ q), λ q. n ∙ ((image_refused s).refused k).1 q);
        number_11 = (λ q. absurd (let z : checked s ≡ 11 = sym n ∙ q in omega (arith, r.0)), λ q. absurd (bad (none_accepted q.0)));
        number_0 = (λ q. absurd (bad (sym n ∙ q)), λ q. absurd (bad (none_accepted q.0)));
        length_refused = λ q. ap (λ (a : Listed). a.length) (refused_image s buffer bad);
        buffer_refused = λ q. refused_kept s buffer bad;
      }

  -- None of 21 to 25 is given where the image is accepted.
  not_refused : checked s ≡ 0 → (k : ℕ) → checked s ≡ 21 + k → ⊥
  not_refused e k q = omega arith

  module _ (good : checked s ≡ 0) where
    short_case : length buffer < length (listing s) → ListRefused s buffer (our_list s buffer)
    unfolding checked_as
    short_case h =
        let n : (listed_as s (length buffer)).number ≡ 11 = ap (λ (a : Listed). a.number) (short_refused s buffer good h) in
        record {
          image_refused = λ k l. (λ q. absurd (omega arith), λ q. absurd (not_refused good k (((image_refused s).refused k).1 q)));
          number_11 = (λ q. (accepted_none good, h), λ q. n);
          number_0 = (λ q. absurd (omega arith), λ q. absurd (let z = q.1 in omega arith));
          length_refused = λ q. ap (λ (a : Listed). a.length) (short_refused s buffer good h);
          buffer_refused = λ q. short_kept s buffer good h;
        }

    fits_case : length (listing s) ≤ length buffer → ListRefused s buffer (our_list s buffer)
    unfolding checked_as
    fits_case h =
        let n : (listed_as s (length buffer)).number ≡ 0 = ap (λ (a : Listed). a.number) (fits_answered s buffer good h) in
        record {
          image_refused = λ k l. (λ q. absurd (omega arith), λ q. absurd (not_refused good k (((image_refused s).refused k).1 q)));
          number_11 = (λ q. absurd (omega arith), λ q. absurd (let z = q.1 in omega arith));
          number_0 = (λ q. (accepted_none good, h), λ q. n);
          length_refused = λ q. absurd (q n);
          buffer_refused = λ q. absurd (q n);
        }

  pub list_refused : ListRefused s buffer (our_list s buffer)
  list_refused =
      if_same (checked s) 0
      (λ good. if_below (length buffer) (length (listing s)) (short_case good) (fits_case good))
      refused_case

-- ---- Q-1 2, Q-1 3

module _ (s buffer : List ℕ) (good : checked s ≡ 0) (room : length (listing s) ≤ length buffer) where
  pub list_accepted : our_list s buffer ≡ record { answer = list_answered 0 (length (listing s)); text = listing s ++ drop (length (listing s)) buffer }
  list_accepted = ap₂ (λ (a : Listed) (t : List ℕ). record { answer = a; text = t }) (fits_answered s buffer good room) (fits_listed s buffer good room)

  pub told_listing : told (our_list s buffer) ≡ listing s
  told_listing = ap told list_accepted ∙ take_at (listing s) (drop (length (listing s)) buffer) (length (listing s)) refl

-- An answer with number 0 tells that the image is accepted and that there was room.
zero_told : (s room : List ℕ) → (our_list s room).answer.number ≡ 0 → (checked s ≡ 0) × (told (our_list s room) ≡ listing s)
zero_told s room e =
    let c = (list_refused s room).number_0.0 e in
    let good = none_accepted s room c.0 in
    (good, told_listing s room good c.1)

module _ (s room buffer : List ℕ) (byte : Bytes s) (e : (our_list s room).answer.number ≡ 0) (fits : length s ≤ length buffer) where
  same : image (listing s) ≡ s
  same = listing_image s (zero_told s room e).0 byte

  enough : length (image (listing s)) ≤ length buffer
  enough = rw same fits

  pub translated_back : our_translate (told (our_list s room)) buffer ≡ record { answer = answered 0 0 (length s); image = s ++ drop (length s) buffer }
  translated_back =
      ap (λ (t : List ℕ). our_translate t buffer) (zero_told s room e).1
      ∙ ours_fits (listing s) buffer (listing_accepted s (zero_told s room e).0) enough
      ∙ ap (λ (i : List ℕ). record { answer = answered 0 0 (length i); image = i ++ drop (length i) buffer }) same

  pub listed_again : (more : List ℕ) → length (told (our_list s room)) ≤ length more → told (our_list (given (our_translate (told (our_list s room)) buffer)) more) ≡ told (our_list s room)
  listed_again more h =
      let z = zero_told s room e in
      ap (λ (i : List ℕ). told (our_list i more))
      (ap (λ (t : List ℕ). given (our_translate t buffer)) z.1 ∙ given_fits (listing s) buffer (listing_accepted s z.0) enough ∙ same)
      ∙ told_listing s more z.0 (rw z.1 at h)
      ∙ sym z.1

-- The length of an answer, refused or not.
list_most : (s buffer : List ℕ) → (our_list s buffer).answer.length ≤ 9472
list_most s buffer =
    if_same (our_list s buffer).answer.number 0
    (λ e.
    let c = (list_refused s buffer).number_0.0 e in
    let good = none_accepted s buffer c.0 in
    let l : (our_list s buffer).answer.length ≡ length (listing s) = ap (λ (a : Listed). a.length) (fits_answered s buffer good c.1) in
    omega (arith, listing_size s good))
    (λ h. omega (arith, (list_refused s buffer).length_refused h))

pub request1 : Request1 our_translate our_list
request1 =
    record {
      refusing = list_refused;
      laid_out = λ s buffer n room. list_accepted s buffer (none_accepted s buffer n) room;
      back = λ s room buffer byte e fits. translated_back s room buffer byte e fits;
      again = λ s room buffer more byte e fits h. listed_again s room buffer byte e fits more h;
      most = list_most;
    }

-- And one image has so many bytes, in a buffer of just so many.
pub most_reached : (our_list longest_image (replicate 9472 0)).answer ≡ list_answered 0 9472
most_reached =
    fits_answered longest_image (replicate 9472 0) longest_accepted (omega (arith, longest_size, length-replicate {A = ℕ} 9472 0))
    ∙ ap (list_answered 0) longest_size

-- ---- no other lister

-- Any lister that does what the request asks gives what ours gives, on every input, answer and buffer.
module _ (translate : Translate) (list : ListImage) (r : Request1 translate list) (s buffer : List ℕ) where
  kept : (n : ℕ) → (n ≡ 0 → ⊥) → (l : Listing) → ListRefused s buffer l → l.answer.number ≡ n → l ≡ record { answer = list_answered n 0; text = buffer }
  kept n h l c e =
      let some : l.answer.number ≡ 0 → ⊥ = λ z. h (sym e ∙ z) in
      ap₂ (λ (a : Listed) (t : List ℕ). record { answer = a; text = t })
      (ap₂ list_answered e (c.length_refused some))
      (c.buffer_refused some)

  pub list_decided : list s buffer ≡ our_list s buffer
  unfolding checked_as
  list_decided =
      if_same (checked s) 0
      (λ good. if_below (length buffer) (length (listing s))
      (λ h. let t = r.refusing s buffer in let o = list_refused s buffer in
      kept 11 (λ z. omega arith) (list s buffer) t (t.number_11.1 (accepted_none s buffer good, h))
      ∙ sym (kept 11 (λ z. omega arith) (our_list s buffer) o (o.number_11.1 (accepted_none s buffer good, h))))
      (λ h. r.laid_out s buffer (accepted_none s buffer good) h ∙ sym (list_accepted s buffer good h)))
      (λ bad.
      let n = checked s in
      let k = image_numbers s bad in
      let e : n ≡ 21 + (n - 21) = omega (arith, k.0) in
      let low = ((image_refused s).refused (n - 21)).0 e in
      let t = r.refusing s buffer in
      let o = list_refused s buffer in
      let five : n - 21 < 5 = omega (arith, k.0, k.1) in
      kept n bad (list s buffer) t ((t.image_refused (n - 21) five).1 low ∙ sym e)
      ∙ sym (kept n bad (our_list s buffer) o ((o.image_refused (n - 21) five).1 low ∙ sym e)))
