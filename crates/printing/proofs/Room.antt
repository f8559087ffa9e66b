-- A text that was put on a page with room for it: the place behind it is its length, and it stands in front of the rest.
-- Assumes nothing.
use mathlib.Core.Path.{◌≡◌, refl, sym, ap, ◌∙◌}
use mathlib.Core.List.{List, ◌++◌}
use Prim.Native.Nat.{ℕ, ◌≤◌, ◌<◌}
use native.Mathlib.Nat.{zero-add, min-eq_left}
use native.Mathlib.Omega.{arith}
use borrow.Author.Tests.{lt-ltb, le-ltb}
use lib.ListN.{length, take, drop, length-take}
use lib.Seq.{take_at}
use Rattle.numbers.proofs.Laws.{over_front}
use Rattle.printing.specs.Code.{Put, if_room}
use Rattle.printing.proofs.Pages.{behind_fits, length_put}

-- Bytes for a buffer that is too short, and for another.
module _ (bytes text : List ℕ) where
  pub too_short_lem : length text < length bytes → text ≡ if_room bytes text
  unfolding if_room
  too_short_lem l = rw (lt-ltb (length text) (length bytes) l) refl

  pub in_room : length bytes ≤ length text → {new : List ℕ} → new ≡ bytes → new ++ drop (length bytes) text ≡ if_room bytes text
  unfolding if_room
  in_room l {new} e = rw (e, le-ltb (length text) (length bytes) l)

-- A text that was put on a page with room for it, and what a buffer has of it then.
module _ {xs page new : List ℕ} {at : ℕ} (room : length xs ≤ length page) (p : Put xs page 0 at new) where
  at_end_lem : at ≡ length xs
  at_end_lem = p.place ∙ behind_fits (length page) 0 xs (omega arith) ∙ zero-add (length xs)

  pub on_page : at ≤ length new
  on_page = omega (arith, at_end_lem, length_put p)

  pub cut : at ≡ length (take at new)
  cut = sym (length-take at new ∙ min-eq_left on_page)

  pub given : (old : List ℕ) {r : ℕ} {text : List ℕ} → r ≡ at → text ≡ if_room (take at new) old → (r ≡ length xs) × (text ≡ if_room xs old)
  given old r g =
      let held : take at new ≡ xs = ap (take at) (p.page ∙ over_front xs page room) ∙ take_at xs (drop (length xs) page) at (sym at_end_lem) in
      (r ∙ at_end_lem, g ∙ ap (λ (ys : List ℕ). if_room ys old) held)
