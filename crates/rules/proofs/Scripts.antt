-- Scripts as bytes: the events of one behind another, and that a run does not use those behind it.
-- Assumes nothing.
use mathlib.Core.Path.{◌≡◌, refl, ap, ap₂, ◌∙◌}
use mathlib.Core.List.{List, ◌∷◌, ◌++◌}
use Prim.Native.Nat.{ℕ, zero, suc, ◌+◌, ◌*◌, ◌/◌, ◌%◌, ◌≤◌, ◌<◌}
use native.Mathlib.Nat.{zero-add, suc-add, add_assoc, div-add-mod, mul-add-div}
use native.Mathlib.Omega.{arith}
use lib.Dec.{T, leb}
use lib.ListN.{length, drop, length-append, length-drop}
use lib.Seq.{take-append-le, drop-append-le, drop-append-add}
use Rattle.numbers.specs.Bytes.{field}
use Rattle.numbers.specs.Tests.{all_of, listed}
use Rattle.effects.specs.Deeds.{Deed}
use Rattle.machine.specs.declared.Machine.{Machine}
use Rattle.events.specs.declared.Event.{Event}
use Rattle.events.specs.Events.{event_at, event_count, events}
use Rattle.machine.specs.Run.{run_from}
use Rattle.rules.proofs.Later.{later_unused}

-- A field in the first of two lists of bytes; in the second.
field_first : (w from : ℕ) (xs ys : List ℕ) → from + w ≤ length xs → field w from (xs ++ ys) ≡ field w from xs
unfolding field
field_first w from xs ys h =
    let l : w ≤ length (drop from xs) = rw length-drop (omega arith) in
    rw (drop-append-le from xs ys (omega arith), take-append-le w (drop from xs) ys l)

field_second : (w from : ℕ) (xs ys : List ℕ) → field w (length xs + from) (xs ++ ys) ≡ field w from ys
unfolding field
field_second w from xs ys = rw drop-append-add

-- A list by numbers in two parts, each by a function of its own.
module _ {A : Type 0} where
  listed_same : (f g : ℕ → A) (from to n : ℕ) → ((k : ℕ) → f (from + k) ≡ g (to + k)) → listed from n f ≡ listed to n g
  unfolding listed
  listed_same f g from to zero e = refl
  listed_same f g from to (suc n) e =
      ap₂ ◌∷◌ (ap f (omega arith) ∙ e 0 ∙ ap g (omega arith))
      (listed_same f g (suc from) (suc to) n (λ k. ap f (omega arith) ∙ e (suc k) ∙ ap g (omega arith)))

  listed_parts : (f g h : ℕ → A) (from a b : ℕ) → ((k : ℕ) → k < from + a → f k ≡ g k) → ((k : ℕ) → f (from + a + k) ≡ h k)
      → listed from (a + b) f ≡ listed from a g ++ listed 0 b h
  unfolding listed
  listed_parts f g h from zero b p q = rw (zero-add b) (listed_same f h from 0 b (λ k. ap f (omega arith) ∙ q k ∙ ap h (omega arith)))
  listed_parts f g h from (suc a) b p q =
      rw (suc-add a b) (ap₂ ◌∷◌ (p from (omega arith)) (listed_parts f g h (suc from) a b (λ k l. p k (omega arith)) (λ k. ap f (omega arith) ∙ q k)))

module _ (script more : List ℕ) (whole : length script % 12 ≡ 0) where
  twelves : 12 * (length script / 12) ≡ length script
  twelves = let e = div-add-mod (length script) 12 in omega arith

  event_first : (k : ℕ) → k < length script / 12 → event_at (script ++ more) k ≡ event_at script k
  unfolding event_at
  event_first k h =
      let t = twelves in
      rw (
        field_first 4 (12 * k) script more (omega arith),
        field_first 1 (12 * k + 4) script more (omega arith),
        field_first 1 (12 * k + 5) script more (omega arith),
        field_first 2 (12 * k + 6) script more (omega arith),
        field_first 4 (12 * k + 8) script more (omega arith),
      )

  event_second : (k : ℕ) → event_at (script ++ more) (length script / 12 + k) ≡ event_at more k
  unfolding event_at
  event_second k =
      let t = twelves in
      let e : 12 * (length script / 12 + k) ≡ length script + 12 * k = omega arith in
      rw e (simp (add_assoc, field_second))

  -- Events 1: the events of two scripts in one.
  pub events_append : events (script ++ more) ≡ events script ++ events more
  unfolding events event_count
  events_append =
      let t = twelves in
      let c : length (script ++ more) / 12 ≡ length script / 12 + length more / 12 =
      ap (λ (n : ℕ). n / 12) (length-append script more ∙ omega arith) ∙ mul-add-div (omega arith) (length script / 12) (length more) in
      rw c
      (listed_parts (event_at (script ++ more)) (event_at script) (event_at more) 0 (length script / 12) (length more / 12)
      (λ k h. event_first k (omega arith))
      (λ k. ap (event_at (script ++ more)) (omega arith) ∙ event_second k))

  -- Events 3: the bytes of events at or after the turns that a run took change nothing.
  pub later_bytes_unused : (act : Machine → Deed) (cells left t : ℕ) (m : Machine)
      → T (all_of (λ (e : Event). leb (run_from act cells left t (events script) m).turns e.turn) (events more))
      → run_from act cells left t (events (script ++ more)) m ≡ run_from act cells left t (events script) m
  later_bytes_unused act cells left t m late = rw events_append (later_unused act cells left t (events script) (events more) m late)
