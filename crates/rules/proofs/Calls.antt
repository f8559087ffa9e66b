-- A turn of a CL: its condition does not hold, it calls its label, or it is in error and does not.
-- Assumes nothing.
use mathlib.Core.Path.{◌≡◌, refl, sym, ◌∙◌}
use mathlib.Core.Bool.{Bool, true, false, cond}
use Prim.Native.Nat.{ℕ, ◌+◌, ◌≤◌, ◌<◌}
use native.Mathlib.Omega.{arith}
use borrow.Author.Tests.{lt-ltb, le-ltb, ltb-false}
use lib.Dec.{ltb}
use Rattle.numbers.proofs.Truth.{if_same}
use Rattle.program.specs.Statements.{Condition, CL}
use Rattle.effects.specs.declared.Effect.TheVariants.{Fails, Calls}
use Rattle.effects.specs.Errors.{no_place_free}
use Rattle.effects.specs.Effects.{holds, calling, calling_if, effect}
use Rattle.effects.specs.Deeds.{Deed, deed}
use Rattle.machine.specs.declared.Machine.{Machine}
use Rattle.machine.specs.declared.Turned.{Turned}
use Rattle.machine.specs.Turn.{no_handler, by_call, keep, called, applied, turn}
use Rattle.rules.proofs.Errors.{Leaves, as_is, InError, in_error_lem}

-- Turn 23, Wrong 3: a turn in error 104 that does not go to this label. With no handler the following cell is next, with one the same
-- cell, and the run stops; places and handler are as before. So the label's cell is next only where it is one of these two.
pub record NoJump (label : ℕ) (m : Machine) (t : Turned) : Type 0 where
  pub error : InError no_place_free m t
  pub unarmed : m.handler ≡ no_handler → Leaves (m.next + 1) m.places m.handler false t
  pub armed : (m.handler ≡ no_handler → ⊥) → Leaves m.next m.places m.handler true t
  pub not_there : (label ≡ m.next + 1 → ⊥) → (label ≡ m.next → ⊥) → t.machine.next ≡ label → ⊥

module _ {R : Type 0} (place number : R → ℕ) (m : Machine) (n : R) (c : Condition R) where
  abbrev met : Bool
  met = holds place number m.variables m.places.kept m.hold c

  abbrev does : Deed
  does = deed place number m.variables m.places.kept m.hold (CL n c)

  -- Turn 12, Turn 21: a CL is in error exactly where its condition holds and eight places are kept, and the error is 104.
  pub call_fails : met ≡ true → 8 ≤ m.places.kept → does.effect ≡ Fails no_place_free
  unfolding effect calling_if calling
  call_fails t k = rw (t, le-ltb m.places.kept 8 k)

  pub call_failed : (error : ℕ) → does.effect ≡ Fails error → (error ≡ no_place_free) × (met ≡ true) × (8 ≤ m.places.kept)
  unfolding effect calling_if calling
  call_failed error e = by_condition met refl e
    where
      by_places_lem : (t : Bool) → ltb m.places.kept 8 ≡ t → cond t (Calls (place n)) (Fails no_place_free) ≡ Fails error → (error ≡ no_place_free) × (8 ≤ m.places.kept)
      by_places_lem true k e = let z : ◌≡◌ {A = ℕ} 0 1 = cc in absurd (omega arith)
      by_places_lem false k e = (cc, ltb-false m.places.kept 8 k)

      by_condition : (t : Bool) → met ≡ t → calling_if place number m.variables m.places.kept m.hold n t ≡ Fails error → (error ≡ no_place_free) × (met ≡ true) × (8 ≤ m.places.kept)
      by_condition true h e = let p = by_places_lem (ltb m.places.kept 8) refl e in (p.0, h, p.1)
      by_condition false h e = let z : ◌≡◌ {A = ℕ} 0 1 = cc in absurd (omega arith)

  module _ (cells : ℕ) where
    -- Turn 23, Wrong 3: a CL in error does not jump to its label.
    pub call_in_error : does.effect ≡ Fails no_place_free → NoJump (place n) m (turn cells does m)
    call_in_error e =
        let f = in_error_lem cells does m e in
        let k = (call_failed no_place_free e).2 in
        record {
          error = f;
          unarmed = f.unarmed;
          armed = λ h. f.full h k;
          not_there =
              λ a b l. if_same m.handler no_handler
              (λ h. a (sym l ∙ (f.unarmed h).next_cell))
              (λ h. b (sym l ∙ (f.full h k).next_cell));
        }

    -- Turn 12, Turn 13: where its condition holds and a place is free, it goes to its label and keeps the following cell.
    pub call_made : met ≡ true → m.places.kept < 8 → Leaves (place n) (keep m.places (by_call (m.next + 1))) m.handler false (turn cells does m)
    unfolding effect calling_if calling turn applied called
    call_made t k = rw (t, lt-ltb m.places.kept 8 k) (as_is _)

    -- Turn 12: where its condition does not hold, the following cell is next, and nothing is kept.
    pub call_passed : met ≡ false → Leaves (m.next + 1) m.places m.handler false (turn cells does m)
    unfolding effect calling_if turn applied
    call_passed t = rw t (as_is _)
