-- Document 01, "One turn", and document 02, "A handler that arms itself again": the rules for a state.
-- Assumes nothing.
use Rattle.std.specs.Prelude.{◌≡◌, Bool, true, ◌||◌, ℕ, ◌≤◌, T, pos, length, get_or}
use Rattle.numbers.specs.Tests.{eq_z}
use Rattle.program.specs.Variables.{in_range, literals, slew_range, range_of, present, all_inputs}
use Rattle.effects.specs.Errors.{is_error}
use Rattle.effects.specs.Effects.{read}
use Rattle.machine.specs.declared.Machine.{Machine}
use Rattle.machine.specs.declared.Place.{Place}
use Rattle.machine.specs.declared.Places.{Places}
use Rattle.machine.specs.declared.Motion.{Motion}
use Rattle.machine.specs.declared.Motion.TheVariants.{Still, To, Slewing}
use Rattle.machine.specs.Turn.{no_handler, unused, moving_bit}

-- Turn 5: the motion's number: a target in P's range, a velocity in SL's.
unfoldable pub good_motion : Motion → Bool
good_motion Still = true
good_motion (To z) = in_range literals z
good_motion (Slewing z) = in_range slew_range z

-- Turn 3: a return place by its number; past the last one stands an unused one.
abbrev pub place_at : Places → ℕ → Place
place_at places k = get_or places.all k unused

-- Turn 3, Q-7 5: the rules for a return place of a program with so many cells: the cell, and the target of the handler whose call kept it, are at most the
-- cell count. (That an answer tells no target where there is none, `state_place_of` says.)
pub record RuledPlace (cells : ℕ) (place : Place) : Type 0 where
  pub cell : place.cell ≤ cells
  pub handler : (place.handler ≡ no_handler → ⊥) → place.handler ≤ cells

-- Turn 3 to 5, Variables 4, Q-7 5: the rules for a state of a program with these counts; `holds k` says that cell k is an `H x`.
pub record Ruled (cells variables : ℕ) (holds : ℕ → Bool) (m : Machine) : Type 0 where
  pub all_there : (length m.variables ≡ 64) × (length m.places.all ≡ 8)
  pub error : T (eq_z (read m.variables 10) (pos 0) || is_error (read m.variables 10))
  pub in_range : (v : ℕ) → T (present variables v) → (v ≡ 10 → ⊥) → T (in_range (range_of v (read m.variables 8) (read m.variables 9)) (read m.variables v))
  pub inputs : read m.variables 20 ≡ all_inputs m.variables
  pub moving : read m.variables 14 ≡ moving_bit m.motion
  pub motion : T (good_motion m.motion)
  pub next : m.next ≤ cells
  pub kept : m.places.kept ≤ 8
  pub places : (k : ℕ) → RuledPlace cells (place_at m.places k)
  pub handler : (m.handler ≡ no_handler → ⊥) → m.handler ≤ cells
  pub hold : m.hold ≤ 64999
  pub hold_at : (m.hold ≡ 0 → ⊥) → T (holds m.next)
  pub unused_places : (k : ℕ) → m.places.kept ≤ k → place_at m.places k ≡ unused
  pub unused_variables : (v : ℕ) → (T (present variables v) → ⊥) → read m.variables v ≡ pos 0
