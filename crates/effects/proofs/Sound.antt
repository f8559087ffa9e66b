-- What an effect tells of the variables and the places kept.
-- Assumes nothing.
use mathlib.Core.Path.{◌≡◌, refl}
use mathlib.Core.Bool.{Bool, true, false, cond}
use mathlib.Core.List.{List}
use Prim.Native.Nat.{ℕ, ◌-◌, ◌<◌}
use borrow.Author.Tests.{ltb-true}
use lib.Dec.{ltb}
use lib.IntN.{ℤ, pos, nat_abs, ◌+ℤ◌, ◌-ℤ◌}
use Rattle.numbers.specs.Tests.{eq_z}
use Rattle.program.specs.Variables.{in_range, literals, hold_range, slew_range, range_of}
use Rattle.program.specs.Statements.{Value, Literal, Variable, Operator, Statement, Set, SetWith, IC, DC, BR, CL, RT, E, H, Hold, OE, Disarm, MA, MR, SL, PR}
use Rattle.effects.specs.declared.Effect.{Effect}
use Rattle.effects.specs.declared.Effect.TheVariants.{Fails, Stores, Passes, Goes, Calls, Returns, Ends, Stays, Holds, Arms, Disarms, Moves, Slews, Prints}
use Rattle.effects.specs.Errors.{result_error, divisor_zero, value_outside, no_place_free, no_place_kept, still_moving}
use Rattle.effects.specs.Effects.{read, storing, storing_result, operate, zero_divisor, storing_with, calling, returning, waiting, holding, moving, slewing, value, holds, printing, branching, calling_if, effect}

-- What holds of the machine where a statement has an effect: a place is free for a call, one is kept for a return, a stored value is in its range.
abbrev pub Sound : List ℤ → ℕ → Effect → Type 0
Sound vars kept (Fails error) = Unit {0}
Sound vars kept (Stores v z) = in_range (range_of v (read vars 8) (read vars 9)) z ≡ true
Sound vars kept Passes = Unit {0}
Sound vars kept (Goes cell) = Unit {0}
Sound vars kept (Calls cell) = kept < 8
Sound vars kept Returns = 0 < kept
Sound vars kept Ends = Unit {0}
Sound vars kept Stays = Unit {0}
Sound vars kept (Holds turns) = Unit {0}
Sound vars kept (Arms cell) = Unit {0}
Sound vars kept Disarms = Unit {0}
Sound vars kept (Moves target kind z) = Unit {0}
Sound vars kept (Slews z) = Unit {0}
Sound vars kept (Prints v z) = Unit {0}

module _ (vars : List ℤ) (kept : ℕ) where
  sound_cond : (t : Bool) (x y : Effect) → (t ≡ true → Sound vars kept x) → Sound vars kept y → Sound vars kept (cond t x y)
  sound_cond true x y f g = f refl
  sound_cond false x y f g = g

  sound_storing : (v : ℕ) (z : ℤ) → Sound vars kept (storing vars v z)
  unfolding storing
  sound_storing v z = sound_cond (in_range (range_of v (read vars 8) (read vars 9)) z) (Stores v z) (Fails value_outside) (λ e. e) tt

  sound_result : (v : ℕ) (z : ℤ) → Sound vars kept (storing_result vars v z)
  unfolding storing_result
  sound_result v z = sound_cond (in_range literals z) (storing vars v z) (Fails (result_error z)) (λ e. sound_storing v z) tt

  sound_with : (v : ℕ) (o : Operator) (x y : ℤ) → Sound vars kept (storing_with vars v o x y)
  unfolding storing_with
  sound_with v o x y = sound_cond (zero_divisor o y) (Fails divisor_zero) (storing_result vars v (operate o x y)) (λ e. tt) (sound_result v (operate o x y))

  sound_moving : (target : ℤ) (kind : ℕ) (z : ℤ) → Sound vars kept (moving vars target kind z)
  unfolding moving
  sound_moving target kind z =
      sound_cond (eq_z (read vars 14) (pos 1)) (Fails still_moving) (cond (in_range literals target) (Moves target kind z) (Fails (result_error target))) (λ e. tt)
      (sound_cond (in_range literals target) (Moves target kind z) (Fails (result_error target)) (λ e. tt) tt)

  sound_calling : (n : ℕ) → Sound vars kept (calling kept n)
  unfolding calling
  sound_calling n = sound_cond (ltb kept 8) (Calls n) (Fails no_place_free) (λ e. ltb-true kept 8 e) tt

  sound_returning : Sound vars kept (returning kept)
  unfolding returning
  sound_returning = sound_cond (ltb 0 kept) Returns (Fails no_place_kept) (λ e. ltb-true 0 kept e) tt

  sound_waiting : Sound vars kept (waiting vars)
  unfolding waiting
  sound_waiting = sound_cond (eq_z (read vars 14) (pos 1)) Stays Passes (λ e. tt) tt

  sound_holding : (hold : ℕ) (x : ℤ) → Sound vars kept (holding hold x)
  unfolding holding
  sound_holding hold x =
      sound_cond (ltb 0 hold) (Holds (hold - 1)) (cond (in_range hold_range x) (Holds (nat_abs x - 1)) (Fails value_outside)) (λ e. tt)
      (sound_cond (in_range hold_range x) (Holds (nat_abs x - 1)) (Fails value_outside) (λ e. tt) tt)

  sound_slewing : (x : ℤ) → Sound vars kept (slewing x)
  unfolding slewing
  sound_slewing x = sound_cond (in_range slew_range x) (Slews x) (Fails value_outside) (λ e. tt) tt

  module _ {R : Type 0} (place number : R → ℕ) (hold : ℕ) where
    sound_printing : (x : Value R) → Sound vars kept (printing place number vars kept hold x)
    unfolding printing
    sound_printing (Literal z) = tt
    sound_printing (Variable v) = tt

    sound_branching : (n : R) (t : Bool) → Sound vars kept (branching place number vars kept hold n t)
    unfolding branching
    sound_branching n true = tt
    sound_branching n false = tt

    sound_calling_if : (n : R) (t : Bool) → Sound vars kept (calling_if place number vars kept hold n t)
    unfolding calling_if
    sound_calling_if n true = sound_calling (place n)
    sound_calling_if n false = tt

    -- The effect of every statement is sound.
    pub sound : (s : Statement R) → Sound vars kept (effect place number vars kept hold s)
    unfolding effect
    sound (Set v x) = sound_storing (number v) (value place number vars kept hold x)
    sound (SetWith v x o y) = sound_with (number v) o (value place number vars kept hold x) (value place number vars kept hold y)
    sound (IC v) = sound_result (number v) (read vars (number v) +ℤ pos 1)
    sound (DC v) = sound_result (number v) (read vars (number v) -ℤ pos 1)
    sound (BR n c) = sound_branching n (holds place number vars kept hold c)
    sound (CL n c) = sound_calling_if n (holds place number vars kept hold c)
    sound RT = sound_returning
    sound E = tt
    sound H = sound_waiting
    sound (Hold x) = sound_holding hold (value place number vars kept hold x)
    sound (OE n) = tt
    sound Disarm = tt
    sound (MA x) = sound_moving (value place number vars kept hold x) 2 (value place number vars kept hold x)
    sound (MR x) = sound_moving (read vars 5 +ℤ value place number vars kept hold x) 3 (value place number vars kept hold x)
    sound (SL x) = sound_slewing (value place number vars kept hold x)
    sound (PR x) = sound_printing x
