-- The turns of `H x`, and a turn of OE.
-- Assumes nothing.
use mathlib.Core.Path.{◌≡◌, refl, ap, ◌∙◌}
use mathlib.Core.Bool.{Bool, true, false, cond, and-true, or-false}
use mathlib.Core.List.{List}
use Prim.Native.Nat.{ℕ, zero, suc, ◌+◌, ◌-◌, ◌≤◌, ◌<◌}
use native.Mathlib.Omega.{arith}
use borrow.Author.Tests.{lt-ltb, le-ltb, le-leb, eq-eqb, ne_eqb}
use lib.Dec.{ltb}
use lib.IntN.{ℤ, pos}
use Rattle.program.specs.Variables.{in_range, hold_range}
use Rattle.numbers.specs.Tests.{any_of}
use Rattle.program.specs.Statements.{Value, Hold, OE, Disarm, operands}
use Rattle.effects.specs.declared.Effect.TheVariants.{Fails, Holds}
use Rattle.effects.specs.Errors.{value_outside}
use Rattle.effects.specs.Effects.{value, holding, effect}
use Rattle.effects.specs.Deeds.{Deed, in_error, clears, is_er, reads_er, deed}
use Rattle.machine.specs.declared.Machine.{Machine}
use Rattle.machine.specs.Turn.{no_handler, calls_only, with_variables, onward, with_hold, armed, held, applied, clearing, turn}
use Rattle.rules.proofs.Errors.{Leaves, as_is}

-- A turn that leaves so many turns of a hold; it clears EF where it reads ER.
abbrev cleared : Bool → Machine → Machine
cleared t m = with_variables (clearing t m.variables) m

cleared_held : (t : Bool) (n : ℕ) (m : Machine) → cleared t (held n m) ≡ held n (cleared t m)
unfolding held
cleared_held t n m = by_turns (ltb 0 n)
  where
    by_turns : (b : Bool) → cleared t (cond b (with_hold n m) (with_hold 0 (onward m))) ≡ cond b (with_hold n (cleared t m)) (with_hold 0 (onward (cleared t m)))
    by_turns true = refl
    by_turns false = refl

held_turn : (cells : ℕ) (d : Deed) (n : ℕ) (m : Machine) → d.effect ≡ Holds n → (turn cells d m).machine ≡ held n (cleared d.reads m)
unfolding turn applied clears in_error
held_turn cells d n m e = rw (e, and-true d.reads) (cleared_held d.reads n m)

module _ {R : Type 0} (place number : R → ℕ) (cells : ℕ) (x : Value R) where
  abbrev does : List ℤ → ℕ → ℕ → Deed
  does vars kept hold = deed place number vars kept hold (Hold x)

  -- One turn of `H x`; so many of them.
  abbrev next : Machine → Machine
  next m = (turn cells (does m.variables m.places.kept m.hold) m).machine

  abbrev pub turns_of : ℕ → Machine → Machine
  turns_of zero m = m
  turns_of (suc k) m = turns_of k (next m)

  -- Turn 17, Q-2 3: while turns of a hold are to come, a turn leaves one less, whatever x has become, and reads nothing.
  pub later_unread : (vars : List ℤ) (kept hold : ℕ) → 0 < hold → does vars kept hold ≡ record { effect = Holds (hold - 1); reads = false }
  unfolding effect holding reads_er
  later_unread vars kept hold h = rw (lt-ltb 0 hold h, ne_eqb hold 0 (λ e. omega arith))

  later : (m : Machine) (k : ℕ) → m.hold ≡ suc k → next m ≡ held k m
  unfolding clearing
  later m k e =
      let d = later_unread m.variables m.places.kept m.hold (omega arith) in
      let l : m.hold - 1 ≡ k = omega arith in
      ap (λ (f : Deed). (turn cells f m).machine) d ∙ held_turn cells _ (m.hold - 1) m refl ∙ ap (λ (n : ℕ). held n m) l

  -- So many turns of a hold still to come take so many turns, and the cell is left with the last of them.
  all_left : (k : ℕ) (m : Machine) → m.hold ≡ suc k → turns_of (suc k) m ≡ with_hold 0 (onward m)
  unfolding held
  all_left zero m e = later m 0 e
  all_left (suc k) m e = ap (turns_of (suc k)) (later m (suc k) e ∙ rw (lt-ltb 0 (suc k) (omega arith))) ∙ all_left k (with_hold (suc k) m) refl

  some_left : (k j : ℕ) (m : Machine) → m.hold ≡ suc k → j ≤ k → (turns_of j m).next ≡ m.next
  unfolding held
  some_left k zero m e h = refl
  some_left zero (suc j) m e h = absurd (omega arith)
  some_left (suc k) (suc j) m e h =
      ap (λ (n : Machine). (turns_of j n).next) (later m (suc k) e ∙ rw (lt-ltb 0 (suc k) (omega arith))) ∙ some_left k j (with_hold (suc k) m) refl (omega arith)

  -- Turn 17, Q-2 3: an `H x` with x from 1 to 65,000 takes just x turns: up to the last its cell is next, and behind the last the following cell. Where x is ER
  -- it clears EF, and nothing else of the machine changes.
  pub record Lasts (turns : ℕ) (m : Machine) : Type 0 where
    pub left : turns_of turns m ≡ with_hold 0 (onward (cleared (is_er number x) m))
    pub stays : (j : ℕ) → j < turns → (turns_of j m).next ≡ m.next

  module _ (m : Machine) (turns : ℕ) (quiet : m.hold ≡ 0) (seen : value place number m.variables m.places.kept m.hold x ≡ pos turns) where
    started : 1 ≤ turns → turns ≤ 65000 → (does m.variables m.places.kept m.hold).effect ≡ Holds (turns - 1)
    unfolding effect holding
    started low high = rw (le-ltb 0 m.hold (omega arith), seen, le-leb 1 turns low, le-leb turns 65000 high)

    abbrev begun : Machine
    begun = cleared (is_er number x) m

    first : 1 ≤ turns → turns ≤ 65000 → next m ≡ held (turns - 1) begun
    unfolding reads_er operands any_of
    first low high =
        held_turn cells (does m.variables m.places.kept m.hold) (turns - 1) m (started low high)
        ∙ ap (λ (t : Bool). held (turns - 1) (cleared t m)) (rw (eq-eqb m.hold 0 quiet) (or-false (is_er number x)))

    pub hold_lasts : 1 ≤ turns → turns ≤ 65000 → Lasts turns m
    unfolding held
    hold_lasts low high = by_turns turns refl
      where
        by_turns : (n : ℕ) → turns ≡ n → Lasts turns m
        by_turns zero e = absurd (omega arith)
        by_turns (suc zero) e =
            let l : turns - 1 ≡ 0 = omega arith in
            rw e (record { left = first low high ∙ ap (λ (n : ℕ). held n begun) l; stays = λ j h. only j h })
          where
            only : (j : ℕ) → j < 1 → (turns_of j m).next ≡ m.next
            only zero h = refl
            only (suc j) h = absurd (omega arith)
        by_turns (suc (suc k)) e =
            let l : turns - 1 ≡ suc k = omega arith in
            let f : next m ≡ with_hold (suc k) begun = first low high ∙ ap (λ (n : ℕ). held n begun) l ∙ rw (lt-ltb 0 (suc k) (omega arith)) in
            rw e (record { left = ap (turns_of (suc k)) f ∙ all_left k (with_hold (suc k) begun) refl; stays = λ j h. still f j h })
          where
            still : next m ≡ with_hold (suc k) begun → (j : ℕ) → j < suc (suc k) → (turns_of j m).next ≡ m.next
            still f zero h = refl
            still f (suc j) h = ap (λ (n : Machine). (turns_of j n).next) f ∙ some_left k j (with_hold (suc k) begun) refl (omega arith)

  -- Turn 17, Turn 21: any other x, as it is in the first turn, is 103.
  pub hold_fails : (vars : List ℤ) (kept : ℕ) → in_range hold_range (value place number vars kept 0 x) ≡ false → (does vars kept 0).effect ≡ Fails value_outside
  unfolding effect holding
  hold_fails vars kept e = rw e

-- Turn 18, Q-7 3: OE makes the label's place the handler, `OE 0` leaves none; the following cell is next, and each kept return place is one that CL kept.
module _ {R : Type 0} (place number : R → ℕ) (cells : ℕ) (m : Machine) where
  pub arms : (n : R) → Leaves (m.next + 1) (calls_only m.places) (place n) false (turn cells (deed place number m.variables m.places.kept m.hold (OE n)) m)
  unfolding effect applied turn armed
  arms n = as_is _

  pub disarms : Leaves (m.next + 1) (calls_only m.places) no_handler false (turn cells (deed place number m.variables m.places.kept m.hold Disarm) m)
  unfolding effect applied turn armed
  disarms = as_is _
