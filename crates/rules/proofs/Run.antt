-- A run keeps the rules: from a ruled state with good events and good statements every state is ruled.
-- Assumes nothing.
use mathlib.Core.Path.{sym, subst}
use mathlib.Core.Bool.{Bool}
use mathlib.Core.List.{List}
use Prim.Native.Nat.{ℕ, ◌<◌}
use lib.Dec.{T}
use Rattle.numbers.specs.Tests.{all_of}
use Rattle.effects.specs.Deeds.{Deed}
use Rattle.machine.specs.declared.Machine.{Machine}
use Rattle.events.specs.declared.Event.{Event}
use Rattle.machine.specs.Turn.{turn}
use Rattle.events.specs.Events.{good_event}
use Rattle.machine.specs.Run.{plain, course_of, run_from}
use Rattle.machine.proofs.Quiet.{happens_next}
use Rattle.machine.proofs.Traces.{run_keeps}
use Rattle.rules.specs.Rules.{Ruled}
use Rattle.rules.specs.Good.{Acts}
use Rattle.rules.proofs.Events.{ruled_event}
use Rattle.rules.proofs.Turn.{ruled_turn}

module _ {R : Type 0} (cells variables : ℕ) (holds : ℕ → Bool) (place number : R → ℕ) (act : Machine → Deed)
    (acts : (m : Machine) → Ruled cells variables holds m → m.next < cells → Acts cells variables holds place number act m) where
  -- One turn of what acts.
  pub ruled_act : (m : Machine) → Ruled cells variables holds m → m.next < cells → Ruled cells variables holds (turn cells (act m) m).machine
  ruled_act m r here =
      let a = acts m r here in
      subst (λ (e : Deed). Ruled cells variables holds (turn cells e m).machine) (sym a.does)
      (ruled_turn cells variables holds place number a.statement m a.good r here a.hold)

  -- Turn 3 to 7: the final state, whatever the budget.
  pub ruled_run : (left t : ℕ) (es : List Event) (m : Machine) → T (all_of good_event es) → Ruled cells variables holds m
      → Ruled cells variables holds (run_from act cells left t es m).machine
  unfolding course_of
  ruled_run = run_keeps plain happens_next act cells (Ruled cells variables holds) good_event ruled_event ruled_act
