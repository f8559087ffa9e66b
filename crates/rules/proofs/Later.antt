-- Events that come after a run, however it ends, are not used.
-- Assumes nothing.
use mathlib.Core.Path.{◌≡◌, ap}
use mathlib.Core.List.{List, ◌++◌}
use Prim.Native.Nat.{ℕ, ◌+◌}
use native.Mathlib.Omega.{arith}
use lib.Dec.{T, leb}
use Rattle.numbers.specs.Tests.{all_of}
use Rattle.effects.specs.Deeds.{Deed}
use Rattle.machine.specs.declared.Machine.{Machine}
use Rattle.events.specs.declared.Event.{Event}
use Rattle.machine.specs.Run.{plain, course_of, run_from}
use Rattle.machine.proofs.Traces.{few_turns, trace_later}

-- Events 3: no event at or after the turns that a run took is used, whether it ran past the last cell, was stopped by an error or used its budget.
pub later_unused : (act : Machine → Deed) (cells left t : ℕ) (es later : List Event) (m : Machine)
    → T (all_of (λ (e : Event). leb (run_from act cells left t es m).turns e.turn) later)
    → run_from act cells left t (es ++ later) m ≡ run_from act cells left t es m
unfolding course_of
later_unused act cells left t es later m late = ap (course_of plain t m) (trace_later _ later late plain act cells left t es m (omega arith))

-- Events 3: so none at or after the budget, however the run ends.
pub past_budget_unused : (act : Machine → Deed) (cells left t : ℕ) (es later : List Event) (m : Machine) → T (all_of (λ (e : Event). leb (t + left) e.turn) later)
    → run_from act cells left t (es ++ later) m ≡ run_from act cells left t es m
past_budget_unused act cells left t es later m late =
    ap (course_of plain t m) (trace_later (t + left) later late plain act cells left t es m (omega (arith, few_turns plain act cells left t es m)))
