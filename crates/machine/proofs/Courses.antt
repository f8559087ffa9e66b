-- Turn 7: how a run of the plain bench goes by its first turn.
-- Assumes nothing.
use mathlib.Core.Path.{◌≡◌, refl, ap, ◌∙◌}
use mathlib.Core.Bool.{Bool, true, false, cond}
use mathlib.Core.List.{List}
use Prim.Native.Nat.{ℕ, suc, ◌<◌}
use Rattle.effects.specs.Deeds.{Deed}
use Rattle.machine.specs.declared.Machine.{Machine}
use Rattle.events.specs.declared.Event.{Event}
use Rattle.machine.specs.Turn.{turn}
use Rattle.events.specs.Events.{record_bytes}
use Rattle.machine.specs.Run.{PlainTrace, ends, plain, course_of, reach, trace_from, run_from}
use Rattle.machine.proofs.Traces.{ended, after, course_ends, course_before, trace_turn, step}

-- Before the end and with turns left, the events of the turn act, then just one statement; the run goes on from there, or stops.
module _ (act : Machine → Deed) (cells left t : ℕ) (es : List Event) (m : Machine) where
  abbrev there : Machine
  there = (reach t es m).machine

  pub one_statement : m.next < cells → let now = turn cells (act there) there in
      run_from act cells (suc left) t es m
      ≡ after (record_bytes t now.wrote) (cond now.stops (ended 2 (suc t) now.machine) (run_from act cells left (suc t) (reach t es m).left now.machine))
  one_statement inside =
      let now = turn cells (act there) there in
      let more = trace_from act cells left (suc t) (reach t es m).left now.machine in
      rw (trace_turn plain act cells t es m left inside)
      (course_before plain t m (step plain act cells t es m) (cond now.stops (ends 2) more) ∙ ap (after (record_bytes t now.wrote)) (by_stop now.machine more now.stops))
    where
      by_stop : (x : Machine) (more : PlainTrace) (b : Bool) → course_of plain (suc t) x (cond b (ends 2) more) ≡ cond b (ended 2 (suc t) x) (course_of plain (suc t) x more)
      by_stop x more true = course_ends plain 2 (suc t) x
      by_stop x more false = refl
