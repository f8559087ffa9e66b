-- A turn of an image's run, and what is left of the run before and after it.
-- Assumes nothing.
use mathlib.Core.Path.{◌≡◌, sym, ap, ◌∙◌}
use mathlib.Core.Bool.{true, false}
use mathlib.Core.List.{List}
use Prim.Native.Nat.{ℕ, suc, ◌+◌, ◌-◌, ◌≤◌, ◌<◌}
use native.Mathlib.Numerals.{add-one}
use native.Mathlib.Omega.{arith}
use Rattle.program.specs.declared.Cell.{Cell}
use Rattle.program.specs.Cells.{same, statement_of}
use Rattle.image.specs.Layout.{cell_count, cell_at}
use Rattle.effects.specs.Deeds.{Deed}
use Rattle.machine.specs.declared.Machine.{Machine}
use Rattle.machine.specs.declared.Turned.{Turned}
use Rattle.events.specs.Events.{bad_events}
use Rattle.machine.specs.Run.{Step, PlainTrace, ends, before, plain, reach, trace_from}
use Rattle.machine.specs.Code.{Inputs, acts, turn_by}
use Rattle.machine.proofs.Inputs.{inputs_turn}
use Rattle.machine.proofs.Traces.{trace_past, trace_spent, trace_turn}
use Rattle.running.specs.Courses.{cell_acts}
use Rattle.running.specs.Code.{events_from, DueBefore, SteppedBy}
use Rattle.running.proofs.Scripts.{acts_reach, acts_next, inputs_acts}

-- One turn: what the events reach, then what the statement at the next cell gives.
pub stepped_by : {s script : List ℕ} {cells t k n : ℕ} {m : Machine} {c : Cell} {d : Turned} → bad_events script ≡ false → Inputs m.variables → DueBefore script t k n → c ≡ cell_at s m.next
    → d ≡ turn_by cells c (acts script k (n - k) m) → SteppedBy s cells script t k m d n
unfolding cell_acts turn_by
stepped_by {s} {script} {cells} {t} {k} {n} {m} {c} g i due ec ed =
    let a = acts_reach script t k n m due in
    let e : c ≡ cell_at s (acts script k (n - k) m).next = ec ∙ ap (cell_at s) (sym (acts_next script t k n m due)) in
    record {
      turned = rw (a, ← e) ed;
      left = rw a;
      within = due.within;
      inputs = rw ed (inputs_turn (acts script k (n - k) m) (inputs_acts script g t k n m due i) same same cells (statement_of c));
    }

-- What is left of a run up to the last turn, from turn t on, with the events from number k on.
module _ (s script : List ℕ) (last : ℕ) where
  abbrev pub rest : ℕ → ℕ → Machine → PlainTrace
  rest t k m = trace_from (cell_acts s) (cell_count s) (last - t) t (events_from script k) m

  pub rest_past : (t k : ℕ) (m : Machine) → cell_count s ≤ m.next → rest t k m ≡ ends 1
  rest_past t k m h = trace_past plain (cell_acts s) (cell_count s) (last - t) t (events_from script k) m h

  pub rest_spent : (t k : ℕ) (m : Machine) → m.next < cell_count s → last ≤ t → rest t k m ≡ ends 3
  rest_spent t k m h l = let e : last - t ≡ 0 = omega arith in rw e (trace_spent plain (cell_acts s) (cell_count s) t (events_from script k) m h)

  -- One turn is taken.
  module _ (t k : ℕ) (m : Machine) (h : m.next < cell_count s) (l : t < last) {d : Turned} {n : ℕ} (er : SteppedBy s (cell_count s) script t k m d n) where
    abbrev pub taken : Step Machine Deed Turned
    taken = let here = (reach t (events_from script k) m).machine in record { turn = t; before = m; here = here; does = cell_acts s here; came = d }

    pub rest_stopped : d.stops ≡ true → rest t k m ≡ before taken (ends 2)
    rest_stopped e =
        let more : last - t ≡ suc (last - (t + 1)) = omega arith in
        rw more (trace_turn plain (cell_acts s) (cell_count s) t (events_from script k) m (last - (t + 1)) h ∙ rw (← er.turned, e))

    pub rest_goes : d.stops ≡ false → rest t k m ≡ before taken (rest (t + 1) n d.machine)
    rest_goes e =
        let more : last - t ≡ suc (last - (t + 1)) = omega arith in
        rw more (trace_turn plain (cell_acts s) (cell_count s) t (events_from script k) m (last - (t + 1)) h ∙ rw (← er.turned, e, add-one t, er.left))
