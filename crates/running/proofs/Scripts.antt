-- What is listed, one after the other: the start values of an image, and the events of a script from a number on.
-- Assumes nothing.
use mathlib.Core.Path.{◌≡◌, refl, sym, ap, ◌∙◌}
use mathlib.Core.Bool.{false, not}
use mathlib.Core.List.{List, [], ◌∷◌}
use Prim.Native.Nat.{ℕ, zero, suc, ◌+◌, ◌-◌, ◌%◌, ◌≤◌, ◌<◌}
use native.Mathlib.Nat.{sub-zero}
use native.Mathlib.Numerals.{add-one}
use native.Mathlib.Omega.{arith}
use borrow.Author.Tests.{eq-eqb, ne_eqb, ltb-false}
use lib.Dec.{eqb, ltb}
use lib.IntN.{ℤ, pos}
use lib.ListN.{length, get_or, set, take}
use lib.Seq.{take_all}
use Rattle.numbers.specs.Tests.{listed}
use Rattle.numbers.proofs.Truth.{neither}
use Rattle.numbers.proofs.Tests.{length_listed, listed_at}
use Rattle.image.specs.Layout.{variable_count, start_value, start_values}
use Rattle.machine.specs.declared.Machine.{Machine}
use Rattle.events.specs.declared.Event.{Event}
use Rattle.machine.specs.Turn.{with_variables, start_machine}
use Rattle.events.specs.Events.{event_at, event_count, events, bad_script, bad_events}
use Rattle.machine.specs.Happens.{happens}
use Rattle.machine.specs.Run.{Reached, plain, reach_by, reach}
use Rattle.machine.specs.Code.{Inputs, acts}
use Rattle.machine.proofs.Inputs.{inputs_happens}
use Rattle.events.proofs.Scripts.{good_events}
use Rattle.machine.proofs.Quiet.{happens_next}
use Rattle.machine.proofs.Traces.{next_reached}
use Rattle.machine.proofs.Starting.{start_more}
use Rattle.running.specs.Code.{events_from, DueBefore}

-- The start values of an image, one more at a time.
module _ (s : List ℕ) where
  length_values : length (start_values s) ≡ variable_count s
  unfolding start_values
  length_values = length_listed (start_value s) 0 (variable_count s)

  value_at_lem : (k : ℕ) → k < variable_count s → get_or (start_values s) k (pos 0) ≡ start_value s k
  unfolding start_values
  value_at_lem k h = let e : 0 + k ≡ k = omega arith in listed_at (start_value s) (pos 0) 0 (variable_count s) k h ∙ ap (start_value s) e

  pub started_more : (k : ℕ) {m m' : Machine} {z : ℤ} → k < variable_count s → m ≡ start_machine (take k (start_values s)) → z ≡ start_value s k
      → m' ≡ with_variables (set m.variables (32 + k) z) m → m' ≡ start_machine (take (k + 1) (start_values s))
  started_more k h em ez e =
      rw (e, ez, em, ← value_at_lem k h, add-one k) (start_more (start_values s) k (rw length_values h))

  pub started_all : (k : ℕ) {m : Machine} → variable_count s ≤ k → m ≡ start_machine (take k (start_values s)) → m ≡ start_machine (start_values s)
  started_all k h e = e ∙ ap start_machine (take_all k (start_values s) (rw length_values h))

-- The events of a script, one fewer at a time.
module _ (s : List ℕ) where
  -- Refusals 16: a script that is not bad has few events.
  pub few_events : bad_script s ≡ false → event_count s ≤ 4096
  unfolding bad_script
  few_events e = ltb-false 4096 (event_count s) (neither (not (eqb (length s % 12) 0)) (ltb 4096 (event_count s)) e).1

  pub events_all : events_from s 0 ≡ events s
  unfolding events_from events
  events_all = rw (sub-zero (event_count s))

  events_more : (k : ℕ) → k < event_count s → events_from s k ≡ event_at s k ∷ events_from s (k + 1)
  unfolding events_from listed
  events_more k h = let e : event_count s - k ≡ suc (event_count s - (k + 1)) = omega arith in rw (e, add-one k)

  events_none : (k : ℕ) → event_count s ≤ k → events_from s k ≡ []
  unfolding events_from listed
  events_none k h = let e : event_count s - k ≡ 0 = omega arith in rw e

  module _ (t k : ℕ) (m : Machine) where
    -- An event of turn t acts.
    pub reach_more : {e : Event} {m' : Machine} → k < event_count s → e ≡ event_at s k → e.turn ≡ t → m' ≡ happens e m
        → reach t (events_from s (k + 1)) m' ≡ reach t (events_from s k) m
    unfolding reach_by
    reach_more {e} h ee et em = rw (events_more k h, ← ee, em, eq-eqb e.turn t et)

    -- An event of a later turn waits.
    pub reach_waits : {e : Event} → k < event_count s → e ≡ event_at s k → (e.turn ≡ t → ⊥) → reach t (events_from s k) m ≡ record { machine = m; left = events_from s k }
    unfolding reach_by
    reach_waits {e} h ee et = rw (events_more k h, ← ee, ne_eqb e.turn t et)

    -- No event is left.
    pub reach_none : event_count s ≤ k → reach t (events_from s k) m ≡ record { machine = m; left = events_from s k }
    unfolding reach_by
    reach_none h = rw (events_none k h)

  -- An event of another turn, or no event, comes next.
  module _ (t first k : ℕ) (o : first ≤ k) (h : (j : ℕ) → j < k → first ≤ j → (event_at s j).turn ≡ t) where
    pub due_before : {e : Event} → k < event_count s → e ≡ event_at s k → (e.turn ≡ t → ⊥) → DueBefore s t first k
    due_before l ee et = record { order = o; within = omega arith; each = h; waits = λ m. reach_waits t k m l ee et }

    pub due_all : k ≡ event_count s → DueBefore s t first k
    due_all e = record { order = o; within = omega arith; each = h; waits = λ m. reach_none t k m (omega arith) }

  -- The events of the turn act one after the other; those behind them are left.
  acts_by_lem : (t last : ℕ) → ((m : Machine) → reach t (events_from s last) m ≡ record { machine = m; left = events_from s last }) → last ≤ event_count s → (n first : ℕ) (m : Machine) → first + n ≡ last
      → ((k : ℕ) → k < last → first ≤ k → (event_at s k).turn ≡ t) → reach t (events_from s first) m ≡ record { machine = acts s first n m; left = events_from s last }
  unfolding acts
  acts_by_lem t last w i zero first m e h = let q : first ≡ last = omega arith in rw q (w m)
  acts_by_lem t last w i (suc n) first m e h =
      sym (reach_more t first m (omega arith) refl (h first (omega arith) (omega arith)) refl)
      ∙ acts_by_lem t last w i n (first + 1) (happens (event_at s first) m) (omega arith) (λ k l o. h k l (omega arith))

  pub acts_reach : (t first last : ℕ) (m : Machine) → DueBefore s t first last → reach t (events_from s first) m ≡ record { machine = acts s first (last - first) m; left = events_from s last }
  acts_reach t first last m d = let o = d.order in acts_by_lem t last d.waits d.within (last - first) first m (omega arith) d.each

  -- The inputs are still 0 or 1 after good events.
  module _ (g : bad_events s ≡ false) where
    inputs_by : (n k : ℕ) (m : Machine) → k + n ≤ event_count s → Inputs m.variables → Inputs (acts s k n m).variables
    unfolding acts
    inputs_by zero k m l h = h
    inputs_by (suc n) k m l h = inputs_by n (k + 1) (happens (event_at s k) m) (omega arith) (inputs_happens m h (event_at s k) (good_events s k g (omega arith)))

    pub inputs_acts : (t first last : ℕ) (m : Machine) → DueBefore s t first last → Inputs m.variables → Inputs (acts s first (last - first) m).variables
    inputs_acts t first last m d h = let o = d.order in let i = d.within in inputs_by (last - first) first m (omega arith) h

-- The events of a turn leave the next cell as it is.
pub acts_next : (s : List ℕ) (t first last : ℕ) (m : Machine) → DueBefore s t first last → (acts s first (last - first) m).next ≡ m.next
acts_next s t first last m d = sym (ap (λ (r : Reached). r.machine.next) (acts_reach s t first last m d)) ∙ next_reached plain happens_next t (events_from s first) m
