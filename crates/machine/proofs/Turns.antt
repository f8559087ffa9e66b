-- The machine and its variables: a store past the last variable; what the effect of a statement tells of the machine that it is applied to.
-- Assumes nothing.
use mathlib.Core.Path.{◌≡◌, refl, sym, ap, subst, ◌∙◌}
use mathlib.Core.Bool.{Bool, true, false, cond, not, ◌&&◌, and-eq-true_iff}
use mathlib.Core.List.{List}
use Prim.Native.Nat.{ℕ, ◌-◌, ◌≤◌}
use native.Mathlib.Omega.{arith}
use borrow.Author.Tests.{ne_eqb, leb-true, le-leb, lt-leb, ltb-true, ltb-false}
use lib.Dec.{eqb, leb, ltb}
use lib.IntN.{ℤ, pos}
use lib.ListN.{length, set, get_or}
use lib.Seq.{set_out, set-get_or}
use Rattle.program.specs.declared.Cell.{Cell}
use Rattle.program.specs.Cells.{same, statement_of}
use Rattle.program.specs.Statements.{Statement}
use Rattle.effects.specs.declared.Effect.{Effect}
use Rattle.effects.specs.declared.Effect.TheVariants.{Fails, Stores, Passes, Goes, Calls, Returns, Ends, Stays, Holds, Arms, Disarms, Moves, Slews, Prints}
use Rattle.effects.specs.Effects.{effect}
use Rattle.acting.specs.Code.{clears_by}
use Rattle.effects.proofs.Sound.{Sound, sound}
use Rattle.machine.specs.declared.Machine.{Machine}
use Rattle.machine.specs.declared.Control.{Control}
use Rattle.machine.specs.declared.Motion.{Motion}
use Rattle.events.specs.declared.Record.{Record}
use Rattle.machine.specs.declared.Turned.{Turned}
use Rattle.machine.specs.Turn.{no_handler, with_variables, onward, nothing, recorded, turned, stored, handled, flagged, failed, applied, clearing, turn}
use Rattle.machine.specs.Code.{Acted, Ready, acts, moving, changed, joined, whole, turn_by}

-- A store past the last variable changes nothing.
pub stored_out : (vars : List ℤ) (v : ℕ) (z : ℤ) → length vars ≡ 64 → 64 ≤ v → vars ≡ stored vars v z
unfolding stored
stored_out vars v z l h = rw (ne_eqb v 10 (λ e. omega arith), set_out vars v z (omega arith))

-- EF (15) at 0 need not be cleared.
pub cleared_already : (t : Bool) (vars : List ℤ) → get_or vars 15 (pos 0) ≡ pos 0 → vars ≡ clearing t vars
unfolding clearing
cleared_already true vars e = sym (set-get_or vars 15 (pos 0)) ∙ ap (set vars 15) e
cleared_already false vars e = refl

-- An output's number.
pub output : (v : ℕ) → (leb 11 v && leb v 13) ≡ true → 11 ≤ v
output v h = leb-true 11 v ((and-eq-true_iff (leb 11 v) (leb v 13)).0 h).0

-- Effects by what they are not: those that leave the variables as they are, those that only go on to the following cell, those that record nothing.
pub record LeavesVariables (does : Effect) : Type 0 where
  pub fails : (error : ℕ) → does ≡ Fails error → ⊥
  pub stores : (v : ℕ) (z : ℤ) → does ≡ Stores v z → ⊥
  pub moves : (target : ℤ) (kind : ℕ) (z : ℤ) → does ≡ Moves target kind z → ⊥
  pub slews : (z : ℤ) → does ≡ Slews z → ⊥

pub unchanged : (does : Effect) (vars : List ℤ) → LeavesVariables does → vars ≡ changed does vars
unfolding changed
unchanged (Fails error) vars h = absurd (h.fails error refl)
unchanged (Stores v z) vars h = absurd (h.stores v z refl)
unchanged Passes vars h = refl
unchanged (Goes cell) vars h = refl
unchanged (Calls cell) vars h = refl
unchanged Returns vars h = refl
unchanged Ends vars h = refl
unchanged Stays vars h = refl
unchanged (Holds turns) vars h = refl
unchanged (Arms cell) vars h = refl
unchanged Disarms vars h = refl
unchanged (Moves target kind z) vars h = absurd (h.moves target kind z refl)
unchanged (Slews z) vars h = absurd (h.slews z refl)
unchanged (Prints v z) vars h = refl

pub record OnlyGoesOn (does : Effect) : Type 0 where
  pub fails : (error : ℕ) → does ≡ Fails error → ⊥
  pub goes : (cell : ℕ) → does ≡ Goes cell → ⊥
  pub calls : (cell : ℕ) → does ≡ Calls cell → ⊥
  pub returns : does ≡ Returns → ⊥
  pub ends : does ≡ Ends → ⊥
  pub stays : does ≡ Stays → ⊥
  pub holds : (turns : ℕ) → does ≡ Holds turns → ⊥
  pub arms : (cell : ℕ) → does ≡ Arms cell → ⊥
  pub disarms : does ≡ Disarms → ⊥
  pub moves : (target : ℤ) (kind : ℕ) (z : ℤ) → does ≡ Moves target kind z → ⊥
  pub slews : (z : ℤ) → does ≡ Slews z → ⊥

pub goes_onward : (does : Effect) (cells : ℕ) (vars : List ℤ) (c r : Control) → OnlyGoesOn does → joined (changed does vars) r ≡ onward (joined (changed does vars) c)
    → joined (changed does vars) r ≡ (applied cells does (joined vars c)).machine
unfolding changed applied
goes_onward (Fails error) cells vars c r h e = absurd (h.fails error refl)
goes_onward (Stores v z) cells vars c r h e = e
goes_onward Passes cells vars c r h e = e
goes_onward (Goes cell) cells vars c r h e = absurd (h.goes cell refl)
goes_onward (Calls cell) cells vars c r h e = absurd (h.calls cell refl)
goes_onward Returns cells vars c r h e = absurd (h.returns refl)
goes_onward Ends cells vars c r h e = absurd (h.ends refl)
goes_onward Stays cells vars c r h e = absurd (h.stays refl)
goes_onward (Holds turns) cells vars c r h e = absurd (h.holds turns refl)
goes_onward (Arms cell) cells vars c r h e = absurd (h.arms cell refl)
goes_onward Disarms cells vars c r h e = absurd (h.disarms refl)
goes_onward (Moves target kind z) cells vars c r h e = absurd (h.moves target kind z refl)
goes_onward (Slews z) cells vars c r h e = absurd (h.slews z refl)
goes_onward (Prints v z) cells vars c r h e = e

pub record RecordsNothing (does : Effect) : Type 0 where
  pub fails : (error : ℕ) → does ≡ Fails error → ⊥
  pub stores : (v : ℕ) (z : ℤ) → does ≡ Stores v z → ⊥
  pub moves : (target : ℤ) (kind : ℕ) (z : ℤ) → does ≡ Moves target kind z → ⊥
  pub slews : (z : ℤ) → does ≡ Slews z → ⊥
  pub prints : (v : ℕ) (z : ℤ) → does ≡ Prints v z → ⊥

pub records_nothing : (does : Effect) (cells : ℕ) (m : Machine) → RecordsNothing does → nothing ≡ (applied cells does m).wrote
unfolding applied
records_nothing (Fails error) cells m h = absurd (h.fails error refl)
records_nothing (Stores v z) cells m h = absurd (h.stores v z refl)
records_nothing Passes cells m h = refl
records_nothing (Goes cell) cells m h = refl
records_nothing (Calls cell) cells m h = refl
records_nothing Returns cells m h = refl
records_nothing Ends cells m h = refl
records_nothing Stays cells m h = refl
records_nothing (Holds turns) cells m h = refl
records_nothing (Arms cell) cells m h = refl
records_nothing Disarms cells m h = refl
records_nothing (Moves target kind z) cells m h = absurd (h.moves target kind z refl)
records_nothing (Slews z) cells m h = absurd (h.slews z refl)
records_nothing (Prints v z) cells m h = absurd (h.prints v z refl)

pub runs_on : (does : Effect) (cells : ℕ) (m : Machine) → ((error : ℕ) → does ≡ Fails error → ⊥) → false ≡ (applied cells does m).stops
unfolding applied
runs_on (Fails error) cells m h = absurd (h error refl)
runs_on (Stores v z) cells m h = refl
runs_on Passes cells m h = refl
runs_on (Goes cell) cells m h = refl
runs_on (Calls cell) cells m h = refl
runs_on Returns cells m h = refl
runs_on Ends cells m h = refl
runs_on Stays cells m h = refl
runs_on (Holds turns) cells m h = refl
runs_on (Arms cell) cells m h = refl
runs_on Disarms cells m h = refl
runs_on (Moves target kind z) cells m h = refl
runs_on (Slews z) cells m h = refl
runs_on (Prints v z) cells m h = refl

-- What comes of an effect, by what it turns out to be.
module _ (c : Control) (cells : ℕ) {r : Control} {does e : Effect} (q : does ≡ e) where
  pub after_by : ((vars : List ℤ) → joined (changed e vars) r ≡ (applied cells e (joined vars c)).machine) → (vars : List ℤ) → joined (changed does vars) r ≡ (applied cells does (joined vars c)).machine
  after_by f vars = rw q (f vars)

-- Turn 23, Turn 25: an error's record, and when it stops the run.
pub error_recorded : (error : ℕ) (m : Machine) → recorded 6 0 (pos error) ≡ (failed error m).wrote
unfolding failed
error_recorded error m = of_turned (eqb m.handler no_handler) (ltb m.places.kept 8)
  where
    of_turned : (a b : Bool) → recorded 6 0 (pos error)
        ≡ (cond a (turned (onward (flagged error m)) (recorded 6 0 (pos error)))
        (cond b (turned (handled (flagged error m)) (recorded 6 0 (pos error))) (record { machine = flagged error m; wrote = recorded 6 0 (pos error); stops = true }))).wrote
    of_turned true b = refl
    of_turned false true = refl
    of_turned false false = refl

pub error_stops : (error : ℕ) (m : Machine) → (not (eqb m.handler no_handler) && leb 8 m.places.kept) ≡ (failed error m).stops
unfolding failed
error_stops error m = by_places_lem (eqb m.handler no_handler) (ltb m.places.kept 8) refl
  where
    by_places_lem : (a b : Bool) → ltb m.places.kept 8 ≡ b → (not a && leb 8 m.places.kept)
        ≡ (cond a (turned (onward (flagged error m)) (recorded 6 0 (pos error)))
        (cond b (turned (handled (flagged error m)) (recorded 6 0 (pos error))) (record { machine = flagged error m; wrote = recorded 6 0 (pos error); stops = true }))).stops
    by_places_lem true b e = refl
    by_places_lem false true e = lt-leb 8 m.places.kept (ltb-true m.places.kept 8 e)
    by_places_lem false false e = le-leb 8 m.places.kept (ltb-false m.places.kept 8 e)

-- A call finds a place free, and a return one that is kept.
pub ready : (vars : List ℤ) (kept hold : ℕ) (s : Statement ℕ) {does : Effect} → does ≡ effect same same vars kept hold s → Ready kept does
ready vars kept hold s {does} p =
    let known : Sound vars kept does = subst (λ (x : Effect). Sound vars kept x) (sym p) (sound vars kept same same hold s) in
    record { calls = λ cell q. subst (λ (x : Effect). Sound vars kept x) q known; returns = λ q. subst (λ (x : Effect). Sound vars kept x) q known }

-- A turn: the events have acted, and the effect of the statement comes to the variables and to all else.
pub turned_by : (s : List ℕ) (first last cells : ℕ) (cell : Cell) (m : Machine) (ctl : Control) {vars vars' : List ℤ} {motion : Motion} {does : Effect} {c : Control} {w : Record} {stops : Bool} {d : Turned}
    → Acted s first last m.variables m.motion vars motion → does ≡ effect same same vars m.places.kept m.hold (statement_of cell) → vars' ≡ clearing (clears_by cell ctl.hold does) (changed does vars)
    → joined vars ctl ≡ moving vars motion m
    → ((vs : List ℤ) → joined (changed does vs) c ≡ (applied cells does (joined vs ctl)).machine)
    → ((n : ℕ) (x : Machine) → w ≡ (applied n does x).wrote) → ((n : ℕ) (vs : List ℤ) → stops ≡ (applied n does (joined vs ctl)).stops) → d ≡ whole vars' c w stops
    → d ≡ turn_by cells cell (acts s first (last - first) m)
unfolding turn_by turn
turned_by s first last cells cell m ctl {vars} {does = does} a ed ev ej ec ew es ew' =
    let eh : ctl.hold ≡ m.hold = ap (λ (x : Machine). x.hold) ej in
    rw (← a.each m, ← ed, ← ej, ← eh) (ew' ∙ same_parts (rw ev (ap (λ (x : Machine). with_variables (clearing (clears_by cell ctl.hold does) x.variables) x) (ec vars))) (ew cells (joined vars ctl)) (es cells vars))
  where
    same_parts : {m' : Machine} {w : Record} {b : Bool} {t : Turned} → m' ≡ t.machine → w ≡ t.wrote → b ≡ t.stops → record { machine = m'; wrote = w; stops = b } ≡ t
    same_parts p q r = rw (p, q, r)

-- Turn 23: an error changes ER and EF, and no other variable.
module _ (m : Machine) (error : ℕ) where
  failed_by : (t u : Bool) → eqb m.handler no_handler ≡ t → ltb m.places.kept 8 ≡ u → (failed error m).machine.variables ≡ set (set m.variables 10 (pos error)) 15 (pos 1)
  unfolding failed handled flagged
  failed_by true u e f = rw e
  failed_by false true e f = rw (e, f)
  failed_by false false e f = rw (e, f)

  pub failed_variables : (failed error m).machine.variables ≡ set (set m.variables 10 (pos error)) 15 (pos 1)
  failed_variables = failed_by (eqb m.handler no_handler) (ltb m.places.kept 8) refl refl
