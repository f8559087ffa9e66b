-- Q-6: what the request asks holds of all calls that meet the demands, the bench's own among them; and of no runner that tells 101 for what is below.
-- Assumes nothing.
use mathlib.Core.Path.{◌≡◌, sym, ap, ◌∙◌, subst}
use mathlib.Core.Bool.{Bool, ◌||◌}
use mathlib.Core.List.{List, []}
use Prim.Native.Nat.{ℕ}
use native.Mathlib.Omega.{arith}
use lib.Dec.{T}
use lib.IntN.{ℤ, pos, nat_abs}
use lib.ListN.{length}
use Rattle.numbers.specs.Tests.{between, eq_z, Each}
use Rattle.numbers.proofs.Truth.{true_is, if_same}
use Rattle.program.specs.Names.{Name}
use Rattle.program.specs.Variables.{in_range, literals, present}
use Rattle.program.specs.Statements.{Value, Literal, Variable, Statement, Divided, SetWith, MA, operands}
use Rattle.program.specs.Cells.{same, statement_of}
use Rattle.text.specs.Faults.{said, how_many, makes_variable, place_of, number_of}
use Rattle.image.specs.Layout.{variable_count, cell_at}
use Rattle.image.proofs.Accepted.{Reads}
use Rattle.translation.specs.Images.{image_of}
use Rattle.translation.specs.Places.{line_at}
use Rattle.effects.specs.Effects.{read, effect}
use Rattle.effects.specs.Results.{Neither}
use Rattle.effects.proofs.Results.{over_or_under, error_numbers}
use Rattle.machine.specs.declared.Machine.{Machine}
use Rattle.running.specs.Courses.{cell_acts}
use Rattle.rules.specs.Good.{readable}
use Rattle.rules.proofs.Values.{error_number}
use Rattle.rules.proofs.Inside.{division_inside, target_inside}
use Rattle.listing.proofs.Accepted.{accepted}
use Rattle.listing.proofs.Resolved.{Read, stands}
use Rattle.agreement.proofs.Sound.{fine}
use Rattle.agreement.proofs.Cells.{line_acceptable}
use Rattle.bench.specs.declared.Ran.{Ran}
use Rattle.bench.specs.declared.State.{State}
use Rattle.bench.specs.Answers.{state_of, no_state, refused_as}
use Rattle.bench.specs.Running.{ran}
use Rattle.bench.specs.Following.{line_acts}
use Rattle.bench.specs.Demands.{Translate, Check, Outcome, Run, Demand1, Demand2, Demand3, our_translate, our_check, our_run}
use Rattle.bench.specs.Sheet.{fresh, lowest_image, sheet_holds}
use Rattle.bench.specs.Requests.{AtCell, AtLine, Request6}
use Rattle.bench.proofs.Demands.{run_refused, demand1, demand2, demand3}
use Rattle.bench.proofs.Decided.{run_decided}
use Rattle.bench.proofs.States.{answer_ruled}

-- What a cell of an accepted image reads, and what a line of an accepted text reads.
cell_reads : (s : List ℕ) (x : Value ℕ) → Read s x → T (readable (variable_count s) same x)
unfolding readable
cell_reads s (Literal z) t = t
cell_reads s (Variable v) t = t

line_reads : (text : List ℕ) (x : Value Name) → Reads (place_of (said text)) (number_of (said text)) (image_of (said text)) (how_many makes_variable (said text)) x
    → T (readable (how_many makes_variable (said text)) (number_of (said text)) x)
unfolding readable Reads
line_reads text (Literal z) t = true_is (in_range literals z) t
line_reads text (Variable v) t = true_is (present (how_many makes_variable (said text)) (number_of (said text) v)) t

module _ (s : List ℕ) (m : Machine) (h : AtCell s m) where
  cell_has : (a : Statement ℕ) → statement_of (cell_at s m.next) ≡ a → Each (Read s) (operands a)
  cell_has a e = subst (λ (b : Statement ℕ). Each (Read s) (operands b)) e (stands s m.next ((accepted s h.accepted).layout m.next h.here)).resolved.reads

  cell_does : (a : Statement ℕ) → statement_of (cell_at s m.next) ≡ a → Neither (effect same same m.variables m.places.kept m.hold a) → Neither (cell_acts s m).effect
  unfolding cell_acts
  cell_does a e n = subst (λ (b : Statement ℕ). Neither (effect same same m.variables m.places.kept m.hold b)) (sym e) n

  cell_division : (v : ℕ) (x y : Value ℕ) → statement_of (cell_at s m.next) ≡ SetWith v x Divided y → Neither (cell_acts s m).effect
  unfolding operands
  cell_division v x y e = cell_does (SetWith v x Divided y) e (division_inside h.ruled same same v x y (cell_reads s x (cell_has (SetWith v x Divided y) e).0))

  cell_target : (x : Value ℕ) → statement_of (cell_at s m.next) ≡ MA x → Neither (cell_acts s m).effect
  unfolding operands
  cell_target x e = cell_does (MA x) e (target_inside h.ruled same same x (cell_reads s x (cell_has (MA x) e).0))

module _ (text : List ℕ) (m : Machine) (h : AtLine text m) where
  line_has : (a : Statement Name) → line_at (said text) m.next ≡ a
      → Each (Reads (place_of (said text)) (number_of (said text)) (image_of (said text)) (how_many makes_variable (said text))) (operands a)
  line_has a e =
      subst (λ (b : Statement Name). Each (Reads (place_of (said text)) (number_of (said text)) (image_of (said text)) (how_many makes_variable (said text))) (operands b)) e
      (line_acceptable (said text) (fine text h.fine) m.next h.here).reads

  line_does : (a : Statement Name) → line_at (said text) m.next ≡ a
      → Neither (effect (place_of (said text)) (number_of (said text)) m.variables m.places.kept m.hold a) → Neither (line_acts (said text) m).effect
  unfolding line_acts
  line_does a e n =
      subst (λ (b : Statement Name). Neither (effect (place_of (said text)) (number_of (said text)) m.variables m.places.kept m.hold b)) (sym e) n

  line_division : (v : Name) (x y : Value Name) → line_at (said text) m.next ≡ SetWith v x Divided y → Neither (line_acts (said text) m).effect
  unfolding operands
  line_division v x y e =
      line_does (SetWith v x Divided y) e
      (division_inside h.ruled (place_of (said text)) (number_of (said text)) v x y (line_reads text x (line_has (SetWith v x Divided y) e).0))

  line_target : (x : Value Name) → line_at (said text) m.next ≡ MA x → Neither (line_acts (said text) m).effect
  unfolding operands
  line_target x e = line_does (MA x) e (target_inside h.ruled (place_of (said text)) (number_of (said text)) x (line_reads text x (line_has (MA x) e).0))

-- ER in an answer.
abbrev told : ℤ → Bool
told er = eq_z er (pos 0) || (between (pos 101) (pos 106) er || eq_z er (pos 109))

number_told : (er : ℤ) → T (error_number er) → T (told er)
number_told er t = subst (λ (b : Bool). T (eq_z er (pos 0) || b)) (error_numbers er) t

abbrev error_in : Ran → ℤ
error_in a = read a.state.variables 10

answer_told : (s script : List ℕ) (budget : ℕ) (buffer : List ℕ) → T (told (error_in (our_run s script budget buffer).answer))
unfolding state_of refused_as no_state read eq_z
answer_told s script budget buffer =
    if_same (ran s script budget (length buffer)).number 0
    (λ e. let r = answer_ruled s script budget buffer e in subst (λ (a : State). T (told (read a.variables 10))) (sym r.2) (number_told (read r.0.variables 10) r.1.error))
    (λ n. subst (λ (a : Ran). T (told (error_in a))) (sym ((run_refused s script budget buffer).rest_refused n)) tt)

pub request6 : (translate : Translate) (check : Check) (run : Run) → Demand1 translate check run → Demand2 translate check run → Demand3 translate run → Request6 translate check run
unfolding cell_acts line_acts
request6 translate check run one two three =
    record {
      demand_1 = one;
      demand_2 = two;
      demand_3 = three;
      cell_tells = λ s m. over_or_under m.variables same same m.places.kept m.hold (statement_of (cell_at s m.next));
      line_tells = λ text m. over_or_under m.variables (place_of (said text)) (number_of (said text)) m.places.kept m.hold (line_at (said text) m.next);
      cell_divides = cell_division;
      cell_moves = cell_target;
      line_divides = line_division;
      line_moves = line_target;
      error_number = λ s script budget buffer.
          subst (λ (o : Outcome). T (told (error_in o.answer))) (sym (run_decided translate check run one two s script budget buffer)) (answer_told s script budget buffer);
    }

pub request6_ours : Request6 our_translate our_check our_run
request6_ours = request6 our_translate our_check our_run demand1 demand2 demand3

-- Q-6 3: whatever else the calls do, a runner that answers row f with 101 in ER does not do what the request asks.
pub over_for_under : (translate : Translate) (check : Check) (run : Run) → error_in (run lowest_image [] 5 (fresh 60)).answer ≡ pos 101 → Request6 translate check run → ⊥
unfolding read
over_for_under translate check run old q =
    let r = ap (λ (o : Outcome). error_in o.answer) (run_decided translate check run q.demand_1 q.demand_2 lowest_image [] 5 (fresh 60)) in
    let z : pos 101 ≡ pos 109 = sym old ∙ r ∙ ap error_in sheet_holds.1.1.1.1.1.0.2.0.0 in
    let n : ◌≡◌ {A = ℕ} 101 109 = ap nat_abs z in
    omega arith
