-- Q-2: what the request asks holds of all calls that meet the demands, the bench's own among them; and of no runner that leaves EF, or clears it too soon, or clears ER.
-- Assumes nothing.
use mathlib.Core.Path.{◌≡◌, refl, sym, ap, ◌∙◌, subst}
use mathlib.Core.Bool.{Bool, true, false, ◌&&◌, ◌||◌, not}
use mathlib.Core.List.{List, [], ◌∷◌}
use mathlib.Core.Logic.{◌↔◌, ◌⊎◌, inl, inr, ⊎_elim}
use Prim.Native.Nat.{ℕ, ◌+◌}
use native.Mathlib.Omega.{arith}
use borrow.Author.Tests.{eq-eqb, ne_eqb}
use lib.Dec.{T, eqb, eqb→eq, eqb_refl}
use lib.IntN.{ℤ, pos, nat_abs}
use Rattle.numbers.specs.Bytes.{ascii}
use Rattle.numbers.specs.Tests.{any_of, all_of, eq_list, numbered, Each}
use Rattle.numbers.proofs.Truth.{is_true, true_is, both, both_of, either, left_of_lem, right_of, if_same, same_test}
use Rattle.numbers.proofs.Tests.{eq_list_eq, numbered_all}
use Rattle.program.specs.declared.Operand.{Operand}
use Rattle.program.specs.declared.Operand.TheVariants as O
use Rattle.program.specs.Names.{Name, variable_names, paper_variable}
use Rattle.program.specs.Statements.{Value, Literal, Variable, operands, is_hold}
use Rattle.program.specs.Cells.{same, value_of, statement_of}
use Rattle.text.specs.Forms.{Line}
use Rattle.text.specs.Faults.{said, how_many, makes_cell, makes_variable, rank_of, place_of, number_of}
use Rattle.image.specs.Layout.{cell_count, variable_count, cell_at, start_values}
use Rattle.image.specs.Check.{checked}
use Rattle.translation.specs.Images as Images
use Rattle.translation.specs.Images.{image}
use Rattle.translation.specs.Places.{line_at}
use Rattle.effects.specs.Effects.{read}
use Rattle.effects.specs.Deeds.{is_er, reads_er}
use Rattle.effects.proofs.Reading.{reads_fields}
use Rattle.machine.specs.declared.Machine.{Machine}
use Rattle.machine.specs.Turn.{start_machine, turn}
use Rattle.machine.specs.Run.{PlainTrace}
use Rattle.events.specs.Events.{bad_events, events}
use Rattle.running.specs.Courses.{cell_acts, image_trace}
use Rattle.rules.specs.Flags.{Flags, FlagsIn}
use Rattle.rules.proofs.Events.{all_good}
use Rattle.rules.proofs.Flags.{flags, flags_event, flags_act, flags_run}
use Rattle.listing.proofs.Accepted.{accepted}
use Rattle.listing.proofs.Resolved.{stands}
use Rattle.agreement.proofs.Checked.{image_checked}
use Rattle.bench.specs.declared.Ran.{Ran}
use Rattle.bench.specs.Following.{line_acts, text_trace}
use Rattle.bench.specs.Demands.{Translate, Check, Outcome, Run, Demand1, Demand2, Demand3, our_translate, our_check, our_run}
use Rattle.bench.specs.Sheet.{start, variable, next, fresh, reading_image, sheet_holds}
use Rattle.bench.specs.Requests.{AtCell, AtLine, written_er, Request2}
use Rattle.bench.proofs.Demands.{one_trace, demand1, demand2, demand3}
use Rattle.bench.proofs.Decided.{run_decided}
use Rattle.bench.proofs.States.{holds_at, start_ruled, acts, good_line}

-- A test beside whether a number is 0, and the two of them as facts.
zero_and : (n : ℕ) (t : Bool) {P : Type 0} → (T t → P) → (P → T t) → ((eqb n 0 && t) ≡ true) ↔ ((n ≡ 0) × P)
zero_and n t f g = (
  λ e. let h = both (eqb n 0) t (true_is (eqb n 0 && t) e) in (eqb→eq n 0 h.0, f h.1),
  λ h. is_true (eqb n 0 && t) (both_of (eqb n 0) t (subst (λ (k : ℕ). T (eqb k 0)) (sym h.0) (eqb_refl 0)) (g h.1)),
)

-- Image 6: an operand that is ER is variable 10, and the other way round.
is_ten : (o : Operand) → T (is_er same (value_of o)) → o ≡ O.Variable 10
unfolding is_er value_of
is_ten O.Nothing t = absurd t
is_ten (O.Literal z) t = absurd t
is_ten (O.Variable v) t = ap O.Variable (eqb→eq v 10 t)

ten_is : (o : Operand) → o ≡ O.Variable 10 → T (is_er same (value_of o))
unfolding is_er value_of
ten_is o e = subst (λ (x : Operand). T (is_er same (value_of x))) (sym e) (eqb_refl 10)

module _ (s : List ℕ) (m : Machine) (h : AtCell s m) where
  cell_turn : Flags (cell_acts s m) m.variables (turn (cell_count s) (cell_acts s m) m).machine.variables
  cell_turn = flags_act (cell_count s) (variable_count s) (holds_at s) same same (cell_acts s) (acts s h.accepted) m h.ruled h.here

  cell_reading : ((cell_acts s m).reads ≡ true) ↔ ((m.hold ≡ 0) × (((cell_at s m.next).left ≡ O.Variable 10) ⊎ ((cell_at s m.next).right ≡ O.Variable 10)))
  unfolding cell_acts
  cell_reading =
      let c = cell_at s m.next in
      let again = (stands s m.next ((accepted s h.accepted).layout m.next h.here)).again in
      let l = is_er same (value_of c.left) in
      let r = is_er same (value_of c.right) in
      let e : reads_er same m.hold (statement_of c) ≡ (eqb m.hold 0 && (l || r)) = reads_fields same same m.hold (statement_of c) ∙ rw again in
      rw e
      (zero_and m.hold (l || r)
      (λ t. ⊎_elim (λ a. inl (is_ten c.left a)) (λ b. inr (is_ten c.right b)) (either l r t))
      (⊎_elim (λ a. left_of_lem l r (ten_is c.left a)) (λ b. right_of l r (ten_is c.right b))))

-- Variables 1: a name has number 10 exactly if it is ER.
er_named : T (all_of (λ (w : Name). not (eqb (paper_variable w) 10) || eq_list w (ascii "ER")) variable_names)
unfolding all_of paper_variable variable_names numbered eq_list ascii
er_named = tt

er_alone : (w : Name) → (paper_variable w ≡ 0 → ⊥) → T (not (eqb (paper_variable w) 10) || eq_list w (ascii "ER"))
unfolding paper_variable
er_alone w n = numbered_all (λ (v : Name). not (eqb (paper_variable v) 10) || eq_list v (ascii "ER")) variable_names w er_named n

named_so : (xs : List Line) (w : Name) → T (eqb (number_of xs w) 10) → T (eq_list w (ascii "ER"))
unfolding number_of
named_so xs w =
    if_same (paper_variable w) 0
    (λ e. rw (eq-eqb (paper_variable w) 0 e) (λ t. let k = eqb→eq (32 + rank_of xs w) 10 t in absurd (omega arith)))
    (λ n. rw (ne_eqb (paper_variable w) 0 n)
    (λ t. ⊎_elim (λ a. absurd (subst (λ (k : ℕ). T (not (eqb k 10))) (eqb→eq (paper_variable w) 10 t) a)) (λ b. b)
    (either (not (eqb (paper_variable w) 10)) (eq_list w (ascii "ER")) (er_alone w n))))

named_then : (xs : List Line) (w : Name) → T (eq_list w (ascii "ER")) → T (eqb (number_of xs w) 10)
unfolding number_of paper_variable variable_names numbered eq_list ascii
named_then xs w t = subst (λ (v : Name). T (eqb (number_of xs v) 10)) (sym (eq_list_eq w (ascii "ER") t)) tt

value_named_lem : (xs : List Line) (x : Value Name) → is_er (number_of xs) x ≡ written_er x
unfolding is_er written_er
value_named_lem xs (Literal z) = refl
value_named_lem xs (Variable w) = same_test (eqb (number_of xs w) 10) (eq_list w (ascii "ER")) (named_so xs w) (named_then xs w)

values_named : (xs : List Line) (vs : List (Value Name)) → any_of (is_er (number_of xs)) vs ≡ any_of written_er vs
unfolding any_of
values_named xs [] = refl
values_named xs (x ∷ vs) = rw (value_named_lem xs x, values_named xs vs)

module _ (text : List ℕ) (m : Machine) (h : AtLine text m) where
  line_turn : Flags (line_acts (said text) m) m.variables (turn (how_many makes_cell (said text)) (line_acts (said text) m) m).machine.variables
  unfolding line_acts
  line_turn =
      flags (how_many makes_cell (said text)) (how_many makes_variable (said text)) (λ k. is_hold (line_at (said text) k)) (place_of (said text)) (number_of (said text))
      (line_at (said text) m.next) m (good_line text m h) h.ruled h.here refl

  line_reading_lem : ((line_acts (said text) m).reads ≡ true) ↔ ((m.hold ≡ 0) × T (any_of written_er (operands (line_at (said text) m.next))))
  unfolding line_acts reads_er
  line_reading_lem =
      rw (values_named (said text) (operands (line_at (said text) m.next)))
      (zero_and m.hold (any_of written_er (operands (line_at (said text) m.next))) (λ t. t) (λ t. t))

-- Turn 7, Turn 11: each turn of a run, of an image and of a text.
image_flags : (s script : List ℕ) (budget : ℕ) → checked s ≡ 0 → bad_events script ≡ false → Each FlagsIn (image_trace s script budget).steps
unfolding image_trace
image_flags s script budget good fine =
    flags_run (cell_count s) (variable_count s) (holds_at s) same same (cell_acts s) (acts s good) budget 0 (events script) (start_machine (start_values s)) (all_good script fine) (start_ruled s good)

text_flags : (text script : List ℕ) (budget : ℕ) → Images.accepted text ≡ true → bad_events script ≡ false → Each FlagsIn (text_trace text script budget).steps
text_flags text script budget ok fine =
    subst (λ (trace : PlainTrace). Each FlagsIn trace.steps) (one_trace text script budget ok) (image_flags (image text) script budget (image_checked text ok) fine)

pub request2 : (translate : Translate) (check : Check) (run : Run) → Demand1 translate check run → Demand2 translate check run → Demand3 translate run → Request2 translate check run
request2 translate check run one two three =
    record {
      demand_1 = one;
      demand_2 = two;
      demand_3 = three;
      cell_flags = cell_turn;
      line_flags = line_turn;
      cell_reads = cell_reading;
      line_reads = line_reading_lem;
      image_run = image_flags;
      text_run = text_flags;
      event_flags = flags_event;
    }

pub request2_ours : Request2 our_translate our_check our_run
request2_ours = request2 our_translate our_check our_run demand1 demand2 demand3

-- What the request fixes for a runner on `RT`, `R1=EF+ER`: any other value of a variable than that of the sheet's row is against it.
abbrev value_in : ℕ → Outcome → ℤ
value_in v o = read o.answer.state.variables v

reads_as : (translate : Translate) (check : Check) (run : Run) → Request2 translate check run → (v : ℕ)
    → value_in v (run reading_image [] 5 (fresh 60)) ≡ read (next 2 (variable 10 (pos 105) (variable 1 (pos 106) start))).variables v
reads_as translate check run q v =
    ap (value_in v) (run_decided translate check run q.demand_1 q.demand_2 reading_image [] 5 (fresh 60))
    ∙ ap (λ (a : Ran). read a.state.variables v) sheet_holds.1.1.1.1.1.1.1.1.1.1.1.1.1.0.2.0.0

-- EF still at 1 behind the reading; EF cleared before the statement sees it; ER cleared with it.
pub leaves_ef : (translate : Translate) (check : Check) (run : Run) → value_in 15 (run reading_image [] 5 (fresh 60)) ≡ pos 1 → Request2 translate check run → ⊥
unfolding read
leaves_ef translate check run old q = let n : ◌≡◌ {A = ℕ} 1 0 = ap nat_abs (sym old ∙ reads_as translate check run q 15) in omega arith

pub clears_first : (translate : Translate) (check : Check) (run : Run) → value_in 1 (run reading_image [] 5 (fresh 60)) ≡ pos 105 → Request2 translate check run → ⊥
unfolding read
clears_first translate check run old q = let n : ◌≡◌ {A = ℕ} 105 106 = ap nat_abs (sym old ∙ reads_as translate check run q 1) in omega arith

pub clears_er : (translate : Translate) (check : Check) (run : Run) → value_in 10 (run reading_image [] 5 (fresh 60)) ≡ pos 0 → Request2 translate check run → ⊥
unfolding read
clears_er translate check run old q = let n : ◌≡◌ {A = ℕ} 0 105 = ap nat_abs (sym old ∙ reads_as translate check run q 10) in omega arith
