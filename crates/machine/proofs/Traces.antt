-- The laws of a run, on any bench: its first turn, how it went by that, what its turns keep, when two runs are one, and events that come too late for it.
-- Assumes nothing.
use mathlib.Core.Path.{◌≡◌, refl, ap, ◌∙◌}
use mathlib.Core.Bool.{Bool, true, false, cond}
use mathlib.Core.List.{List, [], ◌∷◌, ◌++◌, flat_map}
use Prim.Native.Nat.{ℕ, zero, suc, ◌+◌, ◌≤◌, ◌<◌}
use native.Mathlib.Nat.{add-zero}
use native.Mathlib.Omega.{arith}
use borrow.Author.Tests.{le-leb, lt-leb, leb-true, leb-false, ne_eqb}
use lib.Dec.{T, eqb, leb, leb→le}
use lib.ListN.{length}
use Rattle.numbers.specs.Tests.{Each, all_of}
use Rattle.numbers.proofs.Truth.{both}
use Rattle.events.specs.declared.Event.{Event}
use Rattle.machine.specs.Run.{Bench, Step, Trace, ends, before, ReachedOf, reach_by, trace_on, CourseOf, finally, course_of}

-- How a run went that took no turn, and one that took another turn first, with these records.
module _ {M : Type 0} where
  abbrev pub ended : ℕ → ℕ → M → CourseOf M
  ended reason t m = record { reason = reason; turns = t; records = []; machine = m }

  abbrev pub after : List ℕ → CourseOf M → CourseOf M
  after bytes c = record { reason = c.reason; turns = c.turns; records = bytes ++ c.records; machine = c.machine }

module _ {M D C : Type 0} (bench : Bench M D C) where
  pub course_ends : (reason t : ℕ) (m : M) → course_of bench t m (ends reason) ≡ ended reason t m
  unfolding course_of finally flat_map
  course_ends reason t m = rw (add-zero t)

  pub course_before : (t : ℕ) (m : M) (s : Step M D C) (trace : Trace M D C)
      → course_of bench t m (before s trace) ≡ after (bench.bytes s.turn s.came) (course_of bench (suc t) (bench.machine s.came) trace)
  unfolding course_of finally flat_map
  course_before t m s trace = let e : t + suc (length trace.steps) ≡ suc t + length trace.steps = omega arith in rw e

-- One of two runs, by a test.
cond_same : {A : Type 0} (b : Bool) (e x y : A) → (b ≡ false → x ≡ y) → cond b e x ≡ cond b e y
cond_same true e x y h = refl
cond_same false e x y h = h refl

-- A run from turn t on.
module _ {M D C : Type 0} (bench : Bench M D C) (act : M → D) (cells : ℕ) where
  -- Turn 6: it is over past the last cell, and else where no turn is left.
  pub trace_past : (left t : ℕ) (es : List Event) (m : M) → cells ≤ bench.next m → trace_on bench act cells left t es m ≡ ends 1
  unfolding trace_on
  trace_past zero t es m h = rw (le-leb cells (bench.next m) h)
  trace_past (suc left) t es m h = rw (le-leb cells (bench.next m) h)

  pub trace_spent : (t : ℕ) (es : List Event) (m : M) → bench.next m < cells → trace_on bench act cells zero t es m ≡ ends 3
  unfolding trace_on
  trace_spent t es m h = rw (lt-leb cells (bench.next m) h)

  -- Turn 7: else it takes a turn, and goes on from there or stops.
  module _ (t : ℕ) (es : List Event) (m : M) where
    abbrev pub reached : ReachedOf M
    reached = reach_by bench.happens t es m

    abbrev pub came : C
    came = bench.turn cells (act reached.machine) reached.machine

    abbrev pub step : Step M D C
    step = record { turn = t; before = m; here = reached.machine; does = act reached.machine; came = came }

    pub trace_turn : (left : ℕ) → bench.next m < cells
        → trace_on bench act cells (suc left) t es m ≡ before step (cond (bench.stops came) (ends 2) (trace_on bench act cells left (suc t) reached.left (bench.machine came)))
    unfolding trace_on
    trace_turn left h = rw (lt-leb cells (bench.next m) h)

  -- What holds of a run that is over, and of every run that takes a turn where it holds of what comes behind it, holds of every run.
  pub each_run : (P : ℕ → ℕ → List Event → M → Trace M D C → Type 0)
      → ((left t : ℕ) (es : List Event) (m : M) → cells ≤ bench.next m → P left t es m (ends 1))
      → ((t : ℕ) (es : List Event) (m : M) → bench.next m < cells → P zero t es m (ends 3))
      → ((left t : ℕ) (es : List Event) (m : M) → bench.next m < cells → bench.stops (came t es m) ≡ true → P (suc left) t es m (before (step t es m) (ends 2)))
      → ((left t : ℕ) (es : List Event) (m : M) → bench.next m < cells → bench.stops (came t es m) ≡ false → (more : Trace M D C)
      → P left (suc t) (reached t es m).left (bench.machine (came t es m)) more → P (suc left) t es m (before (step t es m) more))
      → (left t : ℕ) (es : List Event) (m : M) → P left t es m (trace_on bench act cells left t es m)
  unfolding trace_on
  each_run P past spent stops goes zero t es m = by_end (leb cells (bench.next m)) refl
    where
      by_end : (b : Bool) → leb cells (bench.next m) ≡ b → P zero t es m (cond b (ends 1) (ends 3))
      by_end true e = past zero t es m (leb-true cells (bench.next m) e)
      by_end false e = spent t es m (leb-false cells (bench.next m) e)
  each_run P past spent stops goes (suc left) t es m = by_end (leb cells (bench.next m)) refl (each_run P past spent stops goes left (suc t) (reached t es m).left (bench.machine (came t es m)))
    where
      more : Trace M D C
      more = trace_on bench act cells left (suc t) (reached t es m).left (bench.machine (came t es m))

      by_stop : P left (suc t) (reached t es m).left (bench.machine (came t es m)) more → bench.next m < cells → (b : Bool) → bench.stops (came t es m) ≡ b → P (suc left) t es m (before (step t es m) (cond b (ends 2) more))
      by_stop p h true e = stops left t es m h e
      by_stop p h false e = goes left t es m h e more p

      by_end : (b : Bool) → leb cells (bench.next m) ≡ b → P left (suc t) (reached t es m).left (bench.machine (came t es m)) more → P (suc left) t es m (cond b (ends 1) (before (step t es m) (cond (bench.stops (came t es m)) (ends 2) more)))
      by_end true e p = past (suc left) t es m (leb-true cells (bench.next m) e)
      by_end false e p = by_stop p (leb-false cells (bench.next m) e) (bench.stops (came t es m)) refl

-- Turn 6: a run takes no more turns than its budget has.
pub few_turns : {M D C : Type 0} (bench : Bench M D C) (act : M → D) (cells left t : ℕ) (es : List Event) (m : M) → length (trace_on bench act cells left t es m).steps ≤ left
few_turns bench act cells =
    each_run bench act cells (λ left t es m trace. length trace.steps ≤ left)
    (λ left t es m h. omega arith)
    (λ t es m h. omega arith)
    (λ left t es m h e. omega arith)
    (λ left t es m h e more l. omega arith)

-- The events of a turn, one after the other.
module _ {M : Type 0} (happens : Event → M → M) where
  -- What each event keeps, all events of a turn keep.
  pub reach_keeps : (Keeps : M → Type 0) (fine : Event → Bool) → ((e : Event) (m : M) → T (fine e) → Keeps m → Keeps (happens e m))
      → (t : ℕ) (es : List Event) (m : M) → T (all_of fine es) → Keeps m → Keeps (reach_by happens t es m).machine
  unfolding reach_by all_of
  reach_keeps Keeps fine keeps t [] m f k = k
  reach_keeps Keeps fine keeps t (e ∷ es) m f k =
      let g = both (fine e) (all_of fine es) f in
      by_turn (eqb e.turn t) (reach_keeps Keeps fine keeps t es (happens e m) g.1 (keeps e m g.0 k))
    where
      by_turn : (b : Bool) → Keeps (reach_by happens t es (happens e m)).machine → Keeps (cond b (reach_by happens t es (happens e m)) (record { machine = m; left = e ∷ es })).machine
      by_turn true l = l
      by_turn false l = k

  -- The events that are left are among those that there were.
  pub left_fine : (fine : Event → Bool) (t : ℕ) (es : List Event) (m : M) → T (all_of fine es) → T (all_of fine (reach_by happens t es m).left)
  unfolding reach_by all_of
  left_fine fine t [] m f = f
  left_fine fine t (e ∷ es) m f = by_turn (eqb e.turn t) (left_fine fine t es (happens e m) (both (fine e) (all_of fine es) f).1)
    where
      by_turn : (b : Bool) → T (all_of fine (reach_by happens t es (happens e m)).left) → T (all_of fine (cond b (reach_by happens t es (happens e m)) (record { machine = m; left = e ∷ es })).left)
      by_turn true l = l
      by_turn false l = f

-- Every list of events is of events.
pub all_events : (es : List Event) → T (all_of (λ (e : Event). true) es)
unfolding all_of
all_events [] = tt
all_events (e ∷ es) = all_events es

-- On a bench whose events leave the next cell as it is.
module _ {M D C : Type 0} (bench : Bench M D C) (quiet : (e : Event) (m : M) → bench.next (bench.happens e m) ≡ bench.next m) where
  pub next_reached : (t : ℕ) (es : List Event) (m : M) → bench.next (reach_by bench.happens t es m).machine ≡ bench.next m
  next_reached t es m =
      reach_keeps bench.happens (λ x. bench.next x ≡ bench.next m) (λ e. true) (λ e x f k. quiet e x ∙ k) t es m (all_events es) refl

  -- What events and turns keep, a run keeps.
  module _ (act : M → D) (cells : ℕ) (Keeps : M → Type 0) (fine : Event → Bool) (event : (e : Event) (m : M) → T (fine e) → Keeps m → Keeps (bench.happens e m))
      (turn : (m : M) → Keeps m → bench.next m < cells → Keeps (bench.machine (bench.turn cells (act m) m))) where
    came_keeps : (t : ℕ) (es : List Event) (m : M) → bench.next m < cells → T (all_of fine es) → Keeps m → Keeps (bench.machine (came bench act cells t es m))
    came_keeps t es m h f k =
        turn (reach_by bench.happens t es m).machine (reach_keeps bench.happens Keeps fine event t es m f k) (rw (next_reached t es m) h)

    pub run_keeps : (left t : ℕ) (es : List Event) (m : M) → T (all_of fine es) → Keeps m → Keeps (finally bench m (trace_on bench act cells left t es m).steps)
    unfolding finally
    run_keeps =
        each_run bench act cells (λ left t es m trace. T (all_of fine es) → Keeps m → Keeps (finally bench m trace.steps))
        (λ left t es m h f k. k)
        (λ t es m h f k. k)
        (λ left t es m h e f k. came_keeps t es m h f k)
        (λ left t es m h e more p f k. p (left_fine bench.happens fine t es m f) (came_keeps t es m h f k))

    -- What is so of a turn that begins where this is kept, is so of each turn of a run.
    pub each_step : (So : Step M D C → Type 0)
        → ((t : ℕ) (es : List Event) (m : M) → bench.next m < cells → T (all_of fine es) → Keeps m → So (step bench act cells t es m))
        → (left t : ℕ) (es : List Event) (m : M) → T (all_of fine es) → Keeps m → Each So (trace_on bench act cells left t es m).steps
    each_step So so =
        each_run bench act cells (λ left t es m trace. T (all_of fine es) → Keeps m → Each So trace.steps)
        (λ left t es m h f k. tt)
        (λ t es m h f k. tt)
        (λ left t es m h e f k. (so t es m h f k, tt))
        (λ left t es m h e more p f k. (so t es m h f k, p (left_fine bench.happens fine t es m f) (came_keeps t es m h f k)))

  -- Two ways to find what the next statement does give one run, where they agree on every machine that is not past the last cell.
  module _ (f g : M → D) (cells : ℕ) (agree : (m : M) → bench.next m < cells → f m ≡ g m) where
    pub trace_same : (left t : ℕ) (es : List Event) (m : M) → trace_on bench f cells left t es m ≡ trace_on bench g cells left t es m
    unfolding trace_on
    trace_same zero t es m = refl
    trace_same (suc left) t es m =
        cond_same (leb cells (bench.next m)) _ _ _
        (λ e.
        let here = (reach_by bench.happens t es m).machine in
        let inside : bench.next here < cells = rw (next_reached t es m) (leb-false cells (bench.next m) e) in
        rw (agree here inside) (rw (trace_same left (suc t) (reach_by bench.happens t es m).left (bench.machine (bench.turn cells (g here) here)))))

-- Events 3: events that come no sooner than a run has ended are not used.
module _ (n : ℕ) (later : List Event) where
  -- Every event is of turn n or of a later one.
  abbrev pub From : List Event → Type 0
  From es = T (all_of (λ (e : Event). leb n e.turn) es)

  abbrev with_later : {M : Type 0} → ReachedOf M → ReachedOf M
  with_later r = record { machine = r.machine; left = r.left ++ later }

  module _ (late : From later) where
    none_reached : {M : Type 0} (happens : Event → M → M) (t : ℕ) (m : M) (es : List Event) → From es → t < n → reach_by happens t es m ≡ record { machine = m; left = es }
    unfolding reach_by all_of
    none_reached happens t m [] l h = refl
    none_reached happens t m (e ∷ es) l h =
        let k = leb→le n e.turn (both (leb n e.turn) (all_of (λ (e : Event). leb n e.turn) es) l).0 in
        rw (ne_eqb e.turn t (λ q. omega arith))

    reach_later : {M : Type 0} (happens : Event → M → M) (t : ℕ) (es : List Event) (m : M) → t < n → reach_by happens t (es ++ later) m ≡ with_later (reach_by happens t es m)
    unfolding reach_by
    reach_later happens t [] m h = none_reached happens t m later late h
    reach_later happens t (e ∷ es) m h = by_turn (eqb e.turn t) (reach_later happens t es (happens e m) h)
      where
        by_turn : (b : Bool) → reach_by happens t (es ++ later) (happens e m) ≡ with_later (reach_by happens t es (happens e m))
            → cond b (reach_by happens t (es ++ later) (happens e m)) (record { machine = m; left = e ∷ es ++ later })
            ≡ with_later (cond b (reach_by happens t es (happens e m)) (record { machine = m; left = e ∷ es }))
        by_turn true p = p
        by_turn false p = refl

    module _ {M D C : Type 0} (bench : Bench M D C) (act : M → D) (cells : ℕ) where
      -- Two runs that are the same at an end, and else where the first of them took no more turns than this.
      same_unless : (k : ℕ) (b : Bool) (x : Trace M D C) {y z : Trace M D C} → (k + length y.steps ≤ n → z ≡ y) → k + length (cond b x y).steps ≤ n → cond b x z ≡ cond b x y
      same_unless k true x f h = refl
      same_unless k false x f h = f h

      pub trace_later : (left t : ℕ) (es : List Event) (m : M) → t + length (trace_on bench act cells left t es m).steps ≤ n
          → trace_on bench act cells left t (es ++ later) m ≡ trace_on bench act cells left t es m
      unfolding trace_on
      trace_later zero t es m h = refl
      trace_later (suc left) t es m h =
          let r = reach_by bench.happens t es m in
          let now = bench.turn cells (act r.machine) r.machine in
          same_unless t (leb cells (bench.next m)) _
          (λ k.
          rw (reach_later bench.happens t es m (omega arith))
          (ap (before (step bench act cells t es m))
          (same_unless (suc t) (bench.stops now) _ (λ l. trace_later left (suc t) r.left (bench.machine now) l) (omega arith))))
          h
