-- Q-7: what a turn does to the handler and to the places that its calls kept; in a run from the start at most one place is a handler's, and then none is armed.
-- Assumes nothing.
use mathlib.Core.Path.{◌≡◌, refl, sym, ap, ◌∙◌, subst}
use mathlib.Core.Bool.{Bool, true, false}
use mathlib.Core.List.{List}
use mathlib.Core.Logic.{◌⊎◌, inl, inr, ⊎_elim}
use Prim.Native.Nat.{ℕ, suc, ◌+◌, ◌-◌, ◌≤◌, ◌<◌}
use native.Mathlib.Omega.{arith}
use borrow.Author.Tests.{eq-eqb, ne_eqb, eqb-true, eqb-false, ltb-true, ltb-false}
use lib.Dec.{T, eqb, ltb}
use lib.IntN.{ℤ}
use lib.Seq.{get_or-set_same, get_or-set_other}
use denote.Enum.Declared.{tag_of}
use Rattle.numbers.specs.Tests.{Each, all_of}
use Rattle.numbers.proofs.Truth.{if_same, if_below}
use Rattle.program.specs.Statements.{Statement, is_hold}
use Rattle.effects.specs.declared.Effect.{Effect}
use Rattle.effects.specs.declared.Effect.TheVariants.{Fails, Stores, Passes, Goes, Calls, Returns, Ends, Stays, Holds, Arms, Disarms, Moves, Slews, Prints}
use Rattle.effects.specs.contracts.Effect.{the_type}
use Rattle.effects.specs.Deeds.{Deed, deed}
use Rattle.events.specs.declared.Event.{Event}
use Rattle.events.specs.Events.{good_event}
use Rattle.machine.specs.declared.Machine.{Machine}
use Rattle.machine.specs.declared.Place.{Place}
use Rattle.machine.specs.declared.Places.{Places}
use Rattle.machine.specs.declared.Turned.{Turned}
use Rattle.machine.specs.Turn.{no_handler, by_call, by_handler, unused, start_machine, keep, release, last_place, calls_only, in_motion, called, handled, rearmed, returned, armed, held, flagged, failed, applied, turn}
use Rattle.machine.specs.Happens.{happens}
use Rattle.machine.specs.Run.{Step, PlainTrace, plain, reach, finally, trace_from, course_of, run_from}
use Rattle.machine.proofs.Quiet.{SameWay, happens_way, happens_next}
use Rattle.machine.proofs.Traces.{step, each_run, reach_keeps, left_fine, next_reached, all_events, each_step, run_keeps}
use Rattle.rules.specs.Rules.{place_at, Ruled}
use Rattle.rules.specs.Good.{Good, Acts}
use Rattle.rules.specs.Flags.{Erring}
use Rattle.rules.specs.Handlers.{Marked, Chooses, Takes, CallsHandler, Handlers, TurnHandlers, OneHandler, HandlersIn, KeptBy, Some, Origins}
use Rattle.rules.proofs.Parts.{Kept, way_of, call_at}
use Rattle.rules.proofs.Events.{ruled_event}
use Rattle.rules.proofs.Start.{everywhere}
use Rattle.rules.proofs.Turn.{Sound, sound_effect}
use Rattle.rules.proofs.Run.{ruled_act}
use Rattle.rules.proofs.Flags.{tags_apart}

-- Neither an OE nor a return.
pub record Quiet (e : Effect) : Type 0 where
  pub no_choice : Chooses e → ⊥
  pub no_return : e ≡ Returns → ⊥

quiet : {e : Effect} → eqb (tag_of the_type e) 9 ≡ false → eqb (tag_of the_type e) 10 ≡ false → eqb (tag_of the_type e) 5 ≡ false → Quiet e
quiet n o p = record { no_choice = ⊎_elim (λ h. tags_apart n h.1) (tags_apart o); no_return = tags_apart p }

-- A place that is the same is marked too.
still_marked : {p q : Place} → p ≡ q → (q.handler ≡ no_handler → ⊥) → p.handler ≡ no_handler → ⊥
still_marked e t n = t (ap (λ (p : Place). p.handler) (sym e) ∙ n)

-- A place after one was kept, and after one was released.
module _ {c : ℕ} {places : Places} (kept : Kept c places) where
  not_marked : (k : ℕ) → places.kept ≤ k → Marked places k → ⊥
  not_marked k h t = t (ap (λ (p : Place). p.handler) (kept.none k h))

  kept_here : (place : Place) → places.kept < 8 → place_at (keep places place) places.kept ≡ place
  unfolding keep
  kept_here place h = let l = kept.there in get_or-set_same places.all places.kept place unused (omega arith)

  kept_there : (place : Place) (k : ℕ) → (k ≡ places.kept → ⊥) → place_at (keep places place) k ≡ place_at places k
  unfolding keep
  kept_there place k n = get_or-set_other places.all places.kept k place unused n

  kept_marked : (place : Place) (k : ℕ) → Marked places k → place_at (keep places place) k ≡ place_at places k
  kept_marked place k t = kept_there place k (λ e. not_marked k (omega arith) t)

  call_unmarked : (cell k : ℕ) → places.kept < 8 → Marked (keep places (by_call cell)) k → Marked places k
  call_unmarked cell k h t =
      if_same k places.kept
      (λ e. absurd (subst (Marked (keep places (by_call cell))) e t (ap (λ (p : Place). p.handler) (kept_here (by_call cell) h))))
      (λ n. still_marked (sym (kept_there (by_call cell) k n)) t)

  freed_here : place_at (release places) (places.kept - 1) ≡ unused
  unfolding release
  freed_here = let l = kept.there in let h = kept.most in get_or-set_same places.all (places.kept - 1) unused unused (omega arith)

  freed_there : (k : ℕ) → (k ≡ places.kept - 1 → ⊥) → place_at (release places) k ≡ place_at places k
  unfolding release
  freed_there k n = get_or-set_other places.all (places.kept - 1) k unused unused n

  -- A marked place that no return takes is not the last one.
  not_last : {e : Effect} (k : ℕ) → e ≡ Returns → Marked places k → (Takes e places k → ⊥) → k ≡ places.kept - 1 → ⊥
  not_last k r t n e = if_below k places.kept (λ h. n (r, omega arith)) (λ h. not_marked k h t)

-- What an effect leaves of places and handler: the marked places and the handler as they were, one place more for the handler, one less, or each as CL's.
data Ways (e : Effect) (next : ℕ) (places : Places) (handler : ℕ) (places' : Places) (handler' : ℕ) : Type 0 where
  neither : Quiet e → (CallsHandler e places handler → ⊥) → ((k : ℕ) → Marked places k → place_at places' k ≡ place_at places k) → ((k : ℕ) → Marked places' k → Marked places k)
      → handler' ≡ handler → Ways e next places handler places' handler'
  handling : Quiet e → CallsHandler e places handler → places' ≡ keep places (by_handler (next + 1) handler) → handler' ≡ no_handler → Ways e next places handler places' handler'
  returning : e ≡ Returns → places' ≡ release places → handler' ≡ rearmed (last_place places) handler → Ways e next places handler places' handler'
  choosing : Chooses e → (Erring e → ⊥) → (e ≡ Returns → ⊥) → places' ≡ calls_only places → ((cell : ℕ) → e ≡ Arms cell → handler' ≡ cell) → (e ≡ Disarms → handler' ≡ no_handler) → Ways e next places handler places' handler'

module _ (cells variables : ℕ) (holds : ℕ → Bool) (m : Machine) (kept : Kept cells m.places) where
  abbrev Way : Effect → Type 0
  Way e = Ways e m.next m.places m.handler (applied cells e m).machine.places (applied cells e m).machine.handler

  abbrev Left : Effect → Machine → Type 0
  Left e x = Ways e m.next m.places m.handler x.places x.handler

  -- An effect that is no error.
  unerring : {e : Effect} → eqb (tag_of the_type e) 0 ≡ false → Erring e → ⊥
  unerring n h = tags_apart n h.1

  -- No place changes, nor does the handler.
  resting : {e : Effect} → Quiet e → (CallsHandler e m.places m.handler → ⊥) → Left e m
  resting q n = neither q n (λ k t. refl) (λ k t. t) refl

  failing : (error : ℕ) → Left (Fails error) (failed error m).machine
  unfolding failed handled flagged
  failing error = by_handler_lem (eqb m.handler no_handler) (ltb m.places.kept 8) refl refl
    where
      q : Quiet (Fails error)
      q = quiet refl refl refl

      by_handler_lem : (a b : Bool) → eqb m.handler no_handler ≡ a → ltb m.places.kept 8 ≡ b → Left (Fails error) (failed error m).machine
      by_handler_lem true b e f = rw e (resting q (λ c. c.1 (eqb-true m.handler no_handler e)))
      by_handler_lem false true e f = rw (e, f) (handling q ((error, refl), eqb-false m.handler no_handler e, ltb-true m.places.kept 8 f) refl refl)
      by_handler_lem false false e f = rw (e, f) (resting q (λ c. let k = ltb-false m.places.kept 8 f in let l = c.2 in omega arith))

  by_effect : (e : Effect) → Sound cells variables holds m e → Way e
  unfolding applied in_motion called returned armed held
  by_effect (Fails error) s = failing error
  by_effect (Stores v z) s = resting (quiet refl refl refl) (λ c. unerring refl c.0)
  by_effect Passes s = resting (quiet refl refl refl) (λ c. unerring refl c.0)
  by_effect (Goes cell) s = resting (quiet refl refl refl) (λ c. unerring refl c.0)
  by_effect (Calls cell) s = neither (quiet refl refl refl) (λ c. unerring refl c.0) (kept_marked kept (by_call (m.next + 1))) (λ k. call_unmarked kept (m.next + 1) k s.1) refl
  by_effect Returns s = returning refl refl refl
  by_effect Ends s = resting (quiet refl refl refl) (λ c. unerring refl c.0)
  by_effect Stays s = resting (quiet refl refl refl) (λ c. unerring refl c.0)
  by_effect (Holds turns) s = holding (ltb 0 turns) refl
    where
      holding : (b : Bool) → ltb 0 turns ≡ b → Left (Holds turns) (held turns m)
      holding true e = rw e (resting (quiet refl refl refl) (λ c. unerring refl c.0))
      holding false e = rw e (resting (quiet refl refl refl) (λ c. unerring refl c.0))
  by_effect (Arms cell) s = choosing (inl (cell, refl)) (unerring refl) (tags_apart refl) refl (λ c e. let p : cell ≡ c = cc in p) (λ e. absurd (tags_apart refl e))
  by_effect Disarms s = choosing (inr refl) (unerring refl) (tags_apart refl) refl (λ c e. absurd (tags_apart refl e)) (λ e. refl)
  by_effect (Moves target kind z) s = resting (quiet refl refl refl) (λ c. unerring refl c.0)
  by_effect (Slews z) s = resting (quiet refl refl refl) (λ c. unerring refl c.0)
  by_effect (Prints v z) s = resting (quiet refl refl refl) (λ c. unerring refl c.0)

module _ {c : ℕ} {places : Places} (kept : Kept c places) {e : Effect} {next handler : ℕ} where
  from_ways : {places' : Places} {handler' : ℕ} → Ways e next places handler places' handler' → Handlers e next places handler places' handler'
  unfolding rearmed last_place
  from_ways (neither q n p t h) =
      rw h
      (record {
        marked =
            λ k. (λ x. inr (t k x, q.no_choice, λ y. q.no_return y.0), ⊎_elim (λ c. absurd (n c.0)) (λ x. still_marked (p k x.0) x.0));
        new = λ c. absurd (n c);
        same = λ k x a b. p k x;
        unmarked = λ o. absurd (q.no_choice o);
        taken = λ k x. absurd (q.no_return x.0);
        again = λ k x y. absurd (q.no_return x.0);
        called = λ c. absurd (n c);
        arms = λ cell e. absurd (q.no_choice (inl (cell, e)));
        disarms = λ e. absurd (q.no_choice (inr e));
        stays = λ a b d. refl;
      })
  from_ways (handling q y p h) =
      let place = by_handler (next + 1) handler in
      rw (p, h)
      (record {
        marked =
            λ k. (
              λ t. if_same k places.kept (λ e. inl (y, e)) (λ n. inr (still_marked (sym (kept_there kept place k n)) t, q.no_choice, λ x. q.no_return x.0)),
              ⊎_elim
                  (λ c. subst (Marked (keep places place)) (sym c.1) (still_marked (kept_here kept place y.2) y.1))
                  (λ t. still_marked (kept_marked kept place k t.0) t.0),
            );
        new = λ c. kept_here kept place y.2;
        same = λ k t a b. kept_marked kept place k t;
        unmarked = λ o. absurd (q.no_choice o);
        taken = λ k x. absurd (q.no_return x.0);
        again = λ k x t. absurd (q.no_return x.0);
        called = λ c. refl;
        arms = λ cell e. absurd (q.no_choice (inl (cell, e)));
        disarms = λ e. absurd (q.no_choice (inr e));
        stays = λ a b d. absurd (a y);
      })
  from_ways (returning r p h) =
      let last = places.kept - 1 in
      let no_choice : Chooses e → ⊥ = ⊎_elim (λ o. tags_apart refl (sym r ∙ o.1)) (λ o. tags_apart refl (sym r ∙ o)) in
      let no_error : Erring e → ⊥ = λ o. tags_apart refl (sym r ∙ o.1) in
      rw (p, h)
      (record {
        marked =
            λ k. (
              λ t. if_same k last
                  (λ e. absurd (subst (Marked (release places)) e t (ap (λ (p : Place). p.handler) (freed_here kept))))
                  (λ n. inr (still_marked (sym (freed_there kept k n)) t, no_choice, λ x. let l = x.1 in n (omega arith))),
              ⊎_elim (λ c. absurd (no_error c.0.0)) (λ t. still_marked (freed_there kept k (not_last kept k r t.0 t.2)) t.0),
            );
        new = λ c. absurd (no_error c.0);
        same = λ k t a b. freed_there kept k (not_last kept k r t b);
        unmarked = λ o. absurd (no_choice o);
        taken = λ k x. let l = x.1 in let e : k ≡ last = omega arith in subst (λ (i : ℕ). place_at (release places) i ≡ unused) (sym e) (freed_here kept);
        again = λ k x t. let l = x.1 in let e : last ≡ k = omega arith in rw (e, ne_eqb (place_at places k).handler no_handler t);
        called = λ c. absurd (no_error c.0);
        arms = λ cell e. absurd (no_choice (inl (cell, e)));
        disarms = λ e. absurd (no_choice (inr e));
        stays =
            λ a b d. if_same (place_at places last).handler no_handler
            (λ e. rw (eq-eqb (place_at places last).handler no_handler e))
            (λ t. absurd (if_below last places.kept (λ l. d last (r, omega arith) t) (λ l. not_marked kept last l t)));
      })
  from_ways (choosing o n r p f g) =
      rw p
      (record {
        marked = λ k. (λ t. absurd (t (ap (λ (p : Place). p.handler) (call_at kept k))), ⊎_elim (λ c. absurd (n c.0.0)) (λ t. absurd (t.1 o)));
        new = λ c. absurd (n c.0);
        same = λ k t a b. absurd (a o);
        unmarked = λ x k. call_at kept k;
        taken = λ k x. absurd (r x.0);
        again = λ k x t. absurd (r x.0);
        called = λ c. absurd (n c.0);
        arms = f;
        disarms = g;
        stays = λ a b d. absurd (b o);
      })

-- So at most one place stays a handler's.
module _ {e : Effect} {next : ℕ} {places : Places} {handler : ℕ} {places' : Places} {handler' : ℕ} (h : Handlers e next places handler places' handler') (o : OneHandler places handler) where
  -- Where a handler is called, no place was one.
  none_yet : (k : ℕ) → CallsHandler e places handler → Marked places k → ⊥
  none_yet k c t = c.1 (o.unarmed k t)

  pub one_after : OneHandler places' handler'
  one_after =
      record {
        one =
            λ j k s t. ⊎_elim
            (λ c. ⊎_elim (λ d. c.1 ∙ sym d.1) (λ y. absurd (none_yet k c.0 y.0)) ((h.marked k).0 t))
            (λ x. ⊎_elim (λ d. absurd (none_yet j d.0 x.0)) (λ y. o.one j k x.0 y.0) ((h.marked k).0 t))
            ((h.marked j).0 s);
        unarmed =
            λ k t. ⊎_elim
            (λ c. h.called c.0)
            (λ x.
            h.stays (λ c. none_yet k c x.0) x.1 (λ j y z. x.2 (y.0, ap suc (o.one k j x.0 z) ∙ y.1))
            ∙ o.unarmed k x.0)
            ((h.marked k).0 t);
      }

-- Turn 3: before the first turn no place is marked.
pub start_one : (values : List ℤ) → OneHandler (start_machine values).places (start_machine values).handler
unfolding start_machine
start_one values =
    let none : (k : ℕ) → Marked (start_machine values).places k → ⊥ = λ k t. t (ap (λ (p : Place). p.handler) (everywhere 8 k unused)) in
    record { one = λ j k s t. absurd (none j s); unarmed = λ k t. refl }

-- What is told of next cell, places and handler is told of any equal ones.
since : {e : Effect} {n n' : ℕ} {p p' : Places} {h h' : ℕ} {q : Places} {i : ℕ} → n' ≡ n → p' ≡ p → h' ≡ h → Handlers e n' p' h' q i → Handlers e n p h q i
since a b c x = rw (← a, ← b, ← c) x

-- Q-7 2, Q-7 3: a turn of a good statement in a state that keeps the rules.
pub handlers : {R : Type 0} (cells variables : ℕ) (holds : ℕ → Bool) (place number : R → ℕ) (s : Statement R) (m : Machine)
    → Good cells variables place number s → Ruled cells variables holds m → holds m.next ≡ is_hold s
    → TurnHandlers cells (deed place number m.variables m.places.kept m.hold s) m
unfolding turn
handlers cells variables holds place number s m good r e =
    let kept = (way_of r).back in
    from_ways kept (by_effect cells variables holds m kept _ (sound_effect cells variables holds m place number s good r e))

-- Q-7 2: a place that is a handler's behind a turn was so before it, and is the same, or was kept in it.
from_turn : (s : Step Machine Deed Turned) → HandlersIn s → (k : ℕ) → Marked s.came.machine.places k
    → (Marked s.before.places k × (place_at s.came.machine.places k ≡ place_at s.before.places k)) ⊎ KeptBy k (place_at s.came.machine.places k) s
from_turn s h k t =
    ⊎_elim
    (λ c. inr (record { calls = c.0; last = c.1; as_was = ap (place_at s.came.machine.places) c.1 ∙ h.changes.new c.0 }))
    (λ x. inl (x.0, h.changes.same k x.0 x.1 x.2))
    ((h.changes.marked k).0 t)

-- Q-7 2, Q-7 3: a turn of what acts, and each turn of a run, its events and its statement together.
module _ {R : Type 0} (cells variables : ℕ) (holds : ℕ → Bool) (place number : R → ℕ) (act : Machine → Deed)
    (acts : (m : Machine) → Ruled cells variables holds m → m.next < cells → Acts cells variables holds place number act m) where
  pub handlers_act : (m : Machine) → Ruled cells variables holds m → m.next < cells → TurnHandlers cells (act m) m
  handlers_act m r here =
      let a = acts m r here in
      subst (λ (d : Deed). TurnHandlers cells d m) (sym a.does) (handlers cells variables holds place number a.statement m a.good r a.hold)

  -- What is kept in a run: the rules, and that at most one place is a handler's.
  abbrev pub Keeps : Machine → Type 0
  Keeps m = Ruled cells variables holds m × OneHandler m.places m.handler

  event_keeps : (e : Event) (m : Machine) → T (good_event e) → Keeps m → Keeps (happens e m)
  event_keeps e m g k = let w = happens_way e m in (ruled_event e m g k.0, rw (w.1, w.2) k.1)

  turn_keeps : (m : Machine) → Keeps m → m.next < cells → Keeps (turn cells (act m) m).machine
  turn_keeps m k here = (ruled_act cells variables holds place number act acts m k.0 here, one_after (handlers_act m k.0 here) k.1)

  handlers_step : (t : ℕ) (es : List Event) (m : Machine) → m.next < cells → T (all_of good_event es) → Keeps m → HandlersIn (step plain act cells t es m)
  handlers_step t es m here f k =
      let there = (reach t es m).machine in
      let w = reach_keeps happens (SameWay m) (λ e. true) (λ e x g h. let i = happens_way e x in (i.0 ∙ h.0, i.1 ∙ h.1, i.2 ∙ h.2)) t es m (all_events es) (refl, refl, refl) in
      let r = reach_keeps happens (Ruled cells variables holds) good_event ruled_event t es m f k.0 in
      let h = since w.0 w.1 w.2 (handlers_act there r (rw w.0 here)) in
      record { changes = h; before = k.1; after = one_after h k.1 }

  pub handlers_run : (left t : ℕ) (es : List Event) (m : Machine) → T (all_of good_event es) → Keeps m → Each HandlersIn (trace_from act cells left t es m).steps
  handlers_run = each_step plain happens_next act cells Keeps good_event event_keeps turn_keeps HandlersIn handlers_step

  -- And behind its last turn.
  pub one_run : (left t : ℕ) (es : List Event) (m : Machine) → T (all_of good_event es) → Keeps m → Keeps (run_from act cells left t es m).machine
  unfolding course_of
  one_run = run_keeps plain happens_next act cells Keeps good_event event_keeps turn_keeps

  -- So it is of a run: what is a handler's at its end was so at its start, and is the same, or was kept by one of its turns.
  abbrev Since : Machine → PlainTrace → Type 0
  Since m trace =
      (k : ℕ) → Marked (finally plain m trace.steps).places k
      → (Marked m.places k × (place_at (finally plain m trace.steps).places k ≡ place_at m.places k)) ⊎ Some (KeptBy k (place_at (finally plain m trace.steps).places k)) trace.steps

  since_run : (left t : ℕ) (es : List Event) (m : Machine) → T (all_of good_event es) → Keeps m → Since m (trace_from act cells left t es m)
  unfolding finally
  since_run =
      each_run plain act cells (λ left t es m trace. T (all_of good_event es) → Keeps m → Since m trace)
      (λ left t es m h f k i y. inl (y, refl))
      (λ t es m h f k i y. inl (y, refl))
      (λ left t es m h e f k i y. ⊎_elim inl (λ o. inr (inl o)) (from_turn (step plain act cells t es m) (handlers_step t es m h f k) i y))
      (λ left t es m h e more p f k i y.
      let s = step plain act cells t es m in
      let there = reach t es m in
      let c = turn_keeps there.machine (reach_keeps happens Keeps good_event event_keeps t es m f k) (rw (next_reached plain happens_next t es m) h) in
      ⊎_elim
      (λ x. ⊎_elim
      (λ w. inl (w.0, x.1 ∙ w.1))
      (λ o. inr (inl (record { calls = o.calls; last = o.last; as_was = x.1 ∙ o.as_was })))
      (from_turn s (handlers_step t es m h f k) i x.0))
      (λ o. inr (inr o))
      (p (left_fine happens good_event t es m f) c i y))

  -- Q-7 2: in a run from the start each place that is a handler's at the end was kept by a turn of that run.
  pub origins : (left t : ℕ) (es : List Event) (values : List ℤ) → T (all_of good_event es) → Ruled cells variables holds (start_machine values)
      → Origins (run_from act cells left t es (start_machine values)).machine.places (trace_from act cells left t es (start_machine values)).steps
  unfolding course_of start_machine
  origins left t es values f r k y =
      ⊎_elim
      (λ x. absurd (x.0 (ap (λ (p : Place). p.handler) (everywhere 8 k unused))))
      (λ o. o)
      (since_run left t es (start_machine values) f (r, start_one values) k y)
