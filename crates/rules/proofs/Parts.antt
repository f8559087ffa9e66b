-- A ruled state by its parts, the registers and the way through the cells, and what each change of one part leaves.
-- Assumes nothing.
use mathlib.Core.Path.{◌≡◌, refl, sym, ap, ◌∙◌}
use mathlib.Core.Bool.{Bool}
use mathlib.Core.List.{List}
use mathlib.Core.Logic.{◌⊎◌, inl, inr, ⊎_elim}
use Prim.Native.Nat.{ℕ, ◌+◌, ◌*◌, ◌-◌, ◌≤◌, ◌<◌}
use native.Mathlib.Omega.{arith}
use borrow.Author.Tests.{le-leb}
use lib.Dec.{T, leb, leb→le, le→leb}
use lib.IntN.{ℤ, pos, negsuc, ◌+ℤ◌, ◌*ℤ◌}
use lib.ListN.{length, get_or, set, length-set}
use lib.Seq.{get_or-set_same, get_or-set_other}
use Rattle.numbers.specs.Tests.{between}
use Rattle.numbers.proofs.Truth.{both, both_of, if_same, if_below}
use Rattle.numbers.proofs.Lists.{changed_at, changed_past, length_changed}
use Rattle.program.specs.Variables.{range_of, present, all_inputs}
use Rattle.program.proofs.Ranges.{input_range}
use Rattle.effects.specs.Effects.{read}
use Rattle.machine.specs.declared.Machine.{Machine}
use Rattle.machine.specs.declared.Place.{Place}
use Rattle.machine.specs.declared.Places.{Places}
use Rattle.machine.specs.declared.Motion.{Motion}
use Rattle.machine.specs.declared.Motion.TheVariants.{Still, To, Slewing}
use Rattle.machine.specs.Happens.{input}
use Rattle.machine.specs.Turn.{no_handler, by_call, by_handler, as_call, unused, machine, moving_bit, keep, release, calls_only}
use Rattle.rules.specs.Rules.{place_at, RuledPlace, Ruled, good_motion}
use Rattle.rules.proofs.Values.{Values, error_number, may_hold, values_set, read_same, read_other, inputs_other}

-- The variables with IN by the inputs and MV by the motion.
pub record Registers (variables : ℕ) (vars : List ℤ) (motion : Motion) : Type 0 where
  pub values : Values variables vars
  pub inputs : read vars 20 ≡ all_inputs vars
  pub moving : read vars 14 ≡ moving_bit motion
  pub good_motion : T (good_motion motion)

-- The return places with their number.
pub record Kept (cells : ℕ) (places : Places) : Type 0 where
  pub there : length places.all ≡ 8
  pub most : places.kept ≤ 8
  pub each : (k : ℕ) → RuledPlace cells (place_at places k)
  pub none : (k : ℕ) → places.kept ≤ k → place_at places k ≡ unused

-- The way through the cells: next cell, return places, handler and hold.
pub record Way (cells : ℕ) (holds : ℕ → Bool) (next : ℕ) (places : Places) (handler hold : ℕ) : Type 0 where
  pub back : Kept cells places
  pub next_cell : next ≤ cells
  pub handler_cell : (handler ≡ no_handler → ⊥) → handler ≤ cells
  pub hold_most : hold ≤ 64999
  pub hold_at : (hold ≡ 0 → ⊥) → T (holds next)

-- Apart and together again.
module _ {cells variables : ℕ} {holds : ℕ → Bool} {m : Machine} (r : Ruled cells variables holds m) where
  pub registers_of : Registers variables m.variables m.motion
  registers_of =
      record {
        values = record { there = r.all_there.0; error = r.error; in_range = r.in_range; unused = r.unused_variables };
        inputs = r.inputs;
        moving = r.moving;
        good_motion = r.motion;
      }

  pub way_of : Way cells holds m.next m.places m.handler m.hold
  way_of =
      record {
        back = record { there = r.all_there.1; most = r.kept; each = r.places; none = r.unused_places };
        next_cell = r.next;
        handler_cell = r.handler;
        hold_most = r.hold;
        hold_at = r.hold_at;
      }

module _ {cells variables : ℕ} {holds : ℕ → Bool} {vars : List ℤ} {next : ℕ} {places : Places} {handler hold : ℕ} {motion : Motion} where
  pub together : Registers variables vars motion → Way cells holds next places handler hold
      → Ruled cells variables holds (machine vars next places handler hold motion)
  together g w =
      record {
        all_there = (g.values.there, w.back.there);
        error = g.values.error;
        in_range = g.values.in_range;
        inputs = g.inputs;
        moving = g.moving;
        motion = g.good_motion;
        next = w.next_cell;
        kept = w.back.most;
        places = w.back.each;
        handler = w.handler_cell;
        hold = w.hold_most;
        hold_at = w.hold_at;
        unused_places = w.back.none;
        unused_variables = g.values.unused;
      }

-- What MV and IN may be.
moving_bit_lem : (vars : List ℤ) (to : Motion) → T (may_hold vars 14 (moving_bit to))
unfolding moving_bit range_of
moving_bit_lem vars Still = tt
moving_bit_lem vars (To z) = tt
moving_bit_lem vars (Slewing z) = tt

bit : (z : ℤ) → T (between (pos 0) (pos 1) z) → (n : ℕ) × (z ≡ pos n) × (n ≤ 1)
bit (pos n) t = (n, refl, leb→le n 1 (both (leb 0 n) (leb n 1) t).1)
bit (negsuc n) t = absurd t

four_bits : (a b c d : ℤ) → T (between (pos 0) (pos 1) a) → T (between (pos 0) (pos 1) b) → T (between (pos 0) (pos 1) c) → T (between (pos 0) (pos 1) d)
    → T (between (pos 0) (pos 15) (((a +ℤ (pos 2 *ℤ b)) +ℤ (pos 4 *ℤ c)) +ℤ (pos 8 *ℤ d)))
four_bits a b c d s t u v =
    let x = bit a s in
    let y = bit b t in
    let z = bit c u in
    let w = bit d v in
    let hx = x.2 in
    let hy = y.2 in
    let hz = z.2 in
    let hw = w.2 in
    let n = x.0 + 2 * y.0 + 4 * z.0 + 8 * w.0 in
    rw (x.1, y.1, z.1, w.1) (both_of (leb 0 n) (leb n 15) (le→leb 0 n (omega arith)) (le→leb n 15 (omega arith)))

inputs_range : (variables : ℕ) (vars : List ℤ) → Values variables vars → T (may_hold vars 20 (all_inputs vars))
unfolding range_of all_inputs read
inputs_range variables vars ok =
    four_bits (read vars 16) (read vars 17) (read vars 18) (read vars 19)
    (ok.in_range 16 tt (λ e. omega arith)) (ok.in_range 17 tt (λ e. omega arith)) (ok.in_range 18 tt (λ e. omega arith)) (ok.in_range 19 tt (λ e. omega arith))

input_present : (variables v : ℕ) → 16 ≤ v → v < 20 → T (present variables v)
input_present variables v l h = rw (le-leb 1 v (omega arith), le-leb v 20 (omega arith)) tt

module _ {variables : ℕ} {vars : List ℤ} {motion : Motion} (g : Registers variables vars motion) where
  -- A store to a variable that is neither MV (14), an input nor IN (16 to 20).
  pub registers_set : (v : ℕ) (z : ℤ) → T (present variables v) → (v ≡ 14 → ⊥) → (v < 16) ⊎ (20 < v)
      → ((v ≡ 10 → ⊥) → T (may_hold vars v z)) → (v ≡ 10 → T (error_number z)) → Registers variables (set vars v z) motion
  registers_set v z p n o h er =
      record {
        values = values_set variables vars g.values v z p h er;
        inputs =
            read_other vars v 20 z (λ e. ⊎_elim (λ a. omega arith) (λ a. omega arith) o)
            ∙ g.inputs
            ∙ sym (inputs_other vars v z (⊎_elim (λ a. inl a) (λ a. inr (omega arith)) o));
        moving = read_other vars v 14 z (λ e. n (sym e)) ∙ g.moving;
        good_motion = g.good_motion;
      }

  -- Another motion, with MV (14) by it.
  pub registers_move : (to : Motion) → T (good_motion to) → Registers variables (set vars 14 (moving_bit to)) to
  registers_move to t =
      let l = g.values.there in
      record {
        values = values_set variables vars g.values 14 (moving_bit to) tt (λ n. moving_bit_lem vars to) (λ e. absurd (omega arith));
        inputs = read_other vars 14 20 (moving_bit to) (λ e. omega arith) ∙ g.inputs ∙ sym (inputs_other vars 14 (moving_bit to) (inl (omega arith)));
        moving = read_same vars 14 (moving_bit to) (omega arith);
        good_motion = t;
      }

  -- An input, 1 to 4, takes 0 or 1, and IN (20) with it.
  pub registers_input : (n : ℕ) (z : ℤ) → 1 ≤ n → n ≤ 4 → T (between (pos 0) (pos 1) z) → Registers variables (input n z vars) motion
  unfolding input
  registers_input n z lo hi t =
      let seen = set vars (15 + n) z in
      let l = g.values.there in
      let ls : length seen ≡ 64 = length-set vars (15 + n) z ∙ l in
      let may : T (may_hold vars (15 + n) z) = rw (input_range (15 + n) (read vars 8) (read vars 9) (omega arith) (omega arith)) t in
      let v : Values variables seen = values_set variables vars g.values (15 + n) z (input_present variables (15 + n) (omega arith) (omega arith)) (λ e. may) (λ e. absurd (omega arith)) in
      record {
        values = values_set variables seen v 20 (all_inputs seen) tt (λ e. inputs_range variables seen v) (λ e. absurd (omega arith));
        inputs = read_same seen 20 (all_inputs seen) (omega arith) ∙ sym (inputs_other seen 20 (all_inputs seen) (inr (omega arith)));
        moving = read_other seen 20 14 (all_inputs seen) (λ e. omega arith) ∙ read_other vars (15 + n) 14 z (λ e. omega arith) ∙ g.moving;
        good_motion = g.good_motion;
      }

-- A place that CL keeps, and one that the call of a handler keeps.
pub call_ruled : {cells cell : ℕ} → cell ≤ cells → RuledPlace cells (by_call cell)
call_ruled t = record { cell = t; handler = λ n. absurd (n refl) }

pub handler_ruled : {cells cell target : ℕ} → cell ≤ cells → target ≤ cells → RuledPlace cells (by_handler cell target)
handler_ruled t u = record { cell = t; handler = λ n. omega arith }

-- One place more; the place kept last is free again; each place as one that CL kept.
module _ {cells : ℕ} {places : Places} (b : Kept cells places) where
  pub keep_one : (place : Place) → RuledPlace cells place → places.kept < 8 → Kept cells (keep places place)
  unfolding keep
  keep_one place t k =
      let l = b.there in
      record {
        there = length-set places.all places.kept place ∙ b.there;
        most = omega arith;
        each =
            λ i. if_same i places.kept
            (λ e. rw (e, get_or-set_same places.all places.kept place unused (omega arith)) t)
            (λ n. rw (get_or-set_other places.all places.kept i place unused n) (b.each i));
        none = λ i h. get_or-set_other places.all places.kept i place unused (λ e. omega arith) ∙ b.none i (omega arith);
      }

  pub free_one : 0 < places.kept → Kept cells (release places)
  unfolding release
  free_one k =
      let l = b.there in
      let m = b.most in
      let same : get_or (set places.all (places.kept - 1) unused) (places.kept - 1) unused ≡ unused = get_or-set_same places.all (places.kept - 1) unused unused (omega arith) in
      record {
        there = length-set places.all (places.kept - 1) unused ∙ b.there;
        most = omega arith;
        each =
            λ i. if_same i (places.kept - 1)
            (λ e. rw (e, same) (call_ruled (omega arith)))
            (λ n. rw (get_or-set_other places.all (places.kept - 1) i unused unused n) (b.each i));
        none =
            λ i h. if_same i (places.kept - 1)
            (λ e. rw e same)
            (λ n. get_or-set_other places.all (places.kept - 1) i unused unused n ∙ b.none i (omega arith));
      }

  -- Q-7 3: each place after an OE; those that are not kept have no handler anyway.
  pub call_at : (k : ℕ) → place_at (calls_only places) k ≡ as_call (place_at places k)
  unfolding calls_only
  call_at k =
      let l = b.there in
      let m = b.most in
      if_below k places.kept
      (λ h. changed_at as_call places.all places.kept k unused h (omega arith))
      (λ h. changed_past as_call places.all places.kept k unused h ∙ b.none k h ∙ sym (ap as_call (b.none k h)))

  pub calls_kept : Kept cells (calls_only places)
  unfolding calls_only
  calls_kept =
      record {
        there = length_changed as_call places.all places.kept ∙ b.there;
        most = b.most;
        each = λ i. rw (call_at i) (call_ruled (b.each i).cell);
        none = λ i h. call_at i ∙ rw (b.none i h);
      }

-- On to another cell where no hold runs, with other places; another handler; so many turns of a hold; other places.
module _ {cells : ℕ} {holds : ℕ → Bool} {next : ℕ} {places : Places} {handler hold : ℕ} (w : Way cells holds next places handler hold) where
  pub way_at : (to : ℕ) {others : Places} → to ≤ cells → Kept cells others → hold ≡ 0 → Way cells holds to others handler hold
  way_at to t b h = record { back = b; next_cell = t; handler_cell = w.handler_cell; hold_most = w.hold_most; hold_at = λ n. absurd (n h) }

  pub way_arm : (to : ℕ) → ((to ≡ no_handler → ⊥) → to ≤ cells) → Way cells holds next places to hold
  way_arm to t = record { back = w.back; next_cell = w.next_cell; handler_cell = t; hold_most = w.hold_most; hold_at = w.hold_at }

  pub way_hold : (turns : ℕ) → turns ≤ 64999 → T (holds next) → Way cells holds next places handler turns
  way_hold turns t h = record { back = w.back; next_cell = w.next_cell; handler_cell = w.handler_cell; hold_most = t; hold_at = λ n. h }

  pub way_places : {others : Places} → Kept cells others → Way cells holds next others handler hold
  way_places b = record { back = b; next_cell = w.next_cell; handler_cell = w.handler_cell; hold_most = w.hold_most; hold_at = w.hold_at }
