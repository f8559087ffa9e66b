-- The sum of a record number: by which buffers have it, below 64, and the other way round.
-- Assumes nothing.
use mathlib.Core.Path.{◌≡◌, refl, sym, ap, ◌∙◌}
use mathlib.Core.Bool.{Bool, true, false, cond}
use mathlib.Core.List.{List}
use Prim.Native.Nat.{ℕ, ◌≤◌, ◌<◌, max}
use native.Mathlib.Omega.{arith}
use borrow.Author.Tests.{le-leb, lt-leb, eq-eqb, ne_eqb}
use lib.Dec.{eqb}
use Rattle.numbers.specs.Tests.{eq_z}
use Rattle.numbers.proofs.Truth.{eqb_turn, if_below}
use Rattle.numbers.proofs.Tests.{eq_z_turn}
use Rattle.events.specs.Events.{event_at, event_count}
use Rattle.events.specs.declared.Event.{Event}
use Rattle.comparing.specs.Differences.{weight, field_sum, sum_at, differs_at}
use Rattle.comparing.specs.Requests.{exchanged}

-- A number is listed exactly if its sum is not 0.
module _ (first second : List ℕ) (k : ℕ) where
  pub not_listed : sum_at first second k ≡ 0 → differs_at first second k ≡ false
  unfolding differs_at
  not_listed e = rw (eq-eqb (sum_at first second k) 0 e)

  pub is_listed : (sum_at first second k ≡ 0 → ⊥) → differs_at first second k ≡ true
  unfolding differs_at
  is_listed o = rw (ne_eqb (sum_at first second k) 0 o)

  -- By the buffers that have the record.
  pub sum_first : event_count second ≤ k → sum_at first second k ≡ 16
  unfolding sum_at
  sum_first h = rw (le-leb (event_count second) k h)

  pub sum_second : k < event_count second → event_count first ≤ k → sum_at first second k ≡ 32
  unfolding sum_at
  sum_second l h = rw (lt-leb (event_count second) k l, le-leb (event_count first) k h)

  pub sum_both : k < event_count first → k < event_count second → sum_at first second k ≡ field_sum (event_at first k) (event_at second k)
  unfolding sum_at
  sum_both h l = rw (lt-leb (event_count second) k l, lt-leb (event_count first) k h)

-- The sum of fields is below 16.
pub weight_most : (t : Bool) (w : ℕ) → weight t w ≤ w
unfolding weight
weight_most true w = omega arith
weight_most false w = omega arith

pub fields_below : (a b : Event) → field_sum a b < 16
unfolding field_sum
fields_below a b =
    omega (arith, weight_most (eqb a.turn b.turn) 1, weight_most (eqb a.kind b.kind) 2, weight_most (eqb a.number b.number) 4, weight_most (eq_z a.value b.value) 8)

pub sum_below : (first second : List ℕ) (k : ℕ) → sum_at first second k < 64
sum_below first second k =
    if_below k (event_count second)
    (λ l. if_below k (event_count first)
    (λ h. omega (arith, sum_both first second k h l, fields_below (event_at first k) (event_at second k)))
    (λ h. omega (arith, sum_second first second k l h)))
    (λ l. omega (arith, sum_first first second k l))

-- The other way round: fields are the same, 16 and 32 are exchanged.
fields_turned : (a b : Event) → field_sum b a ≡ field_sum a b
unfolding field_sum
fields_turned a b =
    rw (eqb_turn b.turn a.turn, eqb_turn b.kind a.kind, eqb_turn b.number a.number, eq_z_turn b.value a.value) refl

exchanged_fields : (n : ℕ) → n < 16 → exchanged n ≡ n
unfolding exchanged
exchanged_fields n h = rw (ne_eqb n 16 (λ e. omega arith), ne_eqb n 32 (λ e. omega arith))

exchanged_first : exchanged 16 ≡ 32
unfolding exchanged
exchanged_first = refl

exchanged_second : exchanged 32 ≡ 16
unfolding exchanged
exchanged_second = refl

-- Of a number that one of the buffers has.
pub sum_turned : (first second : List ℕ) (k : ℕ) → k < max (event_count first) (event_count second) → sum_at second first k ≡ exchanged (sum_at first second k)
sum_turned first second k b =
    if_below k (event_count second)
    (λ l. if_below k (event_count first)
    (λ h. sum_both second first k l h ∙ fields_turned (event_at first k) (event_at second k)
    ∙ sym (exchanged_fields (field_sum (event_at first k) (event_at second k)) (fields_below (event_at first k) (event_at second k)))
    ∙ ap exchanged (sym (sum_both first second k h l)))
    (λ h. sum_first second first k h ∙ sym (ap exchanged (sum_second first second k l h) ∙ exchanged_second)))
    (λ l. sum_second second first k (omega arith) l ∙ sym (ap exchanged (sum_first first second k l) ∙ exchanged_first))

pub exchanged_zero : (n : ℕ) → (exchanged n ≡ 0) → n ≡ 0
unfolding exchanged
exchanged_zero n e = step (eqb n 16) (eqb n 32) e where
  step : (s t : Bool) → cond s 32 (cond t 16 n) ≡ 0 → n ≡ 0
  step true t z = absurd (omega arith)
  step false true z = absurd (omega arith)
  step false false z = z
