-- Impostors of comparing: wrong calls and wrong answers, shut out by the request or by the promise.
-- Assumes nothing.
use mathlib.Core.Path.{◌≡◌, refl, sym, ap, ◌∙◌}
use mathlib.Core.Bool.{false}
use mathlib.Core.List.{List, [], ◌∷◌}
use mathlib.Core.List as List
use Prim.Native.Nat.{ℕ, ◌*◌, ◌<◌}
use native.Mathlib.Omega.{arith}
use lib.ListN.{length, get_or, replicate}
use Rattle.numbers.specs.Bits as Bits
use Rattle.numbers.specs.Bytes as Bytes
use Rattle.numbers.specs.Tests as Tests
use Rattle.events.specs.Events as Events
use Rattle.events.specs.Events.{event_count}
use Rattle.comparing.specs.Differences as Differences
use Rattle.comparing.specs.Differences.{bad_buffer}
use Rattle.comparing.specs.Calls as Calls
use Rattle.comparing.specs.Calls.{compare_answered, compared_as, compared_into, Compares}
use Rattle.comparing.specs.Requests.{Comparison, Compare, Request4}
use Rattle.comparing.specs.declared.Compared.{Compared}
use Rattle.comparing.proofs.Request.{compare_decided}

-- One record: turn 7, output 1 takes this value. And a list buffer with room for one entry.
abbrev one : ℕ → List ℕ
one value = 7 ∷ 0 ∷ 0 ∷ 0 ∷ 1 ∷ 1 ∷ 0 ∷ 0 ∷ value ∷ 0 ∷ 0 ∷ 0 ∷ []

abbrev blank : List ℕ
blank = replicate 8 170

-- What is listed of a record and none, and of two values.
listed_so : (bad_buffer (one 1) ≡ false) × (compared_as (one 1) [] 8 ≡ compare_answered 0 1)
    × (compared_into (one 1) [] blank ≡ 0 ∷ 0 ∷ 0 ∷ 0 ∷ 16 ∷ 0 ∷ 0 ∷ 0 ∷ []) × (compared_into (one 1) (one 2) blank ≡ 0 ∷ 0 ∷ 0 ∷ 0 ∷ 8 ∷ 0 ∷ 0 ∷ 0 ∷ [])
unfolding Bits.signed32 Bytes.bytes Bytes.number Bytes.field Tests.eq_z Tests.any_below Tests.passing Tests.lowest List.flat_map Events.event_at Events.event_count Differences.bad_record Differences.bad_buffer Differences.weight Differences.field_sum Differences.sum_at Differences.differs_at Differences.differing Differences.entry_bytes Differences.differences Calls.compare_faults Calls.compare_number Calls.compared_as Calls.compared_into
listed_so = (refl, refl, refl, refl)

-- A comparer that lists nothing, with any number and buffer.
pub lists_nothing : (compare : Compare) → ((first second old : List ℕ) → (compare first second old).answer.entries ≡ 0) → Request4 compare → ⊥
lists_nothing compare nothing r =
    let e : ◌≡◌ {A = ℕ} 0 1 =
    sym (nothing (one 1) [] blank) ∙ ap (λ (c : Comparison). c.answer.entries) (compare_decided compare r (one 1) [] blank) ∙ ap (λ (a : Compared). a.entries) listed_so.1 in
    omega arith

-- A comparer that asks for room for every record, whether it differs or not.
pub asks_for_all : (compare : Compare) → ((first second old : List ℕ) → length old < 8 * event_count first → (compare first second old).answer.number ≡ 53) → Request4 compare → ⊥
unfolding event_count
asks_for_all compare short r =
    let e : ◌≡◌ {A = ℕ} 53 0 =
    sym (short (one 1) (one 1) [] (omega arith)) ∙ ap (λ (c : Comparison). c.answer.number) (r.itself (one 1) [] listed_so.0) in
    omega arith

-- A record that stands in the first buffer only left out, with any buffer; told as one that differs in all fields, with any answer.
pub tail_left_out : (new : List ℕ) → Compares (one 1) [] blank (compare_answered 0 0) new → ⊥
tail_left_out new c = let e : ◌≡◌ {A = ℕ} 0 1 = ap (λ (a : Compared). a.entries) (c.answers ∙ listed_so.1) in omega arith

pub tail_as_fields : (answer : Compared) (new : List ℕ) → get_or new 4 0 ≡ 15 → Compares (one 1) [] blank answer new → ⊥
tail_as_fields answer new h c = let e : ◌≡◌ {A = ℕ} 15 16 = sym h ∙ ap (λ (l : List ℕ). get_or l 4 0) (c.leaves ∙ listed_so.2) in omega arith

-- Another value told as another number, with any answer.
pub value_as_number : (answer : Compared) (new : List ℕ) → get_or new 4 0 ≡ 4 → Compares (one 1) (one 2) blank answer new → ⊥
value_as_number answer new h c = let e : ◌≡◌ {A = ℕ} 4 8 = sym h ∙ ap (λ (l : List ℕ). get_or l 4 0) (c.leaves ∙ listed_so.3) in omega arith
