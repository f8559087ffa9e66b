-- Sentences of the paper that say only, one or never, about the definitions.
-- Assumes nothing.
use mathlib.Core.Path.{◌≡◌, refl}
use mathlib.Core.Bool.{Bool, true, false, cond, ◌&&◌, not}
use mathlib.Core.List.{List, ◌∷◌}
use mathlib.Core.Option.{Option, none, some}
use Prim.Native.Nat.{ℕ, suc, ◌-◌, ◌≤◌, ◌<◌}
use native.Mathlib.Omega.{arith}
use borrow.Author.Tests.{le-leb, ltb-false}
use lib.Dec.{leb, ltb}
use Rattle.numbers.specs.Tests.{eq_list}
use Rattle.numbers.proofs.Truth.{neither}
use Rattle.numbers.proofs.Tests.{none_below}
use Rattle.program.specs.Names.{Name, two_characters, user_name}
use Rattle.text.specs.Tokens.{Token}
use Rattle.text.specs.Forms.{Slot, Is, New, Target, Written, Left, Right, Start, Operating, Comparing, Parts, naming, writing, operating, comparing, Taken, took, put, word, sign, takes, operator_meant, comparison_meant, variable_name}
use Rattle.events.specs.Events.{event_at, event_count, bad_event, bad_events, good_event}
use Rattle.numbers.proofs.Tests.{none_below}

-- Events 2: in a script without a bad event turns never fall.
pub turns_rise : (s : List ℕ) (k : ℕ) → bad_events s ≡ false → suc k < event_count s → (event_at s k).turn ≤ (event_at s (suc k)).turn
unfolding bad_events bad_event
turns_rise s k h l =
    let fine : bad_event s (suc k) ≡ false = none_below (bad_event s) (event_count s) h (suc k) l in
    let low : (leb 1 (suc k) && ltb (event_at s (suc k)).turn (event_at s (suc k - 1)).turn) ≡ false = (neither (not (good_event (event_at s (suc k)))) _ fine).1 in
    let one : leb 1 (suc k) ≡ true = le-leb 1 (suc k) (omega arith) in
    let back : suc k - 1 ≡ k = omega arith in
    let test : ltb (event_at s (suc k)).turn (event_at s k).turn ≡ false = rw (one, back) at low in
    ltb-false (event_at s (suc k)).turn (event_at s k).turn test

-- Text 14: every place in a form but an operand and a start value takes a single token; so a minus is taken with digits behind it only where one of those begins.
abbrev Operands : Slot → Type 0
Operands (Is w) = ⊥
Operands New = ⊥
Operands Target = ⊥
Operands Written = ⊥
Operands Left = Unit {0}
Operands Right = Unit {0}
Operands Start = Unit {0}
Operands Operating = ⊥
Operands Comparing = ⊥

abbrev Rest : Option (Taken Parts) → List Token → Type 0
Rest none ts = Unit {0}
Rest (some f) ts = f.rest ≡ ts

rest_word : (test : Name → Bool) (into : Name → Parts) (t : Token) (ts : List Token) → Rest (put into (word test (t ∷ ts))) ts
unfolding word put
rest_word test into t ts = pick (test t.chars)
  where
    pick : (b : Bool) → Rest (put into (cond b (took t.chars ts) none)) ts
    pick true = refl
    pick false = tt

rest_sign : {A : Type 0} (means : Name → Option A) (into : A → Parts) (t : Token) (ts : List Token) → Rest (put into (sign means (t ∷ ts))) ts
unfolding sign put
rest_sign {A} means into t ts = pick (means t.chars)
  where
    pick : (o : Option A) → Rest (put into (elim o [ none ↦ none | some a ↦ took a ts ])) ts
    pick none = tt
    pick (some a) = refl

pub one_token : (s : Slot) (t : Token) (ts : List Token) (p : Parts) → (Operands s → ⊥) → Rest (takes s (t ∷ ts) p) ts
unfolding takes
one_token (Is w) t ts p h = rest_word (λ v. eq_list v w) (λ v. p) t ts
one_token New t ts p h = rest_word two_characters (naming p) t ts
one_token Target t ts p h = rest_word user_name (naming p) t ts
one_token Written t ts p h = rest_word variable_name (writing p) t ts
one_token Left t ts p h = absurd (h tt)
one_token Right t ts p h = absurd (h tt)
one_token Start t ts p h = absurd (h tt)
one_token Operating t ts p h = rest_sign operator_meant (operating p) t ts
one_token Comparing t ts p h = rest_sign comparison_meant (comparing p) t ts
