-- Document 01, "One turn", and document 02, "Over or under": the run errors and their numbers.
-- Assumes nothing.
use Rattle.std.specs.Prelude.{Bool, cond, List, [], ◌∷◌, ℕ, ℤ, pos}
use Rattle.std.specs.Int.Signed.{lt_z}
use Rattle.numbers.specs.Tests.{any_of, eq_z}
use Rattle.program.specs.Variables.{literals}

-- Turn 21, Q-6 2: a result above the literal range.
abbrev pub result_above : ℕ
result_above = 101

-- Turn 21: a divisor that is 0.
abbrev pub divisor_zero : ℕ
divisor_zero = 102

-- Turn 21: a value outside the range of its variable, of H or of SL.
abbrev pub value_outside : ℕ
value_outside = 103

-- Turn 21: a call, and all eight places are kept.
abbrev pub no_place_free : ℕ
no_place_free = 104

-- Turn 21: a return, and no place is kept.
abbrev pub no_place_kept : ℕ
no_place_kept = 105

-- Turn 21: a move, and the axis is still moving.
abbrev pub still_moving : ℕ
still_moving = 106

-- Q-6 2: a result below the literal range.
abbrev pub result_below : ℕ
result_below = 109

-- Turn 21, Q-6 2: the run errors, in the order of their numbers.
abbrev pub run_errors : List ℕ
run_errors = result_above ∷ divisor_zero ∷ value_outside ∷ no_place_free ∷ no_place_kept ∷ still_moving ∷ result_below ∷ []

-- Turn 5, Q-6 2: the number of a run error.
unfoldable pub is_error : ℤ → Bool
is_error z = any_of (λ (error : ℕ). eq_z z (pos error)) run_errors

-- Turn 21, Q-6 2: which error a result outside the literal range is, by its exact value.
unfoldable pub result_error : ℤ → ℕ
result_error z = cond (lt_z z literals.lowest) result_below result_above
