-- What comparing promises, with no condition in front: one equation for its whole answer, and one for the lent list as it returns.
-- Assumes nothing.
use Rattle.std.specs.Prelude.{Result, Ok, Err, ◌≡◌, Bool, cond, List, [], ◌∷◌, ◌++◌, ℕ, ◌*◌, eqb, ltb, length, drop}
use Rattle.numbers.specs.Tests.{lowest}
use Rattle.comparing.specs.Differences.{bad_buffer, differing, differences}
use Rattle.comparing.specs.declared.Compared.{Compared}
use Rattle.comparing.specs.declared.Refusal.{Refusal}
use Rattle.comparing.specs.declared.Refusal.TheVariants.{BadFirst, BadSecond, ShortList}

-- Q-4 5: the refusals as a table, 51 and up: the first buffer, the second, and a list buffer of this size that is too short for 8 bytes an entry.
unfoldable pub compare_faults : List ℕ → List ℕ → ℕ → List Bool
compare_faults first second room =
    bad_buffer first
    ∷ bad_buffer second
    ∷ ltb room (8 * length (differing first second))
    ∷ []

unfoldable pub compare_number : List ℕ → List ℕ → ℕ → ℕ
compare_number first second room = lowest 51 (compare_faults first second room)

abbrev pub compare_answered : ℕ → ℕ → Compared
compare_answered number entries = record { number = number; entries = entries }

-- Q-4 5: the number of each refusal, and the answer that has it: with no entries.
abbrev pub refusal_number : Refusal → ℕ
refusal_number BadFirst = 51
refusal_number BadSecond = 52
refusal_number ShortList = 53

abbrev pub compare_answer : Result ℕ Refusal → Compared
compare_answer (Ok entries) = compare_answered 0 entries
compare_answer (Err refusal) = compare_answered (refusal_number refusal) 0

-- Q-4 2, Q-4 5: 0 and how many entries the list has; or the refusal, and none.
unfoldable pub compared_as : List ℕ → List ℕ → ℕ → Compared
compared_as first second room =
    let number = compare_number first second room in
    cond (eqb number 0) (compare_answered 0 (length (differing first second))) (compare_answered number 0)

-- Q-4 4, Refusals 24: what the list buffer holds after: the list and behind it what stood there; as it was where the call is refused.
unfoldable pub compared_into : List ℕ → List ℕ → List ℕ → List ℕ
compared_into first second old =
    cond (eqb (compare_number first second (length old)) 0) (differences first second ++ drop (length (differences first second)) old) old

-- Q-4 2 to 5: comparing two record buffers into a list buffer that held `old`.
pub record Compares (first second old : List ℕ) (answer : Compared) (new : List ℕ) : Type 0 where
  pub answers : answer ≡ compared_as first second (length old)
  pub leaves : new ≡ compared_into first second old
