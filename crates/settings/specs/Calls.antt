-- What the two readers and the writer of settings files promise, with no condition in front: one equation for the whole answer, and one for the lent file as the
-- writer returns.
-- Assumes nothing.
use Rattle.std.specs.Prelude.{Result, Ok, Err, ◌≡◌, Bool, cond, ◌&&◌, ◌||◌, not, List, [], ◌∷◌, ◌++◌, ℕ, ◌-◌, eqb, leb, ltb, ℤ, length, drop}
use Rattle.numbers.specs.Tests.{lowest, any_of}
use Rattle.program.specs.Variables.{in_range}
use Rattle.settings.specs.Layout.{has_trailer, edition_of, laid_out, file_of}
use Rattle.settings.specs.Sets.{finished, in_ranges, own_range}
use Rattle.settings.specs.declared.Pair.{Pair}
use Rattle.settings.specs.declared.Settings.{Settings}
use Rattle.settings.specs.declared.Chosen.{Chosen}
use Rattle.settings.specs.declared.Shown.{Shown}
use Rattle.settings.specs.declared.Written.{Written}
use Rattle.settings.specs.declared.Refusal.{Refusal}
use Rattle.settings.specs.declared.Refusal.TheVariants.{BadLength, UnknownEdition, BadLayout, OutOfRange, ShortBuffer}

-- Q-5 8: the refusals of a reader that knows the editions 1 to `last`, as a table, 41 and up: the length, the edition, how the file is laid out, the finished set.
unfoldable pub read_faults : ℕ → List ℕ → Settings → List Bool
read_faults last s given =
    (ltb (length s) 8 || ltb 40 (length s))
    ∷ not (leb 1 (edition_of s) && leb (edition_of s) last)
    ∷ not (has_trailer s (length s - 8) (edition_of s) && laid_out s)
    ∷ not (in_ranges (finished s given))
    ∷ []

unfoldable pub read_number : ℕ → List ℕ → Settings → ℕ
read_number last s given = lowest 41 (read_faults last s given)

abbrev pub shown : ℕ → Settings → Shown
shown number settings = record { settings = settings; number = number }

-- Q-5 8: the number of each refusal, and the answer of a reader that has it: with what was given.
abbrev pub refusal_number : Refusal → ℕ
refusal_number BadLength = 41
refusal_number UnknownEdition = 42
refusal_number BadLayout = 43
refusal_number OutOfRange = 44
refusal_number ShortBuffer = 45

abbrev pub shown_answer : Settings → Result Settings Refusal → Shown
shown_answer given (Ok settings) = shown 0 settings
shown_answer given (Err refusal) = shown (refusal_number refusal) given

-- Q-5 6, Q-5 7: 0 and the finished set, all of it; or the refusal, and nothing but what was given.
unfoldable pub shown_by : ℕ → List ℕ → Settings → Shown
shown_by last s given =
    let number = read_number last s given in
    cond (eqb number 0) (shown 0 (finished s given)) (shown number given)

-- Q-5 5: reading by the reader that knows two editions.
pub record Reads (file : List ℕ) (given : Settings) (answer : Shown) : Type 0 where
  pub answers : answer ≡ shown_by 2 file given

-- Q-5 5: reading by the one from before, which knows the first alone.
pub record ReadsFirst (file : List ℕ) (given : Settings) (answer : Shown) : Type 0 where
  pub answers : answer ≡ shown_by 1 file given

-- Q-5 2: the pair of a name that is chosen; none of one that is not.
unfoldable pub chosen_pair : Bool → ℕ → ℤ → List Pair
chosen_pair chosen v value = cond chosen (record { value = value; number = v; zeros = 0 } ∷ []) []

-- Q-5 2: the pairs of the chosen names, their numbers rising.
unfoldable pub chosen_pairs : Settings → Chosen → List Pair
chosen_pairs g which =
    (chosen_pair which.a 6 g.a ++ chosen_pair which.d 7 g.d) ++ (chosen_pair which.vi 8 g.vi ++ chosen_pair which.vm 9 g.vm)

-- Q-12 4: a value that its variable can never have.
unfoldable pub outside : Pair → Bool
outside p = not (in_range (own_range p.number) p.value)

-- The refusals of the writer, which are ours, 44 and up: a chosen value that its variable can never have, and a buffer of this size that is too short.
unfoldable pub write_faults : Settings → Chosen → ℕ → List Bool
write_faults g which room =
    any_of outside (chosen_pairs g which)
    ∷ ltb room (length (file_of (chosen_pairs g which)))
    ∷ []

unfoldable pub write_number : Settings → Chosen → ℕ → ℕ
write_number g which room = lowest 44 (write_faults g which room)

abbrev pub written : ℕ → ℕ → Written
written number long = record { length = long; number = number }

-- The answer of the writer, by the length of the file or by the refusal.
abbrev pub written_answer : Result ℕ Refusal → Written
written_answer (Ok long) = written 0 long
written_answer (Err refusal) = written (refusal_number refusal) 0

-- 0 and the length of the file; or the refusal, and no length.
unfoldable pub written_as : Settings → Chosen → ℕ → Written
written_as g which room =
    let number = write_number g which room in
    cond (eqb number 0) (written 0 (length (file_of (chosen_pairs g which)))) (written number 0)

-- Q-5 2 to 4, Refusals 24: what the buffer holds after: the file and behind it what stood there; as it was where the call is refused.
unfoldable pub written_into : Settings → Chosen → List ℕ → List ℕ
written_into g which old =
    let file = file_of (chosen_pairs g which) in
    cond (eqb (write_number g which (length old)) 0) (file ++ drop (length file) old) old

-- Q-5 2 to 4: writing an edition 2 file of the chosen names into a buffer that held `old`.
pub record Writes (g : Settings) (which : Chosen) (old : List ℕ) (answer : Written) (new : List ℕ) : Type 0 where
  pub answers : answer ≡ written_as g which (length old)
  pub leaves : new ≡ written_into g which old
