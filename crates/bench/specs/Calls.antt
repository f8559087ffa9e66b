-- What each public call promises, with no condition in front: one equation for its whole answer, and one for each lent buffer as it returns.
-- Assumes nothing.
use Rattle.std.specs.Prelude.{◌≡◌, List, ℕ, length}
use Rattle.bench.specs.Translating.{translated, translated_into}
use Rattle.bench.specs.Listings.{listed_as, listed_into}
use Rattle.bench.specs.Running.{checked_as, ran, ran_into}
use Rattle.bench.specs.declared.Translated.{Translated}
use Rattle.bench.specs.declared.Checked.{Checked}
use Rattle.bench.specs.declared.Listed.{Listed}
use Rattle.bench.specs.declared.Ran.{Ran}

-- Refusals 20 to 25: translating a text into a buffer that held `old`.
pub record Translates (text old : List ℕ) (answer : Translated) (new : List ℕ) : Type 0 where
  pub answers : answer ≡ translated text (length old)
  pub leaves : new ≡ translated_into text old

-- Refusals 23, Refusals 25: checking an image.
pub record Checks (image : List ℕ) (answer : Checked) : Type 0 where
  pub answers : answer ≡ checked_as image

-- Q-1 2, Q-1 4: listing an image into a buffer that held `old`.
pub record Lists (image old : List ℕ) (answer : Listed) (new : List ℕ) : Type 0 where
  pub answers : answer ≡ listed_as image (length old)
  pub leaves : new ≡ listed_into image old

-- Events 7, Events 8, Refusals 23 to 25: running an image on a script, with a budget of turns and a record buffer that held `old`.
pub record Runs (image script : List ℕ) (budget : ℕ) (old : List ℕ) (answer : Ran) (new : List ℕ) : Type 0 where
  pub answers : answer ≡ ran image script budget (length old)
  pub leaves : new ≡ ran_into image script budget old
