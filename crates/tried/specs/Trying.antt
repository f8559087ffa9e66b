-- Demand 3 as a promise of running code: what trying a text gives, by the text's own run alone.
-- Assumes nothing.
use Rattle.std.specs.Prelude.{◌≡◌, cond, List, ℕ, eqb, length}
use Rattle.numbers.specs.Tests.{lowest}
use Rattle.bench.specs.declared.Ran.{Ran}
use Rattle.bench.specs.Translating.{translated, translated_into}
use Rattle.bench.specs.Answers.{refused_as}
use Rattle.bench.specs.Running.{run_faults, refusal_index}
use Rattle.bench.specs.Following.{followed, followed_into}
use Rattle.tried.specs.declared.Tried.{Tried}

-- Refusals 16 to 19, Refusals 23: the lowest of 32 to 35 that holds; 0 where none does.
unfoldable pub script_refusal : List ℕ → ℕ → ℕ → ℕ
script_refusal script budget room = lowest 32 (run_faults script budget room)

-- Events 7, Refusals 23: a text that is accepted is followed, or its script, budget or buffer is refused; a text that is refused has no image, 21.
unfoldable pub tried_as : List ℕ → ℕ → List ℕ → ℕ → ℕ → Ran
tried_as text room script budget size =
    let n = script_refusal script budget size in
    cond (eqb (translated text room).number 0)
    (cond (eqb n 0) (followed text script budget) (refused_as n (refusal_index n script)))
    (refused_as 21 0)

-- Events 8, Refusals 24: the records of the text's run over what the buffer held; as it was where anything is refused.
unfoldable pub tried_into : List ℕ → ℕ → List ℕ → ℕ → List ℕ → List ℕ
tried_into text room script budget buffer =
    cond (eqb (translated text room).number 0)
    (cond (eqb (script_refusal script budget (length buffer)) 0) (followed_into text script budget buffer) buffer)
    buffer

-- Trying a text with an image buffer and a record buffer that held these.
pub record Tries (text room script : List ℕ) (budget : ℕ) (buffer : List ℕ) (answer : Tried) (image records : List ℕ) : Type 0 where
  pub translates : answer.translated ≡ translated text (length room)
  pub runs : answer.ran ≡ tried_as text (length room) script budget (length buffer)
  pub leaves_image : image ≡ translated_into text room
  pub leaves_records : records ≡ tried_into text (length room) script budget buffer
