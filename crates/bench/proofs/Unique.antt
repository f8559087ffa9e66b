-- Each call's promise decides its whole result: any two results that satisfy it on the same input are equal, the answer and the lent buffer, refused calls too (Tight 1 to 3).
-- Assumes nothing.
use mathlib.Core.Path.{◌≡◌, sym, ◌∙◌}
use mathlib.Core.List.{List}
use Prim.Native.Nat.{ℕ}
use Rattle.bench.specs.Calls.{Translates, Checks, Lists, Runs}
use Rattle.bench.specs.declared.Translated.{Translated}
use Rattle.bench.specs.declared.Checked.{Checked}
use Rattle.bench.specs.declared.Listed.{Listed}
use Rattle.bench.specs.declared.Ran.{Ran}

pub translates_one : (text before : List ℕ) (a b : Translated) (after later : List ℕ)
    → Translates text before a after → Translates text before b later → (a ≡ b) × (after ≡ later)
translates_one text before a b after later s t = (s.answers ∙ sym t.answers, s.leaves ∙ sym t.leaves)

pub checks_one : (s : List ℕ) (a b : Checked) → Checks s a → Checks s b → a ≡ b
checks_one s a b c d = c.answers ∙ sym d.answers

pub lists_one : (s before : List ℕ) (a b : Listed) (after later : List ℕ) → Lists s before a after → Lists s before b later → (a ≡ b) × (after ≡ later)
lists_one s before a b after later l m = (l.answers ∙ sym m.answers, l.leaves ∙ sym m.leaves)

pub runs_one : (s script : List ℕ) (budget : ℕ) (before : List ℕ) (a b : Ran) (after later : List ℕ)
    → Runs s script budget before a after → Runs s script budget before b later → (a ≡ b) × (after ≡ later)
runs_one s script budget before a b after later c d = (c.answers ∙ sym d.answers, c.leaves ∙ sym d.leaves)
