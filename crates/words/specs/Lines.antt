-- The lines of the table of words.
-- Assumes nothing.
use Rattle.std.specs.Prelude.{◌≡◌, ℕ, ◌*◌, ◌-◌, List, ◌++◌, codes, cond, ◌&&◌, leb}
use Rattle.std.specs.Str.Parse.{digits_value, without_leading_plus}
use Rattle.words.specs.declared.Kind.{Kind}
use Rattle.words.specs.declared.Kind.TheVariants.{Refusal, Error, End, Hint, Script, Usage, Command, Event, Record, Motion, Part, Sample, Difference}

-- What a line of a kind begins with.
unfoldable pub head : Kind → List ℕ
head Refusal = codes "refusal "
head Error = codes "error "
head End = codes "end "
head Hint = codes "hint "
head Script = codes "script "
head Usage = codes "usage "
head Command = codes "command "
head Event = codes "event "
head Record = codes "item "
head Motion = codes "axis "
head Part = codes "part "
head Sample = codes "such "
head Difference = codes "what "

-- A line for a number of a kind: its beginning, the number in digits, a colon and a space, and what it means.
unfoldable pub IsLine : Kind → ℕ → List ℕ → List ℕ → Type 0
IsLine kind number line meaning = (digits : List ℕ) × (line ≡ head kind ++ digits ++ codes ": " ++ meaning) × (digits_value 10 (without_leading_plus digits) ≡ number)

-- How many lines of the text on the tool's use tell of a command, and how many stand before these: a title, an empty line, and three for each
-- command before it.
unfoldable pub lines_told : ℕ → ℕ
lines_told command = cond (leb 1 command && leb command 9) 3 0

unfoldable pub lines_before : ℕ → ℕ
lines_before command = cond (leb 1 command && leb command 9) (3 * command - 1) 0
