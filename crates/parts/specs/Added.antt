-- What a text holds, and what is added to it.
-- Assumes nothing.
use Rattle.std.specs.Prelude.{ℕ, List, ◌++◌, take}
use Rattle.parts.specs.declared.Text.{Text}

-- The bytes that a text holds: those that are in use.
abbrev pub held_by : {room : ℕ} → Text room → List ℕ
held_by t = take t.held t.bytes

-- Bytes with more behind them: what there is no room for is left out.
unfoldable pub added : ℕ → List ℕ → List ℕ → List ℕ
added room held more = take room (held ++ more)
