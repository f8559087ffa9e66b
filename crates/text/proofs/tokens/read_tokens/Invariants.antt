-- `read_tokens` meets its contract. The loop's invariant: reading on from here gives the whole; the present token has no more characters than were passed.
-- Assumes nothing.
use Prim.Native.Nat.{◌≤◌}
use lib.ListN.{drop}
use mathlib.Core.Path.{◌≡◌}
use Rattle.text.specs.Code.{Small, scan, no_tokens, no_word}
use Rattle.text.proofs.tokens.read_tokens.Given as goal

abbrev pub invariant-loop-i : goal.invariant-loop-i
invariant-loop-i l = (l.w.size ≤ l.i) × Small l.w.size l.w.value × (scan l.ts l.w (drop l.i l.l) ≡ scan no_tokens no_word l.l)
