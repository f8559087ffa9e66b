-- `has_two_characters` meets its contract.
-- Assumes nothing.
use mathlib.Core.Path.{◌≡◌}
use Prim.Native.Nat.{◌/◌, ◌%◌}
use native.Mathlib.Omega.{arith}
use Rattle.program.specs.Names.{word_character}
use Rattle.program.proofs.Keys.{two_bytes}
use Rattle.program.proofs.names.has_two_characters.Goals as goal

pub returns : goal.returns
unfolding word_character
returns c =
    let high : c.args.key / 256 % 256 ≡ c.args.key / 256 = omega arith in
    rw (c.is_letter.ensures, c.is_letter-2.ensures, c.is_digit.ensures, c.to_le_bytes.ensures, high) (two_bytes c.args.key)
