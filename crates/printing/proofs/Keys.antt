-- The key of a variable's name, where the name is the paper's and where it is that of a record.
-- Assumes nothing.
use mathlib.Core.Path.{◌≡◌, refl}
use mathlib.Core.List.{List, []}
use Prim.Native.Nat.{ℕ, ◌-◌, ◌≤◌, ◌<◌}
use borrow.Author.Tests.{lt-ltb, le-ltb}
use lib.ListN.{get_or}
use Rattle.numbers.specs.Bytes.{field}
use Rattle.program.specs.Names.{variable_names}
use Rattle.program.specs.Code.{key}
use Rattle.image.specs.Layout.{variable_place, name_at}
use Rattle.printing.specs.Listing.{variable_name}

pub paper_key : (s : List ℕ) (v : ℕ) → v < 32 → key (get_or variable_names (v - 1) []) ≡ key (variable_name s v)
unfolding variable_name
paper_key s v h = rw (lt-ltb v 32 h) refl

pub record_key : (s : List ℕ) (v : ℕ) → 32 ≤ v → field 2 (variable_place s (v - 32)) s ≡ key (variable_name s v)
unfolding variable_name name_at field key
record_key s v h = rw (le-ltb v 32 h) refl
