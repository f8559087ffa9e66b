-- `places_of` meets its contract: each place is told.
-- Assumes nothing.
use mathlib.Core.Path.{◌≡◌, sym, ◌∙◌}
use mathlib.Core.List.{map}
use native.Mathlib.Omega.{arith}
use borrow.Author.Rules.{rules}
use lib.ListN.{length, length-map, get_or-map}
use lib.Seq.{ext_get_or}
use Rattle.machine.specs.declared.Place.{Place}
use Rattle.numbers.proofs.Kit.{length_held}
use Rattle.bench.specs.Answers.{state_place_of}
use Rattle.bench.proofs.answers.places_of.Goals as goal

-- What is read past the end.
abbrev none : Place
none = record { cell = 0; handler = 0 }

pub returns : goal.returns
returns c =
    let m = c.map.ensures.items in
    let n : length c.args.places.all ≡ 8 = search (rules, length_held) in
    let s = m.long in
    ext_get_or (state_place_of none) c.map.result (map state_place_of c.args.places.all) (s ∙ sym (length-map c.args.places.all state_place_of ∙ n))
    (λ j k. let a = m.at j none (state_place_of none) (omega arith) in (search rules) ∙ sym (get_or-map state_place_of c.args.places.all j none))
