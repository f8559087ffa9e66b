-- The four variables of a settings file are A, D, VI and VM of document 01, with its ranges and its values at the start, in figures.
-- Assumes nothing.
use mathlib.Core.Path.{◌≡◌, refl}
use lib.IntN.{pos}
use lib.ListN.{get_or}
use Rattle.numbers.specs.Bytes.{ascii}
use Rattle.program.specs.Variables.{from_to, by_number, user_variable, range_of}
use Rattle.settings.specs.Sets.{settings, own_range, fresh_settings}

-- The names that belong to the numbers.
pub four_names : ((get_or by_number 6 user_variable).name ≡ ascii "A") × ((get_or by_number 7 user_variable).name ≡ ascii "D")
    × ((get_or by_number 8 user_variable).name ≡ ascii "VI") × ((get_or by_number 9 user_variable).name ≡ ascii "VM")
four_names = (refl, refl, refl, refl)

-- What each may be, whatever stands beside it.
pub own_ranges : (own_range 6 ≡ from_to (pos 1) (pos 2147483647)) × (own_range 7 ≡ from_to (pos 1) (pos 2147483647))
    × (own_range 8 ≡ from_to (pos 1) (pos 2560000)) × (own_range 9 ≡ from_to (pos 1) (pos 2560000))
unfolding own_range range_of
own_ranges = (refl, refl, refl, refl)

-- What a fresh state has.
pub fresh_values : fresh_settings ≡ settings (pos 1000000) (pos 1000000) (pos 1000) (pos 768000)
unfolding fresh_settings
fresh_values = refl
