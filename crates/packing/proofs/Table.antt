-- The twelve rows hold: by computation.
use mathlib.Core.Path.{◌≡◌, refl}
use mathlib.Core.Bool.{true}
use Rattle.geometry.specs.Lists.{all, same}
use Rattle.geometry.specs.Bytes.{lay, padded}
use Rattle.geometry.specs.Places.{sectors_for, per_sector, shares, capacity, place_of}
use Rattle.coding.specs.Encode.{keeps, in_gap, run_length, run_code, runs_code, encode, code_of}
use Rattle.packing.specs.Placing.{fits_here, goes_to, behind_new, filled, changes}
use Rattle.packing.specs.Table.{codes, is_place, all_a, put_all, empty, table}

pub table-holds : all table ≡ true
unfolding all same lay padded sectors_for per_sector shares capacity place_of keeps in_gap run_length run_code runs_code encode code_of fits_here goes_to behind_new filled changes codes is_place all_a put_all empty table
table-holds = refl
