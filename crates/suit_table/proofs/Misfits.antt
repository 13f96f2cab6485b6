-- The first misfit of records is that of their fields (`misfit_of`).
use Rattle.std.proofs.Common.{◌≡◌, ℕ, suc, List, Option, map, refl}
use Rattle.std.specs.Prelude.{option_map, position}
use Rattle.csv.specs.Records.{Row, fields_of}
use Rattle.suit_lists.proofs.Indices.{position-map}
use Rattle.suit_table.specs.Records.{first_misfit, is_misfit}

pub misfit_of : (records : List Row) (found : Option ℕ)
    → found ≡ position (λ one. is_misfit (fields_of one)) records
    → option_map suc found ≡ first_misfit (map fields_of records)
misfit_of records found is = rw (is, position-map is_misfit fields_of records) refl
