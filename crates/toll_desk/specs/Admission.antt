-- Who is admitted, and what is checked of an owner and of a unit to be added.
use Rattle.std.specs.Prelude.{Bool, not, ◌&&◌, ◌||◌, nat_le, Some, is_some, List, [], ◌∷◌, length}
use Rattle.toll_desk.specs.Common.{Bytes, bytes_cmp, same_bytes, house_name, is_some_where, Checks}
use Rattle.toll_base.specs.Table.{row_at}
use Rattle.toll_base.specs.declared.capacity.TheConstants.{MOST_OWNERS, MOST_UNITS}
use Rattle.toll_base.specs.declared.refusal.Refusal.TheVariants.{OwnerExists, UnitExists, LimitReached}
use Rattle.toll_base.specs.declared.rows.OwnerRow.{OwnerRow}
use Rattle.toll_base.specs.declared.rows.UnitRow.{UnitRow}

-- one of these owners besides HOUSE has the name and the key
abbrev pub is_admitted : List OwnerRow → Bytes → Bytes → Bool
is_admitted rows o key = not (same_bytes o house_name) && is_some_where (λ row. same_bytes key row.key) (row_at bytes_cmp (λ row. row.owner) rows o)

-- the checks of an owner to be added, over those that were
abbrev pub owner_row_checks : List OwnerRow → OwnerRow → Checks
owner_row_checks rows row =
    (same_bytes row.owner house_name || is_some (row_at bytes_cmp (λ r. r.owner) rows row.owner), Some OwnerExists)
    ∷ (nat_le MOST_OWNERS (length rows), Some LimitReached)
    ∷ []

-- and of a unit
abbrev pub unit_row_checks : List UnitRow → UnitRow → Checks
unit_row_checks rows row =
    (is_some (row_at bytes_cmp (λ r. r.unit) rows row.unit), Some UnitExists)
    ∷ (nat_le MOST_UNITS (length rows), Some LimitReached)
    ∷ []
