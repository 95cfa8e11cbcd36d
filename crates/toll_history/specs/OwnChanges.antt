-- The owners whose rows changes put.
use Rattle.std.specs.Prelude.{◌≡◌, Bool, true, false, ◌&&◌, ◌||◌, List, [], ◌∷◌}
use Rattle.toll_history.specs.Common.{Bytes, same_bytes, house_name, Change, Put, Move, Actual}
use Rattle.toll_base.specs.declared.rows.Row.TheVariants.{Sublot}

-- whether the change puts a row of this owner
abbrev pub is_put_of : Bytes → Change → Bool
is_put_of o (Put p row) = same_bytes p o
is_put_of o _ = false

-- whether the change puts the sublot of HOUSE with this lot and this name
abbrev pub is_put_in_house : Bytes × Bytes → Change → Bool
is_put_in_house k (Put p (Sublot row)) = same_bytes p house_name && same_bytes row.lot k.0 && same_bytes row.sublot k.1
is_put_in_house k _ = false

-- the lot and the sublot that an actual names
abbrev pub sublot_named : Move → Bytes × Bytes
sublot_named (Actual order number segment role material lot sublot) = (lot.lot, sublot)
sublot_named _ = ([], [])

-- Each change passes the test.
abbrev pub EachChange : (Change → Bool) → List Change → Type 0
EachChange such [] = Unit {0}
EachChange such (change ∷ changes) = (such change ≡ true) × EachChange such changes

-- Each of the changes puts a row of this owner: none adds an owner or a unit.
abbrev pub PutsOnly : Bytes → List Change → Type 0
PutsOnly o changes = EachChange (is_put_of o) changes

-- Each of the changes puts a row of this owner, or this sublot of HOUSE.
abbrev pub PutsOnlyWith : Bytes → Bytes × Bytes → List Change → Type 0
PutsOnlyWith o k changes = EachChange (λ change. is_put_of o change || is_put_in_house k change) changes
