-- The plant's rows, which aren't divided by owner, in their tables.
use Rattle.std.specs.Prelude.{◌≡◌, List, map, Result, Err}
use Rattle.toll_sql.specs.Common.{AllByRecursion, Row, State, OwnerRow, UnitRow, KeepFault, Memory}
use Rattle.toll_sql.specs.Asking.{OverOurs}
use Rattle.toll_sql.specs.Cells.{columns_from}
use Rattle.toll_sql.specs.Holds.{HoldsAll}
use Rattle.toll_sql.specs.Kinds.{PlantKind, owner_kind, unit_kind}
use Rattle.toll_sql.specs.Shown.{FirstIs}
use Rattle.toll_sql.specs.StoredLaws.{AreStoredOfPlant}
use Rattle.toll_sql.specs.Schema.{width_of}

-- P holds of the rows that the table held, whatever other tables had.
abbrev pub ForAll : {X : Type 0} → PlantKind X → State → State → (List X → Type 0) → Type 0
ForAll {X} kind old new P = OverOurs old new (λ db. (l : List X) → HoldsAll kind db l → P l)

-- P holds of the owners, and of the units.
abbrev pub ForOwners : State → State → (List OwnerRow → Type 0) → Type 0
ForOwners = ForAll owner_kind

abbrev pub ForUnits : State → State → (List UnitRow → Type 0) → Type 0
ForUnits = ForAll unit_kind

-- P holds of the rows of this kind, if they belong in their table.
abbrev pub ForRows : {X : Type 0} → PlantKind X → State → State → (List X → Type 0) → Type 0
ForRows kind old new P = AreStoredOfPlant kind → ForAll kind old new P

-- P holds of the office's rows that have these cells.
abbrev pub ForCells : {X : Type 0} → PlantKind X → List Row → (List X → Type 0) → Type 0
ForCells {X} kind rows P = AreStoredOfPlant kind → (l : List X) → rows ≡ map kind.cells l → AllByRecursion kind.is_valid l → P l

-- The cells are those of a row of this kind, with valid values.
abbrev pub ShowsRow : {X : Type 0} → PlantKind X → Row → Type 0
ShowsRow {X} kind row = (x : X) × kind.is_valid x × (columns_from 0 (width_of kind.table) row ≡ kind.cells x)

-- If Memory is reported, there is a first row, and it is a row of this kind.
abbrev pub LacksAtRow : {X Y : Type 0} → PlantKind X → List Row → Result Y KeepFault → Type 0
LacksAtRow kind rows result = result ≡ Err Memory → FirstIs (ShowsRow kind) rows
