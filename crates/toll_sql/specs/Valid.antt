-- Rows with valid values.
use Rattle.std.specs.Prelude.{IsTrue, ℕ, ◌<◌, ◌^◌}
use Rattle.toll_sql.specs.Common.{is_name, is_owner_key, is_measure, IsAmount, IsDay, IsSegment, IsBatchNo, IsValue, LotId, Origin, Receipts, Batch as OfBatch, Move, Receive, Split, Ship, Scrap, Actual, MoveRow, BatchRow, LotRow, MaterialRow, OrderRow, OwnerRow, RecipeRow, RequirementRow, ResultRow, SublotRow, TestRow, UnitRow, VoidRow}

-- The number fits a column.
abbrev pub IsStorable : ℕ → Type 0
IsStorable n = n < 2 ^ 63

pub record IsOwner (row : OwnerRow) : Type 0 where
  pub owner : IsTrue (is_name row.owner)
  pub key : IsTrue (is_owner_key row.key)

abbrev pub IsUnit : UnitRow → Type 0
IsUnit row = IsTrue (is_name row.unit)

pub record IsMaterial (row : MaterialRow) : Type 0 where
  pub material : IsTrue (is_name row.material)
  pub measure : IsTrue (is_measure row.measure)

pub record IsTest (row : TestRow) : Type 0 where
  pub material : IsTrue (is_name row.material)
  pub test : IsTrue (is_name row.test)
  pub low : IsValue row.limits.low
  pub high : IsValue row.limits.high

pub record IsRecipe (row : RecipeRow) : Type 0 where
  pub recipe : IsTrue (is_name row.recipe)
  pub segments : IsSegment row.segments

pub record IsRequirement (row : RequirementRow) : Type 0 where
  pub recipe : IsTrue (is_name row.recipe)
  pub segment : IsSegment row.segment
  pub source : IsTrue (is_name row.source)
  pub material : IsTrue (is_name row.material)
  pub amount : IsAmount row.amount

pub record IsOrder (row : OrderRow) : Type 0 where
  pub order : IsTrue (is_name row.order)
  pub recipe : IsTrue (is_name row.recipe)
  pub batches : IsBatchNo row.batches

pub record IsBatch (row : BatchRow) : Type 0 where
  pub order : IsTrue (is_name row.order)
  pub number : IsBatchNo row.number
  pub unit : IsTrue (is_name row.unit)

abbrev pub IsOrigin : Origin → Type 0
IsOrigin Receipts = Unit {0}
IsOrigin (OfBatch order number) = IsTrue (is_name order) × IsBatchNo number

pub record IsLot (row : LotRow) : Type 0 where
  pub lot : IsTrue (is_name row.lot)
  pub material : IsTrue (is_name row.material)
  pub origin : IsOrigin row.origin

pub record IsSublot (row : SublotRow) : Type 0 where
  pub lot : IsTrue (is_name row.lot)
  pub sublot : IsTrue (is_name row.sublot)
  pub amount : IsStorable row.amount

abbrev pub IsLotId : LotId → Type 0
IsLotId lot = IsTrue (is_name lot.owner) × IsTrue (is_name lot.lot)

abbrev pub IsMove : Move → Type 0
IsMove (Receive material lot sublot) = IsTrue (is_name material) × IsTrue (is_name lot) × IsTrue (is_name sublot)
IsMove (Split lot sublot target) = IsTrue (is_name lot) × IsTrue (is_name sublot) × IsTrue (is_name target)
IsMove (Ship lot sublot) = IsTrue (is_name lot) × IsTrue (is_name sublot)
IsMove (Scrap lot sublot) = IsTrue (is_name lot) × IsTrue (is_name sublot)
IsMove (Actual order number segment role material lot sublot) = IsTrue (is_name order) × IsBatchNo number × IsSegment segment × IsTrue (is_name material) × IsLotId lot × IsTrue (is_name sublot)

pub record IsMovement (row : MoveRow) : Type 0 where
  pub key : IsTrue (is_name row.key)
  pub what : IsMove row.what
  pub amount : IsAmount row.amount
  pub day : IsDay row.day

pub record IsResult (row : ResultRow) : Type 0 where
  pub lot : IsTrue (is_name row.lot)
  pub test : IsTrue (is_name row.test)
  pub number : IsStorable row.number
  pub value : IsValue row.value
  pub day : IsDay row.day

abbrev pub IsVoid : VoidRow → Type 0
IsVoid row = IsTrue (is_name row.key)
