-- Rows as the tables have them: the cells after the rowid.
use Rattle.std.specs.Prelude.{ℕ, pos, Bool, true, false, [], ◌∷◌, codes}
use Rattle.toll_sql.specs.Common.{Row, Int, Text, Bytes, LotId, Origin, Receipts, Batch as OfBatch, Move, Receive, Split, Ship, Scrap, Actual, MoveRow, Role, BatchRow, LotRow, MaterialRow, OrderRow, OwnerRow, RecipeRow, RequirementRow, ResultRow, SublotRow, TestRow, UnitRow, VoidRow}
use Rattle.toll_base.specs.Roles.{role_number}
use Rattle.toll_base.specs.declared.lot.Disposition.{Disposition}
use Rattle.toll_base.specs.declared.lot.Disposition.TheVariants.{Quarantined, Released, Rejected}
use Rattle.toll_base.specs.declared.role.Role.TheVariants.{Consumed, Produced}
use Rattle.toll_base.specs.declared.state.State.{State}
use Rattle.toll_base.specs.declared.state.State.TheVariants.{Idle, Running, Pausing, Paused, Holding, Held, Restarting, Stopping, Stopped, Aborting, Aborted, Complete}

-- ---- values that are numbers in the tables

abbrev pub flag : Bool → ℕ
flag false = 0
flag true = 1

abbrev pub disposition_number : Disposition → ℕ
disposition_number Quarantined = 0
disposition_number Released = 1
disposition_number Rejected = 2

abbrev pub state_number : State → ℕ
state_number Idle = 0
state_number Running = 1
state_number Pausing = 2
state_number Paused = 3
state_number Holding = 4
state_number Held = 5
state_number Restarting = 6
state_number Stopping = 7
state_number Stopped = 8
state_number Aborting = 9
state_number Aborted = 10
state_number Complete = 11

-- ---- parts that some rows don't have: `''` and 0 in their place

abbrev pub origin_order : Origin → Bytes
origin_order Receipts = []
origin_order (OfBatch order number) = order

abbrev pub origin_number : Origin → ℕ
origin_number Receipts = 0
origin_number (OfBatch order number) = number

abbrev pub actual_kind : Role → ℕ
actual_kind Consumed = 4
actual_kind Produced = 5

abbrev pub kind_number : Move → ℕ
kind_number (Receive material lot sublot) = 0
kind_number (Split lot sublot target) = 1
kind_number (Ship lot sublot) = 2
kind_number (Scrap lot sublot) = 3
kind_number (Actual order number segment role material lot sublot) = actual_kind role

-- the lot of a movement; it is the owner's, except for an actual
abbrev pub move_lot : Bytes → Move → LotId
move_lot o (Receive material lot sublot) = record { owner = o; lot = lot }
move_lot o (Split lot sublot target) = record { owner = o; lot = lot }
move_lot o (Ship lot sublot) = record { owner = o; lot = lot }
move_lot o (Scrap lot sublot) = record { owner = o; lot = lot }
move_lot o (Actual order number segment role material lot sublot) = lot

abbrev pub move_sublot : Move → Bytes
move_sublot (Receive material lot sublot) = sublot
move_sublot (Split lot sublot target) = sublot
move_sublot (Ship lot sublot) = sublot
move_sublot (Scrap lot sublot) = sublot
move_sublot (Actual order number segment role material lot sublot) = sublot

abbrev pub move_target : Move → Bytes
move_target (Split lot sublot target) = target
move_target _ = []

abbrev pub move_material : Move → Bytes
move_material (Receive material lot sublot) = material
move_material (Actual order number segment role material lot sublot) = material
move_material _ = []

abbrev pub move_order : Move → Bytes
move_order (Actual order number segment role material lot sublot) = order
move_order _ = []

abbrev pub move_number : Move → ℕ
move_number (Actual order number segment role material lot sublot) = number
move_number _ = 0

abbrev pub move_segment : Move → ℕ
move_segment (Actual order number segment role material lot sublot) = segment
move_segment _ = 0

-- ---- rows

abbrev pub meta_cells : ℕ → Row
meta_cells version = Text (codes "toll") ∷ Int (pos version) ∷ []

abbrev pub owner_cells : OwnerRow → Row
owner_cells row = Text row.owner ∷ Text row.key ∷ []

abbrev pub unit_cells : UnitRow → Row
unit_cells row = Text row.unit ∷ []

abbrev pub material_cells : Bytes → MaterialRow → Row
material_cells o row = Text o ∷ Text row.material ∷ Text row.measure ∷ []

abbrev pub test_cells : Bytes → TestRow → Row
test_cells o row = Text o ∷ Text row.material ∷ Text row.test ∷ Int row.limits.low ∷ Int row.limits.high ∷ []

abbrev pub recipe_cells : Bytes → RecipeRow → Row
recipe_cells o row = Text o ∷ Text row.recipe ∷ Int (pos row.segments) ∷ []

abbrev pub requirement_cells : Bytes → RequirementRow → Row
requirement_cells o row = Text o ∷ Text row.recipe ∷ Int (pos row.segment) ∷ Int (pos (role_number row.role)) ∷ Text row.source ∷ Text row.material ∷ Int (pos row.amount) ∷ []

abbrev pub order_cells : Bytes → OrderRow → Row
order_cells o row = Text o ∷ Text row.order ∷ Text row.recipe ∷ Int (pos row.batches) ∷ Int (pos (flag row.cancelled)) ∷ []

abbrev pub batch_cells : Bytes → BatchRow → Row
batch_cells o row = Text o ∷ Text row.order ∷ Int (pos row.number) ∷ Text row.unit ∷ Int (pos (state_number row.state)) ∷ Int (pos (flag row.closed)) ∷ []

abbrev pub lot_cells : Bytes → LotRow → Row
lot_cells o row = Text o ∷ Text row.lot ∷ Text row.material ∷ Text (origin_order row.origin) ∷ Int (pos (origin_number row.origin)) ∷ Int (pos (disposition_number row.disposition)) ∷ []

abbrev pub sublot_cells : Bytes → SublotRow → Row
sublot_cells o row = Text o ∷ Text row.lot ∷ Text row.sublot ∷ Int (pos row.amount) ∷ []

abbrev pub move_cells : Bytes → MoveRow → Row
move_cells o row =
    Text o ∷ Text row.key ∷ Int (pos (kind_number row.what)) ∷ Text (move_lot o row.what).owner ∷ Text (move_lot o row.what).lot ∷ Text (move_sublot row.what) ∷ Text (move_target row.what) ∷ Text (move_material row.what) ∷ Text (move_order row.what)
    ∷ Int (pos (move_number row.what)) ∷ Int (pos (move_segment row.what)) ∷ Int (pos row.amount) ∷ Int (pos row.day) ∷ []

abbrev pub result_cells : Bytes → ResultRow → Row
result_cells o row = Text o ∷ Text row.lot ∷ Text row.test ∷ Int (pos row.number) ∷ Int row.value ∷ Int (pos row.day) ∷ []

abbrev pub void_cells : Bytes → VoidRow → Row
void_cells o row = Text o ∷ Text row.key ∷ []
