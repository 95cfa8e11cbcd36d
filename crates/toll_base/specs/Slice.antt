-- All rows of one owner.
use Rattle.std.specs.Prelude.{ℕ, Option, List, []}
use Rattle.std.specs.Option.{option_map_or}
use Rattle.toll_base.specs.Bytes.{Bytes, bytes_cmp}
use Rattle.toll_base.specs.Keys.{pair_cmp, batch_cmp, result_cmp, RequirementKey, requirement_cmp}
use Rattle.toll_base.specs.Table.{row_at, put_row}
use Rattle.toll_base.specs.declared.rows.MaterialRow.{MaterialRow}
use Rattle.toll_base.specs.declared.rows.TestRow.{TestRow}
use Rattle.toll_base.specs.declared.rows.RecipeRow.{RecipeRow}
use Rattle.toll_base.specs.declared.rows.RequirementRow.{RequirementRow}
use Rattle.toll_base.specs.declared.rows.OrderRow.{OrderRow}
use Rattle.toll_base.specs.declared.rows.BatchRow.{BatchRow}
use Rattle.toll_base.specs.declared.rows.LotRow.{LotRow}
use Rattle.toll_base.specs.declared.rows.SublotRow.{SublotRow}
use Rattle.toll_base.specs.declared.movement.MoveRow.{MoveRow}
use Rattle.toll_base.specs.declared.rows.ResultRow.{ResultRow}
use Rattle.toll_base.specs.declared.rows.VoidRow.{VoidRow}
use Rattle.toll_base.specs.declared.rows.Row.{Row}
use Rattle.toll_base.specs.declared.rows.Row.TheVariants.{Material, Test, Recipe, Requirement, Order, Batch, Lot, Sublot, Move, Result, Void}

-- the rows of one owner, each kind in the order of its keys
pub record Slice : Type 0 where
  pub owner : Bytes
  pub materials : List MaterialRow
  pub tests : List TestRow
  pub recipes : List RecipeRow
  pub requirements : List RequirementRow
  pub orders : List OrderRow
  pub batches : List BatchRow
  pub lots : List LotRow
  pub sublots : List SublotRow
  pub moves : List MoveRow
  pub results : List ResultRow
  pub voids : List VoidRow

-- no rows
abbrev pub empty_slice : Bytes → Slice
empty_slice o = record {
  owner = o;
  materials = [];
  tests = [];
  recipes = [];
  requirements = [];
  orders = [];
  batches = [];
  lots = [];
  sublots = [];
  moves = [];
  results = [];
  voids = [];
}

-- ---- the row with a key

abbrev pub material_at : Slice → Bytes → Option MaterialRow
material_at s k = row_at bytes_cmp (λ row. row.material) s.materials k

abbrev pub test_at : Slice → Bytes × Bytes → Option TestRow
test_at s k = row_at pair_cmp (λ row. (row.material, row.test)) s.tests k

abbrev pub recipe_at : Slice → Bytes → Option RecipeRow
recipe_at s k = row_at bytes_cmp (λ row. row.recipe) s.recipes k

abbrev pub requirement_at : Slice → RequirementKey → Option RequirementRow
requirement_at s k = row_at requirement_cmp (λ row. (row.recipe, row.segment, row.role, row.source, row.material)) s.requirements k

abbrev pub order_at : Slice → Bytes → Option OrderRow
order_at s k = row_at bytes_cmp (λ row. row.order) s.orders k

abbrev pub batch_at : Slice → Bytes × ℕ → Option BatchRow
batch_at s k = row_at batch_cmp (λ row. (row.order, row.number)) s.batches k

abbrev pub lot_at : Slice → Bytes → Option LotRow
lot_at s k = row_at bytes_cmp (λ row. row.lot) s.lots k

abbrev pub sublot_at : Slice → Bytes × Bytes → Option SublotRow
sublot_at s k = row_at pair_cmp (λ row. (row.lot, row.sublot)) s.sublots k

-- how much is in the sublot, 0 where there is none
abbrev pub amount_at : Slice → Bytes × Bytes → ℕ
amount_at s k = option_map_or (λ row. row.amount) (sublot_at s k) 0

abbrev pub move_at : Slice → Bytes → Option MoveRow
move_at s k = row_at bytes_cmp (λ row. row.key) s.moves k

abbrev pub result_at : Slice → Bytes × Bytes × ℕ → Option ResultRow
result_at s k = row_at result_cmp (λ row. (row.lot, row.test, row.number)) s.results k

abbrev pub void_at : Slice → Bytes → Option VoidRow
void_at s k = row_at bytes_cmp (λ row. row.key) s.voids k

-- the slice with this row added, or in place of the one with its key
abbrev pub with_row : Slice → Row → Slice
with_row s (Material row) = record s { materials = put_row bytes_cmp (λ row. row.material) s.materials row }
with_row s (Test row) = record s { tests = put_row pair_cmp (λ row. (row.material, row.test)) s.tests row }
with_row s (Recipe row) = record s { recipes = put_row bytes_cmp (λ row. row.recipe) s.recipes row }
with_row s (Requirement row) = record s { requirements = put_row requirement_cmp (λ row. (row.recipe, row.segment, row.role, row.source, row.material)) s.requirements row }
with_row s (Order row) = record s { orders = put_row bytes_cmp (λ row. row.order) s.orders row }
with_row s (Batch row) = record s { batches = put_row batch_cmp (λ row. (row.order, row.number)) s.batches row }
with_row s (Lot row) = record s { lots = put_row bytes_cmp (λ row. row.lot) s.lots row }
with_row s (Sublot row) = record s { sublots = put_row pair_cmp (λ row. (row.lot, row.sublot)) s.sublots row }
with_row s (Move row) = record s { moves = put_row bytes_cmp (λ row. row.key) s.moves row }
with_row s (Result row) = record s { results = put_row result_cmp (λ row. (row.lot, row.test, row.number)) s.results row }
with_row s (Void row) = record s { voids = put_row bytes_cmp (λ row. row.key) s.voids row }
