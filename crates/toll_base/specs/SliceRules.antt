-- The rules of a slice: its limits, and which rows need which others.
use Rattle.std.specs.Prelude.{◌≡◌, ℕ, ◌≤◌, Bool, true, false, ◌&&◌, ◌||◌, ◌==◌, nat_le, nat_lt, is_some, List, length}
use Rattle.toll_base.specs.Bytes.{Bytes, same_bytes, bytes_cmp}
use Rattle.toll_base.specs.Keys.{pair_cmp, result_cmp, requirement_cmp}
use Rattle.toll_base.specs.Table.{has_room}
use Rattle.toll_base.specs.Words.{count, is_some_where, none_or}
use Rattle.toll_base.specs.Slice.{Slice, material_at, lot_at, sublot_at, move_at}
use Rattle.toll_base.specs.declared.capacity.TheConstants.{MOST_ACTUALS, MOST_LOTS, MOST_MATERIALS, MOST_MOVEMENTS, MOST_ORDERS, MOST_RECIPES, MOST_REQUIREMENTS, MOST_RESULTS, MOST_STOCK, MOST_SUBLOTS, MOST_TESTS}
use Rattle.toll_base.specs.declared.movement.MoveRow.{MoveRow}
use Rattle.toll_base.specs.declared.rows.Row.{Row}
use Rattle.toll_base.specs.declared.rows.Row.TheVariants.{Material, Test, Recipe, Requirement, Order, Batch, Lot, Sublot, Move, Result, Void}
use Rattle.toll_base.specs.declared.movement.Move.{Move as Moved}
use Rattle.toll_base.specs.declared.movement.Move.TheVariants.{Actual}

abbrev pub is_actual : Moved → Bool
is_actual (Actual order number segment role material lot sublot) = true
is_actual _ = false

-- an actual of this batch
abbrev pub is_actual_of : Bytes → ℕ → Moved → Bool
is_actual_of order number (Actual o n segment role material lot sublot) = same_bytes order o && number == n
is_actual_of order number _ = false

-- how many actuals of the batch are among these movements
abbrev pub count_actuals : Bytes → ℕ → List MoveRow → ℕ
count_actuals order number moves = count (λ row. is_actual_of order number row.what) moves

-- at most so many rows of each limited kind, and of actuals of one batch; each lot's material and each sublot's lot are there
pub record KeepsRules (s : Slice) : Type 0 where
  pub materials : length s.materials ≤ MOST_MATERIALS
  pub tests : length s.tests ≤ MOST_TESTS
  pub recipes : length s.recipes ≤ MOST_RECIPES
  pub requirements : length s.requirements ≤ MOST_REQUIREMENTS
  pub orders : length s.orders ≤ MOST_ORDERS
  pub lots : length s.lots ≤ MOST_LOTS
  pub sublots : length s.sublots ≤ MOST_SUBLOTS
  pub moves : length s.moves ≤ MOST_MOVEMENTS
  pub results : length s.results ≤ MOST_RESULTS
  pub actuals : (order : Bytes) (number : ℕ) → count_actuals order number s.moves ≤ MOST_ACTUALS
  pub lot_materials : (k : Bytes) → none_or (λ row. is_some (material_at s row.material)) (lot_at s k) ≡ true
  pub amounts : (k : Bytes × Bytes) → none_or (λ row. nat_le row.amount MOST_STOCK) (sublot_at s k) ≡ true
  pub sublot_lots : (k : Bytes × Bytes) → none_or (λ row. is_some (lot_at s row.lot)) (sublot_at s k) ≡ true

-- ---- the test whether a slice keeps the rules with one row more

-- the batch of the movement has room for it, or has the one that it replaces
abbrev pub batch_has_room : Slice → Bytes → Moved → Bool
batch_has_room s key (Actual order number segment role material lot sublot) =
    nat_lt (count_actuals order number s.moves) MOST_ACTUALS || is_some_where (λ row. is_actual_of order number row.what) (move_at s key)
batch_has_room s key _ = true

abbrev pub row_fits : Slice → Row → Bool
row_fits s (Material row) = has_room bytes_cmp (λ row. row.material) MOST_MATERIALS s.materials row
row_fits s (Test row) = has_room pair_cmp (λ row. (row.material, row.test)) MOST_TESTS s.tests row
row_fits s (Recipe row) = has_room bytes_cmp (λ row. row.recipe) MOST_RECIPES s.recipes row
row_fits s (Requirement row) = has_room requirement_cmp (λ row. (row.recipe, row.segment, row.role, row.source, row.material)) MOST_REQUIREMENTS s.requirements row
row_fits s (Order row) = has_room bytes_cmp (λ row. row.order) MOST_ORDERS s.orders row
row_fits s (Batch row) = true
row_fits s (Lot row) = has_room bytes_cmp (λ row. row.lot) MOST_LOTS s.lots row && is_some (material_at s row.material)
row_fits s (Sublot row) = has_room pair_cmp (λ row. (row.lot, row.sublot)) MOST_SUBLOTS s.sublots row && nat_le row.amount MOST_STOCK && is_some (lot_at s row.lot)
row_fits s (Move row) = has_room bytes_cmp (λ row. row.key) MOST_MOVEMENTS s.moves row && batch_has_room s row.key row.what
row_fits s (Result row) = has_room result_cmp (λ row. (row.lot, row.test, row.number)) MOST_RESULTS s.results row
row_fits s (Void row) = true
