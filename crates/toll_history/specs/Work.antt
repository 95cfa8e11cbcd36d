-- Materials, tests, recipes, orders and batches of one owner, by the owner's own actions.
use Rattle.std.specs.Prelude.{ℕ, ◌+◌, Bool, false, ◌&&◌, ◌==◌, if◌then◌else◌, Option, Some, None, is_some, List, [], ◌∷◌}
use Rattle.toll_history.specs.Common.{placed_row, list_any, option_map, option_map_or, Bytes, same_bytes, RequirementKey, requirement_cmp, count, first_some, where_so, or_else, followed, State, MaterialRow, TestRow, RecipeRow, RequirementRow, OrderRow, BatchRow}
use Rattle.std.specs.Ordering.{is_eq}
use Rattle.toll_history.specs.Command.{Action, AddMaterial, AddTest, AddRecipe, Require, PlaceOrder, CancelOrder, OpenBatch, CommandBatch, CloseBatch}
use Rattle.toll_base.specs.declared.state.State.TheVariants.{Idle}

-- the row that was added and passes the test, of those that actions add
abbrev pub added_row : {R : Type 0} → (Action → Option R) → (R → Bool) → List Action → Option R
added_row added passes own = first_some (λ a. elim (added a) [ Some row ↦ where_so (passes row) row | None ↦ None ]) own

-- how many were added
abbrev pub count_added : {R : Type 0} → (Action → Option R) → List Action → ℕ
count_added added own = count (λ a. is_some (added a)) own

-- ---- materials and tests (IEC 62264-2, material definitions and test specifications)

abbrev pub material_added : Action → Option MaterialRow
material_added (AddMaterial row) = Some row
material_added _ = None

-- the material with this name
abbrev pub material_of : List Action → Bytes → Option MaterialRow
material_of own m = added_row material_added (λ row. same_bytes m row.material) own

-- the measure of the material
abbrev pub measure_of : List Action → Bytes → Bytes
measure_of own m = option_map_or (λ row. row.measure) (material_of own m) []

abbrev pub count_materials : List Action → ℕ
count_materials own = count_added material_added own

abbrev pub test_added : Action → Option TestRow
test_added (AddTest row) = Some row
test_added _ = None

-- the test of the material
abbrev pub test_of : List Action → Bytes × Bytes → Option TestRow
test_of own k = added_row test_added (λ row. same_bytes k.0 row.material && same_bytes k.1 row.test) own

abbrev pub count_tests : List Action → ℕ
count_tests own = count_added test_added own

-- ---- recipes and their requirements (IEC 62264-2, operations definitions and operations material specifications)

abbrev pub recipe_added : Action → Option RecipeRow
recipe_added (AddRecipe row) = Some row
recipe_added _ = None

abbrev pub recipe_of : List Action → Bytes → Option RecipeRow
recipe_of own r = added_row recipe_added (λ row. same_bytes r row.recipe) own

abbrev pub count_recipes : List Action → ℕ
count_recipes own = count_added recipe_added own

abbrev pub required : Action → Option RequirementRow
required (Require row) = Some row
required _ = None

-- whether the two keys of requirements are equal
abbrev pub same_requirement : RequirementKey → RequirementKey → Bool
same_requirement a b = is_eq (requirement_cmp a b)

abbrev pub requirement_of : List Action → RequirementKey → Option RequirementRow
requirement_of own k = added_row required (λ row. same_requirement k (row.recipe, row.segment, row.role, row.source, row.material)) own

abbrev pub count_requirements : List Action → ℕ
count_requirements own = count_added required own

-- ---- orders (IEC 62264-2, operations requests)

abbrev pub order_placed : Action → Option OrderRow
order_placed (PlaceOrder placing) = Some (placed_row placing)
order_placed _ = None

abbrev pub cancels : Bytes → Action → Bool
cancels order (CancelOrder o) = same_bytes o order
cancels order _ = false

-- the order with this name, as it was placed and cancelled
abbrev pub order_of : List Action → Bytes → Option OrderRow
order_of own order =
    option_map {T = OrderRow} (λ row. record row { cancelled = list_any (cancels order) own })
    (added_row order_placed (λ row. same_bytes order row.order) own)

abbrev pub count_orders : List Action → ℕ
count_orders own = count_added order_placed own

abbrev pub names_recipe : Bytes → Action → Bool
names_recipe recipe (PlaceOrder placing) = same_bytes placing.recipe recipe
names_recipe recipe _ = false

-- whether an order names the recipe, cancelled or not
abbrev pub recipe_used : List Action → Bytes → Bool
recipe_used own recipe = list_any (names_recipe recipe) own

-- ---- batches (IEC 62264-4, job orders)

abbrev pub opens : Bytes → Action → Bool
opens order (OpenBatch o unit) = same_bytes o order
opens order _ = false

-- how many batches of the order were opened
abbrev pub count_opened : List Action → Bytes → ℕ
count_opened own order = count (opens order) own

abbrev pub unit_opened : Action → Option Bytes
unit_opened (OpenBatch o unit) = Some unit
unit_opened _ = None

-- the unit of the batch, which is the opening of the order with this number
abbrev pub unit_of : List Action → Bytes → ℕ → Option Bytes
unit_of [] order number = None
unit_of (a ∷ own) order number = or_else (if opens order a && count_opened own order + 1 == number then unit_opened a else None) (unit_of own order number)

-- the state of a batch, from idle along the commands to it
abbrev pub state_of : List Action → Bytes → ℕ → State
state_of [] order number = Idle
state_of (CommandBatch o n command ∷ own) order number = if same_bytes o order && n == number then followed (state_of own order number) command else state_of own order number
state_of (_ ∷ own) order number = state_of own order number

abbrev pub closes : Bytes → ℕ → Action → Bool
closes order number (CloseBatch o n) = same_bytes o order && n == number
closes order number _ = false

abbrev pub is_closed : List Action → Bytes → ℕ → Bool
is_closed own order number = list_any (closes order number) own

-- the batch with this order and number
abbrev pub batch_of : List Action → Bytes × ℕ → Option BatchRow
batch_of own k = option_map (λ unit. record { order = k.0; number = k.1; unit = unit; state = state_of own k.0 k.1; closed = is_closed own k.0 k.1 }) (unit_of own k.0 k.1)
