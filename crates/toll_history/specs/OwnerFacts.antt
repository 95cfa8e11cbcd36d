-- An owner's tables: those that a history gives, and those of a slice.
use Rattle.std.specs.Prelude.{◌≡◌, ℕ, ℤ, Bool, ◌&&◌, Option, is_some, List, length}
use Rattle.toll_history.specs.Common.{lot_row_of, sublot_row_of, list_any, option_map, Bytes, same_bytes, RequirementKey, count, is_some_where, where_so, Slice, material_at, test_at, recipe_at, requirement_at, order_at, batch_at, lot_at, sublot_at, move_at, result_at, void_at, count_actuals, lot_id, MaterialRow, TestRow, RecipeRow, RequirementRow, OrderRow, BatchRow, SublotRow, MoveRow, ResultRow}
use Rattle.toll_history.specs.Command.{Action}
use Rattle.toll_history.specs.History.{History, acts}
use Rattle.toll_history.specs.Work.{material_of, count_materials, test_added, test_of, count_tests, recipe_of, count_recipes, recipe_used, requirement_of, count_requirements, order_of, count_orders, batch_of, count_opened}
use Rattle.toll_history.specs.Movements.{Made, lot_made, sublot_known, stock, movement_of, count_movements, voided_in, count_actuals_of, count_lots, count_sublots, material_used}
use Rattle.toll_history.specs.Dispositions.{disposition_of, result_of, latest_value, count_results, count_results_of}
use Rattle.toll_base.specs.declared.rows.LotRow.{LotRow}

-- an owner's tables: what each has at a key, how many rows it has, and the few other facts that decisions need
pub record OwnerFacts : Type 0 where
  pub material : Bytes → Option MaterialRow
  pub materials : ℕ
  pub test : Bytes × Bytes → Option TestRow
  pub tests : ℕ
  pub recipe : Bytes → Option RecipeRow
  pub recipes : ℕ
  pub requirement : RequirementKey → Option RequirementRow
  pub requirements : ℕ
  pub order : Bytes → Option OrderRow
  pub orders : ℕ
  pub batch : Bytes × ℕ → Option BatchRow
  pub lot : Bytes → Option LotRow
  pub lots : ℕ
  pub sublot : Bytes × Bytes → Option SublotRow
  pub sublots : ℕ
  pub movement : Bytes → Option MoveRow
  pub movements : ℕ
  pub result : Bytes × Bytes × ℕ → Option ResultRow
  pub results : ℕ
  pub voided : Bytes → Bool
  -- how many batches of the order there are, and how many actuals of the batch
  pub opened : Bytes → ℕ
  pub actuals : Bytes → ℕ → ℕ
  -- how many results of the lot's test there are, and the value of the latest
  pub results_of : (lot test : Bytes) → ℕ
  pub latest : (lot test : Bytes) → Option ℤ
  -- whether an order names the recipe; whether a lot is of the material; whether some test meets this condition
  pub recipe_used : Bytes → Bool
  pub material_used : Bytes → Bool
  pub any_test : (TestRow → Bool) → Bool

-- ---- as a history gives them

-- the lot that first came in so, with the disposition that these actions of its owner give it
abbrev pub lot_row_made : List Action → Bytes → Made → LotRow
lot_row_made own l made = lot_row_of l made.material made.origin (disposition_of own made.material l)

-- a lot of the owner: by its first movement, and its disposition
abbrev pub lot_row : History → Bytes → Bytes → Option LotRow
lot_row H o l = option_map (lot_row_made (acts o H) l) (lot_made H (lot_id o l))

-- a sublot of the owner, and its stock
abbrev pub sublot_row : History → Bytes → Bytes × Bytes → Option SublotRow
sublot_row H o k = where_so (sublot_known H (lot_id o k.0) k.1) (sublot_row_of k.0 k.1 (stock H (lot_id o k.0) k.1))

-- the tables that a history gives to an owner
abbrev pub facts_given : History → Bytes → OwnerFacts
facts_given H o = record {
  material = material_of (acts o H);
  materials = count_materials (acts o H);
  test = test_of (acts o H);
  tests = count_tests (acts o H);
  recipe = recipe_of (acts o H);
  recipes = count_recipes (acts o H);
  requirement = requirement_of (acts o H);
  requirements = count_requirements (acts o H);
  order = order_of (acts o H);
  orders = count_orders (acts o H);
  batch = batch_of (acts o H);
  lot = lot_row H o;
  lots = count_lots H o;
  sublot = sublot_row H o;
  sublots = count_sublots H o;
  movement = movement_of (acts o H);
  movements = count_movements (acts o H);
  result = result_of (acts o H);
  results = count_results (acts o H);
  voided = voided_in (acts o H);
  opened = count_opened (acts o H);
  actuals = count_actuals_of (acts o H);
  results_of = count_results_of (acts o H);
  latest = latest_value (acts o H);
  recipe_used = recipe_used (acts o H);
  material_used = material_used H o;
  any_test = λ such. list_any (λ a. is_some_where such (test_added a)) (acts o H);
}

-- a sublot, and tables, with the amounts left out
abbrev pub without_amount : Option SublotRow → Option SublotRow
without_amount row = option_map {T = SublotRow} (λ row. record row { amount = 0 }) row

abbrev pub without_amounts : OwnerFacts → OwnerFacts
without_amounts t = record t { sublot = λ k. without_amount (t.sublot k) }

-- ---- as a slice has them

-- the number of the latest result of the lot's test, which is how many there are
abbrev pub count_results_in : Slice → Bytes → Bytes → ℕ
count_results_in s lot test = count (λ row. same_bytes row.lot lot && same_bytes row.test test) s.results

-- the value of the latest result of the lot's test
abbrev pub latest_in : Slice → Bytes → Bytes → Option ℤ
latest_in s lot test = option_map (λ row. row.value) (result_at s (lot, test, count_results_in s lot test))

-- the tables of a slice
abbrev pub facts_of : Slice → OwnerFacts
facts_of s = record {
  material = material_at s;
  materials = length s.materials;
  test = test_at s;
  tests = length s.tests;
  recipe = recipe_at s;
  recipes = length s.recipes;
  requirement = requirement_at s;
  requirements = length s.requirements;
  order = order_at s;
  orders = length s.orders;
  batch = batch_at s;
  lot = lot_at s;
  lots = length s.lots;
  sublot = sublot_at s;
  sublots = length s.sublots;
  movement = move_at s;
  movements = length s.moves;
  result = result_at s;
  results = length s.results;
  voided = λ key. is_some (void_at s key);
  opened = λ order. count (λ row. same_bytes row.order order) s.batches;
  actuals = λ order number. count_actuals order number s.moves;
  results_of = count_results_in s;
  latest = latest_in s;
  recipe_used = λ recipe. list_any (λ row. same_bytes row.recipe recipe) s.orders;
  material_used = λ material. list_any (λ row. same_bytes row.material material) s.lots;
  any_test = λ such. list_any such s.tests;
}

-- The slice has exactly the rows that the history gives to its owner.
abbrev pub IsRowsOf : History → Slice → Type 0
IsRowsOf H s = facts_of s ≡ facts_given H s.owner
