-- The kinds of stored rows: the table of each, its cells, and which of its rows have valid values.
use Rattle.std.specs.Prelude.{List, [], map}
use Rattle.toll_sql.specs.Common.{AllByRecursion, Row, Bytes, Slice, BatchRow, LotRow, MaterialRow, MoveRow, OrderRow, OwnerRow, RecipeRow, RequirementRow, ResultRow, SublotRow, TestRow, UnitRow, VoidRow}
use Rattle.toll_base.specs.declared.rows.Row.{Row as OfficeRow}
use Rattle.toll_base.specs.declared.rows.Row.TheVariants as of
use Rattle.toll_sql.specs.Encode.{owner_cells, unit_cells, material_cells, test_cells, recipe_cells, requirement_cells, order_cells, batch_cells, lot_cells, sublot_cells, move_cells, result_cells, void_cells}
use Rattle.toll_sql.specs.Valid.{IsOwner, IsUnit, IsMaterial, IsTest, IsRecipe, IsRequirement, IsOrder, IsBatch, IsLot, IsSublot, IsMovement, IsResult, IsVoid}
use Rattle.toll_sql.specs.declared.table_kind.TableKind.{TableKind}
use Rattle.toll_sql.specs.declared.table_kind.TableKind.TheVariants.{Owners, Units, Materials, Tests, Recipes, Requirements, Orders, Batches, Lots, Sublots, Moves, Results, Voids}

-- A kind of rows of the plant, which aren't divided by owner.
pub record PlantKind (X : Type 0) : Type 1 where
  pub table : TableKind
  pub cells : X → Row
  pub is_valid : X → Type 0

abbrev pub owner_kind : PlantKind OwnerRow
owner_kind = record { table = Owners; cells = owner_cells; is_valid = IsOwner }

abbrev pub unit_kind : PlantKind UnitRow
unit_kind = record { table = Units; cells = unit_cells; is_valid = IsUnit }

-- A kind of rows that owners have.
pub record RowKind (X : Type 0) : Type 1 where
  pub table : TableKind
  -- the cells of an owner's row
  pub cells : Bytes → X → Row
  pub is_valid : X → Type 0
  -- the row, whatever its kind
  pub any_row : X → OfficeRow
  -- the rows of this kind
  pub listed : Slice → List X

abbrev pub material_kind : RowKind MaterialRow
material_kind = record { table = Materials; cells = material_cells; is_valid = IsMaterial; any_row = λ row. of.Material row; listed = λ s. s.materials }

abbrev pub test_kind : RowKind TestRow
test_kind = record { table = Tests; cells = test_cells; is_valid = IsTest; any_row = λ row. of.Test row; listed = λ s. s.tests }

abbrev pub recipe_kind : RowKind RecipeRow
recipe_kind = record { table = Recipes; cells = recipe_cells; is_valid = IsRecipe; any_row = λ row. of.Recipe row; listed = λ s. s.recipes }

abbrev pub requirement_kind : RowKind RequirementRow
requirement_kind = record { table = Requirements; cells = requirement_cells; is_valid = IsRequirement; any_row = λ row. of.Requirement row; listed = λ s. s.requirements }

abbrev pub order_kind : RowKind OrderRow
order_kind = record { table = Orders; cells = order_cells; is_valid = IsOrder; any_row = λ row. of.Order row; listed = λ s. s.orders }

abbrev pub batch_kind : RowKind BatchRow
batch_kind = record { table = Batches; cells = batch_cells; is_valid = IsBatch; any_row = λ row. of.Batch row; listed = λ s. s.batches }

abbrev pub lot_kind : RowKind LotRow
lot_kind = record { table = Lots; cells = lot_cells; is_valid = IsLot; any_row = λ row. of.Lot row; listed = λ s. s.lots }

abbrev pub sublot_kind : RowKind SublotRow
sublot_kind = record { table = Sublots; cells = sublot_cells; is_valid = IsSublot; any_row = λ row. of.Sublot row; listed = λ s. s.sublots }

abbrev pub move_kind : RowKind MoveRow
move_kind = record { table = Moves; cells = move_cells; is_valid = IsMovement; any_row = λ row. of.Move row; listed = λ s. s.moves }

abbrev pub result_kind : RowKind ResultRow
result_kind = record { table = Results; cells = result_cells; is_valid = IsResult; any_row = λ row. of.Result row; listed = λ s. s.results }

abbrev pub void_kind : RowKind VoidRow
void_kind = record { table = Voids; cells = void_cells; is_valid = IsVoid; any_row = λ row. of.Void row; listed = λ s. s.voids }

-- what f gives for the kind of the row
abbrev pub of_row {ℓ} : {R : Type ℓ} → ((X : Type 0) → RowKind X → X → R) → OfficeRow → R
of_row f (of.Material row) = f MaterialRow material_kind row
of_row f (of.Test row) = f TestRow test_kind row
of_row f (of.Recipe row) = f RecipeRow recipe_kind row
of_row f (of.Requirement row) = f RequirementRow requirement_kind row
of_row f (of.Order row) = f OrderRow order_kind row
of_row f (of.Batch row) = f BatchRow batch_kind row
of_row f (of.Lot row) = f LotRow lot_kind row
of_row f (of.Sublot row) = f SublotRow sublot_kind row
of_row f (of.Move row) = f MoveRow move_kind row
of_row f (of.Result row) = f ResultRow result_kind row
of_row f (of.Void row) = f VoidRow void_kind row

-- what f gives for the kind of the table's rows, if they belong to owners
abbrev pub of_table {ℓ} : {R : Type ℓ} → ((X : Type 0) → RowKind X → R) → R → TableKind → R
of_table f other Materials = f MaterialRow material_kind
of_table f other Tests = f TestRow test_kind
of_table f other Recipes = f RecipeRow recipe_kind
of_table f other Requirements = f RequirementRow requirement_kind
of_table f other Orders = f OrderRow order_kind
of_table f other Batches = f BatchRow batch_kind
of_table f other Lots = f LotRow lot_kind
of_table f other Sublots = f SublotRow sublot_kind
of_table f other Moves = f MoveRow move_kind
of_table f other Results = f ResultRow result_kind
of_table f other Voids = f VoidRow void_kind
of_table f other _ = other

-- the table that has the row
abbrev pub table_for : OfficeRow → TableKind
table_for row = of_row (λ X kind x. kind.table) row

-- the cells of the row in its table
abbrev pub cells_for : Bytes → OfficeRow → Row
cells_for o row = of_row (λ X kind x. kind.cells o x) row

-- The row of an owner, of any kind, has valid values.
abbrev pub IsRow : OfficeRow → Type 0
IsRow row = of_row (λ X kind x. kind.is_valid x) row

-- the rows of a slice that belong in the table, in order
abbrev pub rows_for : TableKind → Slice → List Row
rows_for k s = of_table (λ X kind. map (kind.cells s.owner) (kind.listed s)) [] k

-- The rows of the slice that belong in the table have valid values.
abbrev pub AreValidIn : TableKind → Slice → Type 0
AreValidIn k s = of_table (λ X kind. AllByRecursion kind.is_valid (kind.listed s)) (Unit {0}) k
