-- The effect of a put row on a slice, table by table.
use Rattle.std.proofs.Common.{◌≡◌, inl, inr, sym, subst, Bool, true, false, cond, List, [], ◌∷◌, refl, Ordering}
use Rattle.toll_sql.proofs.Common.{nat_list_cmp_total, AllByRecursion, is_eq, is_lt, column, Text, Bytes, bytes_cmp, pair_cmp, batch_cmp, result_cmp, requirement_cmp, Slice, with_row, replace_row, insert_row, put_row, MoveRow, BatchRow, LotRow, MaterialRow, OrderRow, RecipeRow, RequirementRow, ResultRow, SublotRow, TestRow, VoidRow, pair_cmp_total, batch_cmp_total, result_cmp_total, requirement_cmp_total, place, Rises, key_order, table_for, cells_for, rows_for, material_cells, test_cells, recipe_cells, requirement_cells, order_cells, batch_cells, lot_cells, sublot_cells, move_cells, result_cells, void_cells, AreValidIn, IsRow, TableKind, Materials, Tests, Recipes, Requirements, Orders, Batches, Lots, Sublots, Moves, Results, Voids}
use Rattle.toll_base.specs.declared.rows.Row.{Row as OfficeRow}
use Rattle.toll_base.specs.declared.rows.Row.TheVariants as of
use Rattle.toll_sql.proofs.Orders.{materials_order, tests_order, recipes_order, requirements_order, orders_order, batches_order, lots_order, sublots_order, moves_order, results_order, voids_order}
use Rattle.toll_sql.proofs.Placing.{put_placed}
use Rattle.toll_sql.proofs.PutTexts.{table_number, same_table}

-- The first cell is the row's owner.
pub owner_first : (o : Bytes) (row : OfficeRow) → column (cells_for o row) 0 ≡ Text o
owner_first o (of.Material row) = refl
owner_first o _ = refl

-- In its table, the row is placed among the others.
pub row_placed : (s : Slice) (row : OfficeRow) → Rises (key_order (table_for row)) (rows_for (table_for row) s)
    → rows_for (table_for row) (with_row s row) ≡ place (key_order (table_for row)) (cells_for s.owner row) (rows_for (table_for row) s)
row_placed s (of.Material x) rises = put_placed bytes_cmp nat_list_cmp_total (λ (row : MaterialRow). row.material) (material_cells s.owner) (key_order Materials) (materials_order s.owner) x s.materials rises
row_placed s (of.Test x) rises = put_placed pair_cmp pair_cmp_total (λ (row : TestRow). (row.material, row.test)) (test_cells s.owner) (key_order Tests) (tests_order s.owner) x s.tests rises
row_placed s (of.Recipe x) rises = put_placed bytes_cmp nat_list_cmp_total (λ (row : RecipeRow). row.recipe) (recipe_cells s.owner) (key_order Recipes) (recipes_order s.owner) x s.recipes rises
row_placed s (of.Requirement x) rises = put_placed requirement_cmp requirement_cmp_total (λ (row : RequirementRow). (row.recipe, row.segment, row.role, row.source, row.material)) (requirement_cells s.owner) (key_order Requirements) (requirements_order s.owner) x s.requirements rises
row_placed s (of.Order x) rises = put_placed bytes_cmp nat_list_cmp_total (λ (row : OrderRow). row.order) (order_cells s.owner) (key_order Orders) (orders_order s.owner) x s.orders rises
row_placed s (of.Batch x) rises = put_placed batch_cmp batch_cmp_total (λ (row : BatchRow). (row.order, row.number)) (batch_cells s.owner) (key_order Batches) (batches_order s.owner) x s.batches rises
row_placed s (of.Lot x) rises = put_placed bytes_cmp nat_list_cmp_total (λ (row : LotRow). row.lot) (lot_cells s.owner) (key_order Lots) (lots_order s.owner) x s.lots rises
row_placed s (of.Sublot x) rises = put_placed pair_cmp pair_cmp_total (λ (row : SublotRow). (row.lot, row.sublot)) (sublot_cells s.owner) (key_order Sublots) (sublots_order s.owner) x s.sublots rises
row_placed s (of.Move x) rises = put_placed bytes_cmp nat_list_cmp_total (λ (row : MoveRow). row.key) (move_cells s.owner) (key_order Moves) (moves_order s.owner) x s.moves rises
row_placed s (of.Result x) rises = put_placed result_cmp result_cmp_total (λ (row : ResultRow). (row.lot, row.test, row.number)) (result_cells s.owner) (key_order Results) (results_order s.owner) x s.results rises
row_placed s (of.Void x) rises = put_placed bytes_cmp nat_list_cmp_total (λ (row : VoidRow). row.key) (void_cells s.owner) (key_order Voids) (voids_order s.owner) x s.voids rises

-- The other tables keep their rows.
others_still : (k : TableKind) (s : Slice) (row : OfficeRow) → (table_number k ≡ table_number (table_for row) → ⊥) → (rows_for k (with_row s row) ≡ rows_for k s) × (AreValidIn k s → AreValidIn k (with_row s row))
others_still Materials s (of.Material x) other = absurd (other refl)
others_still Tests s (of.Test x) other = absurd (other refl)
others_still Recipes s (of.Recipe x) other = absurd (other refl)
others_still Requirements s (of.Requirement x) other = absurd (other refl)
others_still Orders s (of.Order x) other = absurd (other refl)
others_still Batches s (of.Batch x) other = absurd (other refl)
others_still Lots s (of.Lot x) other = absurd (other refl)
others_still Sublots s (of.Sublot x) other = absurd (other refl)
others_still Moves s (of.Move x) other = absurd (other refl)
others_still Results s (of.Result x) other = absurd (other refl)
others_still Voids s (of.Void x) other = absurd (other refl)
others_still _ s _ other = (refl, λ h. h)

pub other_table_untouched : (k : TableKind) (s : Slice) (row : OfficeRow) → (table_number k ≡ table_number (table_for row) → ⊥) → rows_for k (with_row s row) ≡ rows_for k s
other_table_untouched k s row other = (others_still k s row other).0

-- ---- valid values

module _ {K R : Type 0} (key : R → K) (P : R → Type 0) (x : R) (px : P x) where
  one_or : (b : Bool) (xs ys : List R) → AllByRecursion P xs → AllByRecursion P ys → AllByRecursion P (cond b xs ys)
  one_or true xs ys p q = p
  one_or false xs ys p q = q

  module _ (cmp : K → K → Ordering) where
    rowwise_all_replaced : (l : List R) → AllByRecursion P l → AllByRecursion P (replace_row cmp key l x)
    rowwise_all_replaced [] all = tt
    rowwise_all_replaced (y ∷ ys) all = one_or (is_eq (cmp (key x) (key y))) (x ∷ ys) (y ∷ replace_row cmp key ys x) (px, all.1) (all.0, rowwise_all_replaced ys all.1)

    rowwise_all_inserted : (l : List R) → AllByRecursion P l → AllByRecursion P (insert_row cmp key l x)
    rowwise_all_inserted [] all = (px, tt)
    rowwise_all_inserted (y ∷ ys) all = one_or (is_lt (cmp (key x) (key y))) (x ∷ y ∷ ys) (y ∷ insert_row cmp key ys x) (px, all) (all.0, rowwise_all_inserted ys all.1)

    pub all_put : (l : List R) → AllByRecursion P l → AllByRecursion P (put_row cmp key l x)
    unfolding put_row
    all_put l all = one_or _ (replace_row cmp key l x) (insert_row cmp key l x) (rowwise_all_replaced l all) (rowwise_all_inserted l all)

its_valid : (s : Slice) (row : OfficeRow) → IsRow row → AreValidIn (table_for row) s → AreValidIn (table_for row) (with_row s row)
its_valid s (of.Material x) is h = all_put _ _ _ is _ _ h
its_valid s _ is h = all_put _ _ _ is _ _ h

pub valid_with : (k : TableKind) (s : Slice) (row : OfficeRow) → IsRow row → AreValidIn k s → AreValidIn k (with_row s row)
valid_with k s row is valid = elim (same_table k (table_for row)) [
  | inl same ↦ subst (λ k. AreValidIn k (with_row s row)) (sym same) (its_valid s row is (subst (λ k. AreValidIn k s) same valid))
  | inr other ↦ (others_still k s row other).1 valid
]
