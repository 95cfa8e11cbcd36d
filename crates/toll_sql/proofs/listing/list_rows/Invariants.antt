use Rattle.std.proofs.Common.{◌≡◌, ◌≤◌, List, map, take}
use Rattle.toll_sql.proofs.Common.{columns_from, FirstIs, AreStoredOfPlant, width_of, ShowsRow, AllByRecursion}
use Rattle.toll_sql.proofs.listing.list_rows.Given as goal

-- The rows so far are listed.
abbrev pub invariant-loop-row : goal.invariant-loop-row
invariant-loop-row g x = record {
  reads : AreStoredOfPlant g.X.StoredPlantRow.kind → (l : List g.row.X.Denot) → x.rows ≡ map g.X.StoredPlantRow.kind.cells l → AllByRecursion g.X.StoredPlantRow.kind.is_valid l → x.listed.items ≡ take x.row-index l;
  shown : map g.X.StoredPlantRow.kind.cells x.listed.items ≡ map (columns_from 0 (width_of g.X.StoredPlantRow.kind.table)) (take x.row-index x.rows);
  valid : AllByRecursion g.X.StoredPlantRow.kind.is_valid x.listed.items;
  first : 1 ≤ x.row-index → FirstIs (ShowsRow g.X.StoredPlantRow.kind) x.rows;
}
