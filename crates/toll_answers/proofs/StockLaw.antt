-- The stock that a slice shows is that of every lawful history of which it has the rows.
use Rattle.std.proofs.Common.{◌≡◌, ℕ, ◌<◌, true, Some, is_some, List, [], ◌∷◌, length, get_or, map, zero, suc, refl, sym, ap, ◌∙◌, arith}
use Rattle.toll_answers.proofs.Common.{nat_list_cmp_total, AllByRecursion, Bytes, bytes_cmp, pair_cmp, Slice, lot_at, material_at, IsInKeyOrder, AreRowsGiven, none_or, LotRow, same_bytes-exact, History, acts, OwnerFacts, IsRowsOf, IsLawful, on_hand_in, all_weaker, each_found, row_at-map, map_ordered, measure_in, line_in, stock_line, StockLine, option_map, option_map_or, lot_id}
use Rattle.toll_base.specs.SliceRules.{KeepsRules}
use Rattle.toll_base.specs.declared.rows.MaterialRow.{MaterialRow}
use Rattle.toll_history.specs.Amounts.{on_hand}
use Rattle.toll_history.specs.Work.{measure_of}
use Rattle.toll_stock.proofs.OnHandTotals.{on_hand_is}
use Rattle.toll_stock.proofs.Mapped.{mapped_alike}
use Rattle.toll_work.proofs.FoundRow.{row_at-key}

-- the measure of a material is the history's
pub measure_is : (H : History) (s : Slice) → IsRowsOf H s → (m : Bytes) → measure_in s m ≡ measure_of (acts s.owner H) m
measure_is H s there m = ap (λ (t : OwnerFacts). option_map_or (λ (row : MaterialRow). row.measure) (t.material m) []) there

so_at_place : {X : Type 0} (P : X → Type 0) (xs : List X) → AllByRecursion P xs → (i : ℕ) (d : X) → i < length xs → P (get_or xs i d)
so_at_place P [] each i d lt = absurd (omega arith)
so_at_place P (x ∷ xs) each zero d lt = each.0
so_at_place P (x ∷ xs) each (suc i) d lt = so_at_place P xs each.1 i d (omega arith)

-- the material of each lot is there
pub material_there : (s : Slice) → KeepsRules s → IsInKeyOrder bytes_cmp (λ row. row.lot) s.lots → (i : ℕ) (d : LotRow) → i < length s.lots → is_some (material_at s (get_or s.lots i d).material) ≡ true
material_there s keeps ordered =
    so_at_place (λ row. is_some (material_at s row.material) ≡ true) s.lots
    (all_weaker _ _ (λ row found. ap (none_or (λ (r : LotRow). is_some (material_at s r.material))) (sym found) ∙ keeps.lot_materials row.lot) s.lots
    (each_found bytes_cmp nat_list_cmp_total (λ row. row.lot) s.lots ordered))

module _ (H : History) (lawful : IsLawful H) (s : Slice) (there : IsRowsOf H s) (lots : IsInKeyOrder bytes_cmp (λ row. row.lot) s.lots) (sublots : IsInKeyOrder pair_cmp (λ row. (row.lot, row.sublot)) s.sublots) where
  -- the line of a lot, as the history gives it
  abbrev line_over : Bytes → LotRow → StockLine
  line_over l row = record { row = row; measure = measure_of (acts s.owner H) row.material; amount = on_hand H (lot_id s.owner l) }

  stock_line_is : (l : Bytes) (row : LotRow) → lot_at s l ≡ Some row → line_in s row ≡ line_over l row
  stock_line_is l row found =
      let named : row.lot ≡ l = sym (same_bytes-exact l row.lot (row_at-key bytes_cmp (λ (r : LotRow). r.lot) s.lots l row found)) in
      let held : on_hand_in s row.lot ≡ on_hand H (lot_id s.owner l) = ap (on_hand_in s) named ∙ on_hand_is H lawful s there sublots l in
      λ i. record { row = row; measure = measure_is H s there row.material i; amount = held i }

  pub stock_lines_given : AreRowsGiven bytes_cmp (λ line. line.row.lot) (stock_line H s.owner) (map (line_in s) s.lots)
  stock_lines_given = record {
    ordered = map_ordered bytes_cmp (λ (row : LotRow). row.lot) (line_in s) (λ line. line.row.lot) (λ row. refl) s.lots lots;
    at = λ l.
        row_at-map bytes_cmp (λ (row : LotRow). row.lot) (line_in s) (λ line. line.row.lot) (λ row. refl) s.lots l
        ∙ mapped_alike (line_in s) (line_over l) (lot_at s l) (stock_line_is l)
        ∙ ap (λ (t : OwnerFacts). option_map (line_over l) (t.lot l)) there;
  }
