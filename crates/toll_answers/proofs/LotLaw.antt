-- The view of a lot that a slice gives is that of every lawful history of which it has the rows.
use Rattle.std.proofs.Common.{◌≡◌, Bool, true, cond, Option, Some, None, List, filter, sym, ap, subst, ◌∙◌}
use Rattle.toll_answers.proofs.Common.{is_eq, Ordering, Bytes, same_bytes, pair_cmp, result_cmp, Slice, lot_at, IsInKeyOrder, AreRowsGiven, row_at, LotRow, SublotRow, same_bytes-exact, History, acts, OwnerFacts, IsRowsOf, lot_row, row_at-filter, filter_ordered, IsLotViewIn, results_of_lot, sublots_of_lot, IsLotViewOf}
use Rattle.toll_base.specs.declared.rows.ResultRow.{ResultRow}
use Rattle.toll_answers.specs.declared.views.lot.LotView.{LotView}
use Rattle.toll_answers.proofs.StockLaw.{measure_is}
use Rattle.toll_work.proofs.ViewLaw.{tied_first}

-- of rows whose keys begin with a lot, those of one lot are given at the keys that begin with it
module _ {K R : Type 0} (cmp : K → K → Ordering) (key : R → K) (lot_of : K → Bytes) (begins : (k l : K) → is_eq (cmp k l) ≡ true → lot_of k ≡ lot_of l) (lot : Bytes) where
  abbrev is_of_lot : K → Bool
  is_of_lot k = same_bytes (lot_of k) lot

  lot_alike : (k l : K) → is_eq (cmp k l) ≡ true → is_of_lot k ≡ is_of_lot l
  lot_alike k l tied = ap (λ x. same_bytes x lot) (begins k l tied)

  rows_of_lot : (given : K → Option R) (rows : List R) → IsInKeyOrder cmp key rows → ((k : K) → row_at cmp key rows k ≡ given k) → AreRowsGiven cmp key (λ k. cond (same_bytes (lot_of k) lot) (given k) None) (filter (λ row. same_bytes (lot_of (key row)) lot) rows)
  rows_of_lot given rows ordered at = record {
    ordered = filter_ordered cmp key is_of_lot lot_alike rows ordered;
    at = λ k. row_at-filter cmp key is_of_lot lot_alike rows k ∙ ap (λ row. cond (is_of_lot k) row None) (at k);
  }

module _ (H : History) (s : Slice) (there : IsRowsOf H s) (results : IsInKeyOrder result_cmp (λ row. (row.lot, row.test, row.number)) s.results) (sublots : IsInKeyOrder pair_cmp (λ row. (row.lot, row.sublot)) s.sublots) where
  results_given : (lot : Bytes) → AreRowsGiven result_cmp (λ row. (row.lot, row.test, row.number)) (results_of_lot (acts s.owner H) lot) (filter (λ row. same_bytes row.lot lot) s.results)
  results_given lot =
      rows_of_lot result_cmp (λ (row : ResultRow). (row.lot, row.test, row.number)) (λ k. k.0) (λ k l tied. same_bytes-exact k.0 l.0 (tied_first _ _ (tied_first _ _ tied))) lot _ s.results results (λ k. ap (λ (t : OwnerFacts). t.result k) there)

  sublots_given : (lot : Bytes) → AreRowsGiven pair_cmp (λ row. (row.lot, row.sublot)) (sublots_of_lot H s.owner lot) (filter (λ row. same_bytes row.lot lot) s.sublots)
  sublots_given lot =
      rows_of_lot pair_cmp (λ (row : SublotRow). (row.lot, row.sublot)) (λ k. k.0) (λ k l tied. same_bytes-exact k.0 l.0 (tied_first _ _ tied)) lot _ s.sublots sublots (λ k. ap (λ (t : OwnerFacts). t.sublot k) there)

  view_is : (known : Option LotRow) (view : Option LotView) → IsLotViewIn s known view → IsLotViewOf H s.owner known view
  view_is None None is = is
  view_is None (Some view) is = is
  view_is (Some row) None is = is
  view_is (Some row) (Some view) is = record {
    row = is.row;
    measure = is.measure ∙ measure_is H s there row.material;
    results = subst (AreRowsGiven result_cmp (λ (r : ResultRow). (r.lot, r.test, r.number)) (results_of_lot (acts s.owner H) row.lot)) (sym is.results) (results_given row.lot);
    sublots = subst (AreRowsGiven pair_cmp (λ (r : SublotRow). (r.lot, r.sublot)) (sublots_of_lot H s.owner row.lot)) (sym is.sublots) (sublots_given row.lot);
  }

  pub view_given : (lot : Bytes) (view : Option LotView) → IsLotViewIn s (lot_at s lot) view → IsLotViewOf H s.owner (lot_row H s.owner lot) view
  view_given lot view is = subst (λ (t : OwnerFacts). IsLotViewOf H s.owner (t.lot lot) view) there (view_is (lot_at s lot) view is)
