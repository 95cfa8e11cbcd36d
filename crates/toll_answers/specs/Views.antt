-- An owner's rows as they are shown, over a history.
use Rattle.std.specs.Prelude.{◌≡◌, ℕ, Bool, false, not, ◌&&◌, if◌then◌else◌, Option, Some, None, List}
use Rattle.toll_answers.specs.Common.{list_any, option_map, Bytes, bytes_cmp, same_bytes, result_cmp, pair_cmp, AreRowsGiven, History, acts, lot_row, sublot_row, LotId, LotRow, lot_id, same_lot}
use Rattle.toll_base.specs.Words.{is_some_where}
use Rattle.toll_history.specs.Amounts.{on_hand}
use Rattle.toll_history.specs.Command.{Action}
use Rattle.toll_history.specs.Dispositions.{result_of}
use Rattle.toll_history.specs.Movements.{movement_recorded, voided_in}
use Rattle.toll_history.specs.Work.{measure_of}
use Rattle.toll_base.specs.declared.movement.Move.{Move}
use Rattle.toll_base.specs.declared.movement.Move.TheVariants.{Actual}
use Rattle.toll_base.specs.declared.role.Role.TheVariants.{Consumed}
use Rattle.toll_base.specs.declared.rows.ResultRow.{ResultRow}
use Rattle.toll_base.specs.declared.rows.SublotRow.{SublotRow}
use Rattle.toll_answers.specs.declared.views.lot.LotView.{LotView}
use Rattle.toll_answers.specs.declared.views.stock.StockLine.{StockLine}

-- ---- stock

-- a lot of the owner, with how much of it is on hand
abbrev pub stock_line : History → Bytes → Bytes → Option StockLine
stock_line H o l = option_map (λ row. record { row = row; measure = measure_of (acts o H) row.material; amount = on_hand H (lot_id o l) }) (lot_row H o l)

-- the stock of an owner, in the order of its lots
abbrev pub AreStockLines : History → (o : Bytes) → List StockLine → Type 0
AreStockLines H o lines = AreRowsGiven bytes_cmp (λ line. line.row.lot) (stock_line H o) lines

-- ---- a lot

-- the results and the sublots of a lot
abbrev pub results_of_lot : List Action → Bytes → Bytes × Bytes × ℕ → Option ResultRow
results_of_lot own lot k = if same_bytes k.0 lot then result_of own k else None

abbrev pub sublots_of_lot : History → Bytes → Bytes → Bytes × Bytes → Option SublotRow
sublots_of_lot H o lot k = if same_bytes k.0 lot then sublot_row H o k else None

-- the lot with the measure of its material, its results and its sublots
pub record IsLotView (H : History) (o : Bytes) (known : LotRow) (view : LotView) : Type 0 where
  pub row : view.row ≡ known
  pub measure : view.measure ≡ measure_of (acts o H) known.material
  pub results : AreRowsGiven result_cmp (λ row. (row.lot, row.test, row.number)) (results_of_lot (acts o H) known.lot) view.results.items
  pub sublots : AreRowsGiven pair_cmp (λ row. (row.lot, row.sublot)) (sublots_of_lot H o known.lot) view.sublots.items

-- the view of a lot, if it is known
abbrev pub IsLotViewOf : History → Bytes → Option LotRow → Option LotView → Type 0
IsLotViewOf H o None None = Unit {0}
IsLotViewOf H o (Some row) (Some view) = IsLotView H o row view
IsLotViewOf H o _ _ = ⊥

-- ---- what was consumed

-- the movement consumes from the lot
abbrev pub consumes_lot : LotId → Move → Bool
consumes_lot id (Actual order number segment Consumed material lot sublot) = same_lot id lot
consumes_lot id _ = false

-- a standing actual among the actions consumed from the lot
abbrev pub has_consumed : List Action → LotId → Bool
has_consumed own lot = list_any (λ a. is_some_where (λ row. consumes_lot lot row.what && not (voided_in own row.key)) (movement_recorded a)) own
