-- An owner's rows as they are shown, over a slice.
use Rattle.std.specs.Prelude.{◌≡◌, Bool, not, ◌&&◌, Option, Some, None, is_some, [], filter}
use Rattle.toll_answers.specs.Common.{list_any, option_map_or, Bytes, same_bytes, Slice, material_at, void_at, LotId, LotRow, on_hand_in}
use Rattle.toll_answers.specs.Views.{consumes_lot}
use Rattle.toll_answers.specs.declared.views.lot.LotView.{LotView}
use Rattle.toll_answers.specs.declared.views.stock.StockLine.{StockLine}

-- the measure of the material
abbrev pub measure_in : Slice → Bytes → Bytes
measure_in s m = option_map_or (λ row. row.measure) (material_at s m) []

-- the lot with what is in its sublots
abbrev pub line_in : Slice → LotRow → StockLine
line_in s row = record { row = row; measure = measure_in s row.material; amount = on_hand_in s row.lot }

-- the lot with the rows that name it
pub record IsViewOfRow (s : Slice) (known : LotRow) (view : LotView) : Type 0 where
  pub row : view.row ≡ known
  pub measure : view.measure ≡ measure_in s known.material
  pub results : view.results.items ≡ filter (λ row. same_bytes row.lot known.lot) s.results
  pub sublots : view.sublots.items ≡ filter (λ row. same_bytes row.lot known.lot) s.sublots

-- the view of a lot, if it is known
abbrev pub IsLotViewIn : Slice → Option LotRow → Option LotView → Type 0
IsLotViewIn s None None = Unit {0}
IsLotViewIn s (Some row) (Some view) = IsViewOfRow s row view
IsLotViewIn s _ _ = ⊥

-- an actual that no row voids consumed from the lot
abbrev pub has_consumed_in : Slice → LotId → Bool
has_consumed_in s lot = list_any (λ row. consumes_lot lot row.what && not (is_some (void_at s row.key))) s.moves
