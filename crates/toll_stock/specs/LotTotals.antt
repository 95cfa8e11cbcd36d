-- How much of a lot is on hand, and how much was shipped.
use Rattle.std.specs.Prelude.{◌≡◌, ℕ, Bool, if◌then◌else◌, Option, Some, None, is_some, List}
use Rattle.std.specs.BTreeMap.{get}
use Rattle.toll_stock.specs.Common.{unwrap_or, Bytes, bytes_cmp, same_bytes, total, is_some_where, where_so, on_hand, shipped, History, lot_made, sublot_known, stock, Slice, lot_at, MoveRow}
use Rattle.toll_base.specs.declared.lot.LotId.{LotId}
use Rattle.toll_base.specs.declared.movement.Move.{Move}
use Rattle.toll_base.specs.declared.movement.Move.TheVariants.{Ship}
use Rattle.toll_base.specs.declared.rows.SublotRow.{SublotRow}
use Rattle.toll_stock.specs.declared.shipped.Shipped.{Shipped}
use Rattle.toll_stock.specs.declared.stock.Totals.{Totals}

-- ---- over a history

-- the amount in a sublot, if it is known
abbrev pub stock_given : History → LotId → (sublot : Bytes) → Option ℕ
stock_given H id sub = where_so (sublot_known H id sub) (stock H id sub)

-- the totals of a lot, if it is known; a split doesn't change them
abbrev pub totals_given : History → LotId → Option Totals
totals_given H id = where_so (is_some (lot_made H id)) (record { on_hand = on_hand H id; shipped = shipped H id })

-- ---- over a slice

-- the amount in those of these sublots that are the lot's
abbrev pub held_in : Bytes → List SublotRow → ℕ
held_in lot sublots = total (λ row. if same_bytes row.lot lot then row.amount else 0) sublots

-- the amount in the lot's sublots
abbrev pub on_hand_in : Slice → Bytes → ℕ
on_hand_in s lot = held_in lot s.sublots

-- the lot that the movement ships
abbrev pub lot_shipped : Move → Option Bytes
lot_shipped (Ship lot sublot) = Some lot
lot_shipped _ = None

-- whether the movement is a shipment of the lot
abbrev pub is_shipment_of : Bytes → Move → Bool
is_shipment_of lot what = is_some_where (λ own. same_bytes own lot) (lot_shipped what)

-- what the movement takes of the lot as a shipment
abbrev pub shipped_by : Bytes → MoveRow → ℕ
shipped_by lot row = if is_shipment_of lot row.what then row.amount else 0

-- the amount that the lot's shipments took
abbrev pub shipped_in : Slice → Bytes → ℕ
shipped_in s lot = total (shipped_by lot) s.moves

-- the totals of a lot that the slice has
abbrev pub totals_in : Slice → Bytes → Option Totals
totals_in s lot = where_so (is_some (lot_at s lot)) (record { on_hand = on_hand_in s lot; shipped = shipped_in s lot })

-- ---- what was shipped of all lots, gathered from a slice

-- the amount of the lot, 0 if it has none
abbrev pub amount_of : Shipped → Bytes → ℕ
amount_of shipped lot = unwrap_or (get bytes_cmp shipped.amounts lot) 0

-- The amount of each lot is what its shipments took.
abbrev pub AreShippedIn : Slice → Shipped → Type 0
AreShippedIn s shipped = (lot : Bytes) → amount_of shipped lot ≡ shipped_in s lot
