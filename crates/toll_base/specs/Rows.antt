-- Rows, by the values of their fields.
use Rattle.std.specs.Prelude.{ℕ, false}
use Rattle.toll_base.specs.Bytes.{Bytes}
use Rattle.toll_base.specs.declared.lot.Disposition.{Disposition}
use Rattle.toll_base.specs.declared.lot.Origin.{Origin}
use Rattle.toll_base.specs.declared.rows.LotRow.{LotRow}
use Rattle.toll_base.specs.declared.rows.OrderRow.{OrderRow}
use Rattle.toll_base.specs.declared.rows.Placing.{Placing}
use Rattle.toll_base.specs.declared.rows.SublotRow.{SublotRow}

abbrev pub placing_of : (order recipe : Bytes) → ℕ → Placing
placing_of order recipe batches = record { order = order; recipe = recipe; batches = batches }

-- the order when it is placed, which is open
abbrev pub placed_row : Placing → OrderRow
placed_row placing = record { order = placing.order; recipe = placing.recipe; batches = placing.batches; cancelled = false }

abbrev pub lot_row_of : (lot material : Bytes) → Origin → Disposition → LotRow
lot_row_of lot material origin disposition = record { lot = lot; material = material; origin = origin; disposition = disposition }

-- a sublot of a lot, with this amount
abbrev pub sublot_row_of : (lot sublot : Bytes) → ℕ → SublotRow
sublot_row_of lot sublot amount = record { lot = lot; sublot = sublot; amount = amount }
