-- Sums over the standing movements: what is on hand of a lot, what was shipped of it, and what a batch consumed and produced.
use Rattle.std.specs.Prelude.{ℕ, ◌-◌, Bool, false, ◌&&◌, ◌==◌, if◌then◌else◌}
use Rattle.toll_history.specs.Common.{Bytes, same_bytes, total, same_role, is_actual_of, lot_id, same_lot, LotId, Consumed, Produced, RequirementRow, Move, Receive, Ship, Scrap, Actual}
use Rattle.toll_history.specs.History.{History}
use Rattle.toll_history.specs.Movements.{standing}

-- the sum of the amounts of the standing movements that pass the test
abbrev pub amounts : (Bytes → Move → Bool) → History → ℕ
amounts passes H = total (λ m. if passes m.0 m.1.what then m.1.amount else 0) (standing H)

-- ---- what is on hand of a lot, and what was shipped of it

-- whether a movement of this owner adds to the lot: it is received or produced
abbrev pub adds_to : LotId → Bytes → Move → Bool
adds_to id o (Receive material lot sublot) = same_lot id (lot_id o lot)
adds_to id o (Actual order number segment Produced material lot sublot) = same_lot id lot
adds_to id o _ = false

-- whether a movement of this owner ships from the lot
abbrev pub ships_from : LotId → Bytes → Move → Bool
ships_from id o (Ship lot sublot) = same_lot id (lot_id o lot)
ships_from id o _ = false

-- whether a movement of this owner takes from the lot: it is shipped, scrapped or consumed; a split keeps it
abbrev pub uses_up : LotId → Bytes → Move → Bool
uses_up id o (Ship lot sublot) = same_lot id (lot_id o lot)
uses_up id o (Scrap lot sublot) = same_lot id (lot_id o lot)
uses_up id o (Actual order number segment Consumed material lot sublot) = same_lot id lot
uses_up id o _ = false

unfoldable pub on_hand : History → LotId → ℕ
on_hand H id = amounts (adds_to id) H - amounts (uses_up id) H

unfoldable pub shipped : History → LotId → ℕ
shipped H id = amounts (ships_from id) H

-- ---- what a batch consumed or produced for a requirement

-- whether the movement is an actual of the requirement's segment, role, source and material
abbrev pub meets_requirement : RequirementRow → Move → Bool
meets_requirement row (Actual order number segment role material lot sublot) = segment == row.segment && same_role role row.role && same_bytes lot.owner row.source && same_bytes material row.material
meets_requirement row _ = false

-- whether the movement is an actual of the owner's batch that meets the requirement
abbrev pub serves : Bytes → (order : Bytes) → (number : ℕ) → RequirementRow → Bytes → Move → Bool
serves o order number row p what = same_bytes p o && is_actual_of order number what && meets_requirement row what

-- the sum of the batch's standing actuals of the requirement's segment, role, source and material
unfoldable pub actual_amount : History → Bytes → (order : Bytes) → (number : ℕ) → RequirementRow → ℕ
actual_amount H o order number row = amounts (serves o order number row) H
