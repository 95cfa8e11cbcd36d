-- The plan of each decision on lots: its checks, and the rows that it puts if none applies.
use Rattle.std.specs.Prelude.{ℕ, ℤ, ◌++◌, ◌&&◌, Bool, not, nat_lt, if◌then◌else◌, Some, [], ◌∷◌}
use Rattle.toll_stock.specs.Common.{Bytes, same_bytes, Slice, is_some_where, Disposition, Quarantined, MoveRow, LotRow, Lot, Sublot, IsDecided, is_outside, puts_of, gained, less_in_sublot, OwnerFacts, facts_of, latest_in, Checks, amount_in, is_released, key_checks, movements_full, receive_checks, result_checks, split_checks}
use Rattle.toll_base.specs.declared.decision.Change.TheVariants.{Put}
use Rattle.toll_base.specs.declared.decision.Decision.{Decision}
use Rattle.toll_base.specs.declared.limits.Limits.{Limits}
use Rattle.toll_base.specs.declared.lot.Origin.TheVariants.{Receipts}
use Rattle.toll_base.specs.declared.refusal.Refusal.TheVariants.{LimitReached, NotEnough}
use Rattle.toll_base.specs.declared.rows.Row.TheVariants.{Move}
use Rattle.toll_base.specs.declared.rows.TestRow.{TestRow}
use Rattle.toll_base.specs.Rows.{lot_row_of}
use Rattle.toll_history.specs.Bounds.{sublot_bounds}
use Rattle.toll_stock.specs.LotRows.{given_disposition, result_rows}

-- The material is the owner's, the lot accepts it, and there is room.
abbrev pub received_checks : OwnerFacts → (material lot sublot : Bytes) → ℕ → Checks
received_checks t material lot sublot amount = receive_checks t material lot ++ sublot_bounds t lot sublot amount

-- The sublot has this amount, and the target has room for it.
abbrev pub parted_checks : OwnerFacts → (lot sublot target : Bytes) → ℕ → Checks
parted_checks t lot sublot target amount = split_checks t lot sublot target amount ++ sublot_bounds t lot target amount

-- The sublot has this amount, and there is room for a movement.
abbrev pub enough_checks : OwnerFacts → (lot sublot : Bytes) → ℕ → Checks
enough_checks t lot sublot amount = (nat_lt (amount_in t lot sublot) amount, Some NotEnough) ∷ (movements_full t, Some LimitReached) ∷ []

-- a lot that came by a receipt
abbrev pub received_lot : (material lot : Bytes) → LotRow
received_lot material lot = lot_row_of lot material Receipts Quarantined

-- A receipt puts its movement, its lot, quarantined, and its sublot with this amount more.
abbrev pub IsReceiptPlan : Slice → MoveRow → (material lot sublot : Bytes) → Decision → Type 0
IsReceiptPlan s row material lot sublot d =
    let t = facts_of s in
    IsDecided (key_checks t row ++ received_checks t material lot sublot row.amount)
    (Put s.owner (Move row) ∷ Put s.owner (Lot (received_lot material lot)) ∷ Put s.owner (Sublot (gained lot sublot row.amount t)) ∷ []) d

-- A split puts its movement, its target with this amount more, and its sublot with this amount less.
abbrev pub IsSplitPlan : Slice → MoveRow → (lot sublot target : Bytes) → Decision → Type 0
IsSplitPlan s row lot sublot target d =
    let t = facts_of s in
    IsDecided (key_checks t row ++ parted_checks t lot sublot target row.amount)
    (puts_of s.owner (Move row ∷ Sublot (gained lot target row.amount t) ∷ Sublot (less_in_sublot lot sublot row.amount t) ∷ [])) d

-- A withdrawal from a sublot, by these checks, puts its movement and the sublot with this amount less.
abbrev pub IsWithdrawalPlan : Checks → Slice → MoveRow → (lot sublot : Bytes) → Decision → Type 0
IsWithdrawalPlan checks s row lot sublot d =
    let t = facts_of s in
    IsDecided (key_checks t row ++ checks) (puts_of s.owner (Move row ∷ Sublot (less_in_sublot lot sublot row.amount t) ∷ [])) d

-- A result puts itself, numbered, and its lot after it.
abbrev pub IsResultPlan : Slice → (lot test : Bytes) → ℤ → ℕ → Decision → Type 0
IsResultPlan s lot test value day d =
    IsDecided (result_checks (facts_of s) lot test) (puts_of s.owner (result_rows lot test value day (facts_of s))) d

-- A lot is given a disposition, if these checks accept.
abbrev pub IsDispositionPlan : Checks → Slice → (lot : Bytes) → Disposition → Decision → Type 0
IsDispositionPlan checks s lot disposition d = IsDecided checks (puts_of s.owner (given_disposition (λ row. disposition) ((facts_of s).lot lot))) d

-- the row of a lot after a value of a test with these limits: a released one is quarantined if the value is out of them
abbrev pub lot_after : Limits → ℤ → LotRow → LotRow
lot_after limits value row = record row { disposition = if is_released row.disposition && is_outside limits value then Quarantined else row.disposition }

-- whether the test is of the material, and the lot has not passed it
abbrev pub is_open_test : Slice → (lot material : Bytes) → TestRow → Bool
is_open_test s lot material row = same_bytes row.material material && not (is_some_where (λ value. not (is_outside row.limits value)) (latest_in s lot row.test))
