-- The rows that an accepted command puts, as the owner's tables make them, and the plans that put them.
use Rattle.std.specs.Prelude.{ℕ, ◌+◌, Bool, true, false, not, List, [], ◌∷◌}
use Rattle.toll_work.specs.Common.{option_map_or, Bytes, followed, Slice, Decision, RequirementRow, IsDecided, puts_of, OwnerFacts, facts_of, batch_command_checks, cancel_checks, close_checks, open_checks, order_checks, requirement_checks, tables_for, Placing, placed_row, OrderRow, BatchRow, Order, Requirement}
use Rattle.toll_base.specs.declared.state.State.TheVariants.{Idle}
use Rattle.toll_base.specs.declared.state_command.StateCommand.{StateCommand}
use Rattle.toll_base.specs.declared.rows.Row.{Row}
use Rattle.toll_base.specs.declared.rows.Row.TheVariants.{Batch}

-- the order, cancelled
abbrev pub cancelled_row : OrderRow → OrderRow
cancelled_row row = record row { cancelled = true }

abbrev pub cancelled_rows : (order : Bytes) → OwnerFacts → List Row
cancelled_rows order t = option_map_or (λ row. Order (cancelled_row row) ∷ []) (t.order order) []

-- the batch that comes after those that were opened
abbrev pub opened_row : (order unit : Bytes) → ℕ → BatchRow
opened_row order unit opened = record { order = order; number = opened + 1; unit = unit; state = Idle; closed = false }

abbrev pub opened_rows : (order unit : Bytes) → OwnerFacts → List Row
opened_rows order unit t = Batch (opened_row order unit (t.opened order)) ∷ []

-- the batch in the state that the command leads to
abbrev pub commanded_row : StateCommand → BatchRow → BatchRow
commanded_row command row = record row { state = followed row.state command }

-- the batch, closed
abbrev pub closed_row : BatchRow → BatchRow
closed_row row = record row { closed = true }

-- the batch's row after this change
abbrev pub changed_rows : (BatchRow → BatchRow) → (order : Bytes) → (number : ℕ) → OwnerFacts → List Row
changed_rows change order number t = option_map_or (λ row. Batch (change row) ∷ []) (t.batch (order, number)) []

-- ---- plans: the checks of each decision, and the rows that it puts if none applies

-- An order is placed; and an order is cancelled.
abbrev pub IsOrderPlan : Slice → Placing → Decision → Type 0
IsOrderPlan s placing d = IsDecided (order_checks (facts_of s) placing) (puts_of s.owner (Order (placed_row placing) ∷ [])) d

abbrev pub IsCancelPlan : Slice → (order : Bytes) → Decision → Type 0
IsCancelPlan s order d = IsDecided (cancel_checks (facts_of s) order) (puts_of s.owner (cancelled_rows order (facts_of s))) d

-- A batch is opened on a unit with these facts.
abbrev pub IsOpeningPlan : Slice → (order unit : Bytes) → (is_known is_free : Bool) → Decision → Type 0
IsOpeningPlan s order unit is_known is_free d =
    IsDecided (open_checks (facts_of s) order is_known (not is_free)) (puts_of s.owner (opened_rows order unit (facts_of s))) d

-- The command changes the state of a batch.
abbrev pub IsCommandPlan : Slice → (order : Bytes) → (number : ℕ) → StateCommand → Decision → Type 0
IsCommandPlan s order number command d =
    IsDecided (batch_command_checks (facts_of s) order number command) (puts_of s.owner (changed_rows (commanded_row command) order number (facts_of s))) d

abbrev pub IsClosingPlan : Slice → (order : Bytes) → (number : ℕ) → Decision → Type 0
IsClosingPlan s order number d = IsDecided (close_checks (facts_of s) order number) (puts_of s.owner (changed_rows closed_row order number (facts_of s))) d

-- A recipe gets the requirement of this row.
abbrev pub IsRequirementPlan : (own house : Slice) → RequirementRow → Decision → Type 0
IsRequirementPlan own house row d =
    let source = tables_for own.owner (facts_of own) (facts_of house) row.source in
    IsDecided (requirement_checks own.owner (facts_of own) source row) (puts_of own.owner (Requirement row ∷ [])) d
