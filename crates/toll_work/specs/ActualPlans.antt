-- The plans of actuals and of their voids: their checks, and the rows that they put if none applies.
use Rattle.std.specs.Prelude.{ℕ, ◌++◌, nat_lt, if◌then◌else◌, is_none, is_some, Some, [], ◌∷◌}
use Rattle.toll_work.specs.Common.{Bytes, Slice, batch_at, recipe_at, requirement_at, is_idle, is_some_where, Decision, MoveRow, BadSegment, BatchIdle, CrossOwner, LimitReached, NotEnough, NotInRecipe, Consumed, Produced, Lot, Move, Sublot, Void, lot_bounds, IsDecided, puts_of, gained, less_in_sublot, OwnerFacts, facts_of, Checks, actual_checks, amount_in, consumed_checks, crosses, key_checks, open_batch_checks, produced_checks, tables_for}
use Rattle.toll_base.specs.declared.decision.Change.TheVariants.{Put}
use Rattle.toll_base.specs.declared.lot.Disposition.TheVariants.{Quarantined}
use Rattle.toll_base.specs.declared.lot.Origin.TheVariants.{Batch}
use Rattle.toll_base.specs.declared.role.Role.{Role}
use Rattle.toll_base.specs.Rows.{lot_row_of}
use Rattle.toll_base.specs.Slice.{lot_at}
use Rattle.toll_work.specs.Voiding.{giving_bounds, void_batch_checks}
use Rattle.toll_work.specs.declared.actuals.ActualUse.{ActualUse}

-- the tables that have the used lot: the owner's or HOUSE's
abbrev pub source_of : (own house : Slice) → ActualUse → OwnerFacts
source_of own house used = tables_for own.owner (facts_of own) (facts_of house) used.lot.owner

-- ---- checks

-- The batch is there, is not closed, and has started.
abbrev pub running_checks : Slice → (order : Bytes) → (number : ℕ) → Checks
running_checks s order number = open_batch_checks (facts_of s) order number ++ (is_some_where (λ row. is_idle row.state) (batch_at s (order, number)), Some BatchIdle) ∷ []

-- The recipe has the segment, and this use in it.
abbrev pub recipe_checks_of : Slice → (recipe : Bytes) → ActualUse → Role → Checks
recipe_checks_of s recipe used role =
    (is_some_where (λ row. nat_lt row.segments used.segment) (recipe_at s recipe), Some BadSegment)
    ∷ (crosses s.owner role used.lot.owner, Some CrossOwner)
    ∷ (is_none (requirement_at s (recipe, used.segment, role, used.lot.owner, used.material)), Some NotInRecipe)
    ∷ []

-- The batch takes actuals, and its recipe has this use.
abbrev pub use_checks : Slice → ActualUse → Role → Checks
use_checks s used role = actual_checks s.owner (facts_of s) used.order used.number used.segment role used.material used.lot

-- The lot can give this amount to the consumption.
abbrev pub source_checks : Slice → OwnerFacts → ActualUse → ℕ → Checks
source_checks s source used amount = consumed_checks (facts_of s) source used.order used.number used.material used.lot.lot used.sublot amount

-- The lot accepts the production, and there is room for it.
abbrev pub target_checks : Slice → ActualUse → ℕ → Checks
target_checks s used amount = produced_checks (facts_of s) used.order used.number used.material used.lot.lot ++ lot_bounds (facts_of s) used.material used.lot.lot used.sublot amount

-- ---- plans

-- A consumption puts its movement, and the sublot with this amount less.
abbrev pub IsConsumptionPlan : (own house : Slice) → MoveRow → ActualUse → Decision → Type 0
IsConsumptionPlan own house row used d =
    IsDecided (key_checks (facts_of own) row ++ use_checks own used Consumed ++ source_checks own (source_of own house used) used row.amount)
    (Put own.owner (Move row) ∷ Put used.lot.owner (Sublot (less_in_sublot used.lot.lot used.sublot row.amount (source_of own house used))) ∷ []) d

-- A production puts its movement, its lot, quarantined, if it is new, and the sublot with this amount more.
abbrev pub IsProductionPlan : Slice → MoveRow → ActualUse → Decision → Type 0
IsProductionPlan s row used d =
    IsDecided (key_checks (facts_of s) row ++ use_checks s used Produced ++ target_checks s used row.amount)
    (puts_of s.owner (Move row
    ∷ (if is_some (lot_at s used.lot.lot) then [] else Lot (lot_row_of used.lot.lot used.material (Batch used.order used.number) Quarantined) ∷ [])
    ++ Sublot (gained used.lot.lot used.sublot row.amount (facts_of s))
    ∷ [])) d

-- The void of a consumption puts itself, and the sublot with this amount more.
abbrev pub IsGivingPlan : (own house : Slice) → (key : Bytes) → ActualUse → ℕ → Decision → Type 0
IsGivingPlan own house key used amount d =
    IsDecided (void_batch_checks (facts_of own) key used.order used.number ++ giving_bounds own.owner (source_of own house used) used.lot used.sublot amount)
    (Put own.owner (Void (record { key = key })) ∷ Put used.lot.owner (Sublot (gained used.lot.lot used.sublot amount (source_of own house used))) ∷ []) d

-- The void of a production puts itself, and the sublot with this amount less, if it has that.
abbrev pub IsTakingPlan : Slice → (key : Bytes) → ActualUse → ℕ → Decision → Type 0
IsTakingPlan s key used amount d =
    IsDecided (void_batch_checks (facts_of s) key used.order used.number
    ++ (nat_lt (amount_in (facts_of s) used.lot.lot used.sublot) amount, Some NotEnough)
    ∷ (is_none ((facts_of s).sublot (used.lot.lot, used.sublot)), Some LimitReached)
    ∷ [])
    (puts_of s.owner (Void (record { key = key }) ∷ Sublot (less_in_sublot used.lot.lot used.sublot amount (facts_of s)) ∷ [])) d
