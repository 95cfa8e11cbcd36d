-- The verdict on a command, as a list of checks in their order, and how a history grows.
use Rattle.std.specs.Prelude.{◌≡◌, ℕ, Bool, true, false, not, ◌&&◌, ◌||◌, if◌then◌else◌, nat_le, nat_lt, ◌==◌, Option, Some, None, is_some, is_none, List, [], ◌∷◌, ◌++◌}
use Rattle.toll_history.specs.Common.{option_map_or, Bytes, same_bytes, house_name, IsAmount, IsBatchNo, is_some_where, RequirementKey, next_state, may_close, is_idle, MOST_ACTUALS, MOST_LOTS, MOST_MATERIALS, MOST_MOVEMENTS, MOST_ORDERS, MOST_OWNERS, MOST_RECIPES, MOST_REQUIREMENTS, MOST_RESULTS, MOST_TESTS, MOST_UNITS, Refusal, MaterialRow, TestRow, RecipeRow, RequirementRow, Placing, OrderRow, MoveRow, Move, Receive, Split, Ship, Scrap, Actual, LotId, Origin, Receipts, Batch, Disposition, Quarantined, Released, Rejected as IsRejected, Role, Consumed, Produced, StateCommand}
use Rattle.toll_base.specs.Moves.{same_movement}
use Rattle.toll_history.specs.Command.{Action, AddOwner, AddUnit, AddMaterial, AddTest, AddRecipe, Require, PlaceOrder, CancelOrder, OpenBatch, CommandBatch, CloseBatch, Record, RecordResult, Release, Reject, Void, Command}
use Rattle.toll_history.specs.History.{History, owner_known, count_owners, unit_known, count_units}
use Rattle.toll_history.specs.Holders.{holder}
use Rattle.toll_history.specs.Dispositions.{is_outside}
use Rattle.toll_history.specs.OwnerFacts.{OwnerFacts, facts_given}
use Rattle.toll_base.specs.declared.refusal.Refusal.TheVariants.{UnknownOwner, OwnerExists, UnitExists, UnknownUnit, UnitBusy, MaterialExists, UnknownMaterial, MaterialInUse, TestExists, RecipeExists, UnknownRecipe, RecipeInUse, BadSegment, RequirementExists, OrderExists, UnknownOrder, OrderCancelled, OrderStarted, NoMoreBatches, UnknownBatch, BadState, BatchClosed, BatchIdle, NotInRecipe, UnknownLot, UnknownSublot, WrongMaterial, WrongOrigin, NotReleased, NotQuarantined, NotEnough, SameSublot, KeyConflict, TestsOpen, UnknownTest, CrossOwner, LimitReached, UnknownKey, Voided, Rejected}
pub use Rattle.toll_base.specs.SliceRules.{is_actual}

pub data Verdict : Type 0 where
  Accepted : Verdict
  Repeated : Verdict
  Refused : (why : Refusal) → Verdict

-- checks in their order: whether each applies, and what it then says; None means Repeated
abbrev pub Checks : Type 0
Checks = List (Bool × Option Refusal)

abbrev pub verdict_of_check : Option Refusal → Verdict
verdict_of_check None = Repeated
verdict_of_check (Some why) = Refused why

-- what the first check that applies says; accepted if none does
abbrev pub verdict_of_checks : Checks → Verdict
verdict_of_checks [] = Accepted
verdict_of_checks (check ∷ more) = if check.0 then verdict_of_check check.1 else verdict_of_checks more

-- ---- words of the checks

abbrev pub is_quarantined : Disposition → Bool
is_quarantined Quarantined = true
is_quarantined _ = false

abbrev pub is_released : Disposition → Bool
is_released Released = true
is_released _ = false

abbrev pub is_rejected : Disposition → Bool
is_rejected IsRejected = true
is_rejected _ = false

abbrev pub is_receipts : Origin → Bool
is_receipts Receipts = true
is_receipts _ = false

-- whether the lot is of this batch
abbrev pub is_made_by : Bytes → ℕ → Origin → Bool
is_made_by order number Receipts = false
is_made_by order number (Batch o n) = same_bytes o order && n == number

-- the amount in the sublot
abbrev pub amount_in : OwnerFacts → (lot sublot : Bytes) → ℕ
amount_in t lot sublot = option_map_or (λ row. row.amount) (t.sublot (lot, sublot)) 0

-- whether the source, or the lot's owner, is neither the owner nor HOUSE; or isn't the owner, for a production
abbrev pub crosses : Bytes → Role → Bytes → Bool
crosses o Consumed source = not (same_bytes source o || same_bytes source house_name)
crosses o Produced source = not (same_bytes source o)

-- ---- materials, tests, recipes

abbrev pub material_checks : OwnerFacts → MaterialRow → Checks
material_checks t row =
    (is_some (t.material row.material), Some MaterialExists)
    ∷ (nat_le MOST_MATERIALS t.materials, Some LimitReached)
    ∷ []

abbrev pub test_checks : OwnerFacts → TestRow → Checks
test_checks t row =
    (is_none (t.material row.material), Some UnknownMaterial)
    ∷ (is_some (t.test (row.material, row.test)), Some TestExists)
    ∷ (t.material_used row.material, Some MaterialInUse)
    ∷ (nat_le MOST_TESTS t.tests, Some LimitReached)
    ∷ []

abbrev pub recipe_checks : OwnerFacts → RecipeRow → Checks
recipe_checks t row =
    (is_some (t.recipe row.recipe), Some RecipeExists)
    ∷ (nat_le MOST_RECIPES t.recipes, Some LimitReached)
    ∷ []

abbrev pub requirement_key : RequirementRow → RequirementKey
requirement_key row = (row.recipe, row.segment, row.role, row.source, row.material)

-- over the tables of the owner, and of the source
abbrev pub requirement_checks : Bytes → OwnerFacts → OwnerFacts → RequirementRow → Checks
requirement_checks o t source row =
    (is_none (t.recipe row.recipe), Some UnknownRecipe)
    ∷ (t.recipe_used row.recipe, Some RecipeInUse)
    ∷ (is_some_where (λ recipe. nat_lt recipe.segments row.segment) (t.recipe row.recipe), Some BadSegment)
    ∷ (crosses o row.role row.source, Some CrossOwner)
    ∷ (is_none (source.material row.material), Some UnknownMaterial)
    ∷ (is_some (t.requirement (requirement_key row)), Some RequirementExists)
    ∷ (nat_le MOST_REQUIREMENTS t.requirements, Some LimitReached)
    ∷ []

-- ---- orders and batches

-- whether the order is by that recipe and of as many batches
abbrev pub is_equal_order : Placing → OrderRow → Bool
is_equal_order placing row = same_bytes row.recipe placing.recipe && row.batches == placing.batches

abbrev pub order_checks : OwnerFacts → Placing → Checks
order_checks t placing =
    (is_some_where (is_equal_order placing) (t.order placing.order), None)
    ∷ (is_some (t.order placing.order), Some OrderExists)
    ∷ (is_none (t.recipe placing.recipe), Some UnknownRecipe)
    ∷ (nat_le MOST_ORDERS t.orders, Some LimitReached)
    ∷ []

-- what cancelling an order and opening a batch of it have in common
abbrev pub uncancelled_order_checks : OwnerFacts → (order : Bytes) → Checks
uncancelled_order_checks t order =
    (is_none (t.order order), Some UnknownOrder)
    ∷ (is_some_where (λ row. row.cancelled) (t.order order), Some OrderCancelled)
    ∷ []

abbrev pub cancel_checks : OwnerFacts → (order : Bytes) → Checks
cancel_checks t order = uncancelled_order_checks t order ++ (nat_lt 0 (t.opened order), Some OrderStarted) ∷ []

-- whether the unit is known, and whether it is held
abbrev pub open_checks : OwnerFacts → (order : Bytes) → (known busy : Bool) → Checks
open_checks t order known busy =
    uncancelled_order_checks t order
    ++ (is_some_where (λ row. nat_le row.batches (t.opened order)) (t.order order), Some NoMoreBatches)
    ∷ (not known, Some UnknownUnit)
    ∷ (busy, Some UnitBusy)
    ∷ []

-- what a command to a batch, its closing, an actual and a view of it have in common
abbrev pub known_batch_checks : OwnerFacts → (order : Bytes) → (number : ℕ) → Checks
known_batch_checks t order number =
    (is_none (t.order order), Some UnknownOrder)
    ∷ (is_none (t.batch (order, number)), Some UnknownBatch)
    ∷ []

abbrev pub open_batch_checks : OwnerFacts → (order : Bytes) → (number : ℕ) → Checks
open_batch_checks t order number = known_batch_checks t order number ++ (is_some_where (λ row. row.closed) (t.batch (order, number)), Some BatchClosed) ∷ []

abbrev pub batch_command_checks : OwnerFacts → (order : Bytes) → (number : ℕ) → StateCommand → Checks
batch_command_checks t order number command = open_batch_checks t order number ++ (is_some_where (λ row. is_none (next_state row.state command)) (t.batch (order, number)), Some BadState) ∷ []

abbrev pub close_checks : OwnerFacts → (order : Bytes) → (number : ℕ) → Checks
close_checks t order number = open_batch_checks t order number ++ (is_some_where (λ row. not (may_close row.state)) (t.batch (order, number)), Some BadState) ∷ []

-- ---- movements

-- An equal movement under a known key is voided or repeated, and any other conflicts.
abbrev pub key_checks : OwnerFacts → MoveRow → Checks
key_checks t row =
    (is_some_where (same_movement row) (t.movement row.key) && t.voided row.key, Some Voided)
    ∷ (is_some_where (same_movement row) (t.movement row.key), None)
    ∷ (is_some (t.movement row.key), Some KeyConflict)
    ∷ []

-- whether one more movement of the owner is above the limit
abbrev pub movements_full : OwnerFacts → Bool
movements_full t = nat_le MOST_MOVEMENTS t.movements

abbrev pub receive_checks : OwnerFacts → (material lot : Bytes) → Checks
receive_checks t material lot =
    (is_none (t.material material), Some UnknownMaterial)
    ∷ (is_some_where (λ row. not (is_receipts row.origin)) (t.lot lot), Some WrongOrigin)
    ∷ (is_some_where (λ row. not (same_bytes row.material material)) (t.lot lot), Some WrongMaterial)
    ∷ (is_some_where (λ row. not (is_quarantined row.disposition)) (t.lot lot), Some NotQuarantined)
    ∷ (movements_full t || is_none (t.lot lot) && nat_le MOST_LOTS t.lots, Some LimitReached)
    ∷ []

-- the lot gives material to a shipment or a batch
abbrev pub giving_check : OwnerFacts → (lot : Bytes) → Checks
giving_check t lot = (is_some_where (λ row. not (is_released row.disposition)) (t.lot lot), Some NotReleased) ∷ []

-- the checks for taking material from a sublot: those of the lot, of the sublot, and of the room for the movement
abbrev pub taking_checks : (of_lot of_sublot : Checks) → (is_full : Bool) → OwnerFacts → (lot sublot : Bytes) → ℕ → Checks
taking_checks of_lot of_sublot is_full t lot sublot amount =
    (is_none (t.lot lot), Some UnknownLot)
    ∷ of_lot
    ++ (is_none (t.sublot (lot, sublot)), Some UnknownSublot)
    ∷ of_sublot
    ++ (nat_lt (amount_in t lot sublot) amount, Some NotEnough)
    ∷ (is_full, Some LimitReached)
    ∷ []

abbrev pub scrap_checks : OwnerFacts → (lot sublot : Bytes) → ℕ → Checks
scrap_checks t lot sublot amount = taking_checks [] [] (movements_full t) t lot sublot amount

abbrev pub split_checks : OwnerFacts → (lot sublot target : Bytes) → ℕ → Checks
split_checks t lot sublot target amount = (same_bytes sublot target, Some SameSublot) ∷ scrap_checks t lot sublot amount

abbrev pub ship_checks : OwnerFacts → (lot sublot : Bytes) → ℕ → Checks
ship_checks t lot sublot amount = taking_checks [] (giving_check t lot) (movements_full t) t lot sublot amount

-- the recipe of the order that is there
abbrev pub recipe_of_order : OwnerFacts → Bytes → Bytes
recipe_of_order t order = option_map_or (λ row. row.recipe) (t.order order) []

-- whether the segment is above those of the order's recipe
abbrev pub is_bad_segment : OwnerFacts → Bytes → ℕ → Bool
is_bad_segment t order segment = is_some_where (λ recipe. nat_lt recipe.segments segment) (t.recipe (recipe_of_order t order))

-- whether one more movement of the owner, or one more actual of the batch, is above the limit
abbrev pub actuals_full : OwnerFacts → Bytes → ℕ → Bool
actuals_full t order number = movements_full t || nat_le MOST_ACTUALS (t.actuals order number)

-- what consumptions and productions have in common
abbrev pub actual_checks : Bytes → OwnerFacts → (order : Bytes) → (number segment : ℕ) → Role → (material : Bytes) → LotId → Checks
actual_checks o t order number segment role material lot =
    open_batch_checks t order number
    ++ (is_some_where (λ row. is_idle row.state) (t.batch (order, number)), Some BatchIdle)
    ∷ (is_bad_segment t order segment, Some BadSegment)
    ∷ (crosses o role lot.owner, Some CrossOwner)
    ∷ (is_none (t.requirement (recipe_of_order t order, segment, role, lot.owner, material)), Some NotInRecipe)
    ∷ []

-- over the tables of the batch's owner, and of the lot's
abbrev pub consumed_checks : OwnerFacts → OwnerFacts → (order : Bytes) → (number : ℕ) → (material lot sublot : Bytes) → ℕ → Checks
consumed_checks t u order number material lot sublot amount =
    taking_checks ((is_some_where (λ row. not (same_bytes row.material material)) (u.lot lot), Some WrongMaterial) ∷ giving_check u lot) [] (actuals_full t order number) u lot sublot amount

abbrev pub produced_checks : OwnerFacts → (order : Bytes) → (number : ℕ) → (material lot : Bytes) → Checks
produced_checks t order number material lot =
    (is_some_where (λ row. not (is_made_by order number row.origin)) (t.lot lot), Some WrongOrigin)
    ∷ (is_some_where (λ row. not (same_bytes row.material material)) (t.lot lot), Some WrongMaterial)
    ∷ (is_some_where (λ row. not (is_quarantined row.disposition)) (t.lot lot), Some NotQuarantined)
    ∷ (actuals_full t order number || is_none (t.lot lot) && nat_le MOST_LOTS t.lots, Some LimitReached)
    ∷ []

-- the tables of a lot's owner, which is the owner or HOUSE
abbrev pub tables_for : Bytes → OwnerFacts → OwnerFacts → Bytes → OwnerFacts
tables_for o t house source = if same_bytes source o then t else house

abbrev pub movement_checks : Bytes → OwnerFacts → OwnerFacts → Move → ℕ → Checks
movement_checks o t house (Receive material lot sublot) amount = receive_checks t material lot
movement_checks o t house (Split lot sublot target) amount = split_checks t lot sublot target amount
movement_checks o t house (Ship lot sublot) amount = ship_checks t lot sublot amount
movement_checks o t house (Scrap lot sublot) amount = scrap_checks t lot sublot amount
movement_checks o t house (Actual order number segment Consumed material lot sublot) amount =
    actual_checks o t order number segment Consumed material lot ++ consumed_checks t (tables_for o t house lot.owner) order number material lot.lot sublot amount
movement_checks o t house (Actual order number segment Produced material lot sublot) amount =
    actual_checks o t order number segment Produced material lot ++ produced_checks t order number material lot.lot

-- ---- results and dispositions

abbrev pub result_checks : OwnerFacts → (lot test : Bytes) → Checks
result_checks t lot test =
    (is_none (t.lot lot), Some UnknownLot)
    ∷ (is_some_where (λ row. is_none (t.test (row.material, test))) (t.lot lot), Some UnknownTest)
    ∷ (is_some_where (λ row. is_rejected row.disposition) (t.lot lot), Some Rejected)
    ∷ (nat_le MOST_RESULTS t.results, Some LimitReached)
    ∷ []

-- whether some test of the lot's material has no latest value within its limits
abbrev pub tests_open : OwnerFacts → (lot : Bytes) → Bool
tests_open t lot = is_some_where (λ known. t.any_test (λ row. same_bytes row.material known.material && not (is_some_where (λ value. not (is_outside row.limits value)) (t.latest lot row.test)))) (t.lot lot)

abbrev pub release_checks : OwnerFacts → (lot : Bytes) → Checks
release_checks t lot =
    (is_none (t.lot lot), Some UnknownLot)
    ∷ (is_some_where (λ row. not (is_quarantined row.disposition)) (t.lot lot), Some NotQuarantined)
    ∷ (tests_open t lot, Some TestsOpen)
    ∷ []

abbrev pub reject_checks : OwnerFacts → (lot : Bytes) → Checks
reject_checks t lot =
    (is_none (t.lot lot), Some UnknownLot)
    ∷ (is_some_where (λ row. is_rejected row.disposition) (t.lot lot), Some Rejected)
    ∷ []

-- ---- voiding an actual

-- whether the batch of the actual is closed
abbrev pub is_of_closed : OwnerFacts → Move → Bool
is_of_closed t (Actual order number segment role material lot sublot) = is_some_where (λ row. row.closed) (t.batch (order, number))
is_of_closed t _ = false

-- whether the movement is a production of more than its sublot holds
abbrev pub takes_too_much : OwnerFacts → ℕ → Move → Bool
takes_too_much t amount (Actual order number segment Produced material lot sublot) = nat_lt (amount_in t lot.lot sublot) amount
takes_too_much t amount _ = false

abbrev pub void_checks : OwnerFacts → (key : Bytes) → Checks
void_checks t key =
    (not (is_some_where (λ row. is_actual row.what) (t.movement key)), Some UnknownKey)
    ∷ (t.voided key, Some Voided)
    ∷ (is_some_where (λ row. is_of_closed t row.what) (t.movement key), Some BatchClosed)
    ∷ (is_some_where (λ row. takes_too_much t row.amount row.what) (t.movement key), Some NotEnough)
    ∷ []

-- ---- the verdict

-- what the plant alone sees: owners and units
pub record PlantFacts : Type 0 where
  pub owner_known : Bytes → Bool
  pub owners : ℕ
  pub unit_known : Bytes → Bool
  pub units : ℕ
  pub unit_busy : Bytes → Bool

abbrev pub plant_facts_given : History → PlantFacts
plant_facts_given H = record {
  owner_known = owner_known H;
  owners = count_owners H;
  unit_known = unit_known H;
  units = count_units H;
  unit_busy = λ unit. is_some (holder H unit);
}

-- the checks of an owner's action, over the owner's tables and HOUSE's
abbrev pub action_checks : PlantFacts → Bytes → OwnerFacts → OwnerFacts → Action → Checks
action_checks p o t house (AddOwner key) = (p.owner_known o, Some OwnerExists) ∷ (nat_le MOST_OWNERS p.owners, Some LimitReached) ∷ []
action_checks p o t house (AddUnit unit) = (p.unit_known unit, Some UnitExists) ∷ (nat_le MOST_UNITS p.units, Some LimitReached) ∷ []
action_checks p o t house (AddMaterial row) = material_checks t row
action_checks p o t house (AddTest row) = test_checks t row
action_checks p o t house (AddRecipe row) = recipe_checks t row
action_checks p o t house (Require row) = requirement_checks o t (tables_for o t house row.source) row
action_checks p o t house (PlaceOrder placing) = order_checks t placing
action_checks p o t house (CancelOrder order) = cancel_checks t order
action_checks p o t house (OpenBatch order unit) = open_checks t order (p.unit_known unit) (p.unit_busy unit)
action_checks p o t house (CommandBatch order number command) = batch_command_checks t order number command
action_checks p o t house (CloseBatch order number) = close_checks t order number
action_checks p o t house (Record row) = key_checks t row ++ movement_checks o t house row.what row.amount
action_checks p o t house (RecordResult lot test value day) = result_checks t lot test
action_checks p o t house (Release lot) = release_checks t lot
action_checks p o t house (Reject lot) = reject_checks t lot
action_checks p o t house (Void key) = void_checks t key

-- whether the action needs its owner to be known: each one does but adding an owner
abbrev pub needs_owner : Action → Bool
needs_owner (AddOwner key) = false
needs_owner _ = true

unfoldable pub checks : History → Command → Checks
checks H c = (needs_owner c.action && not (owner_known H c.owner), Some UnknownOwner) ∷ action_checks (plant_facts_given H) c.owner (facts_given H c.owner) (facts_given H house_name) c.action

-- the verdict on a command after a history
abbrev pub verdict : History → Command → Verdict
verdict H c = verdict_of_checks (checks H c)

-- the history after a command that is judged so
abbrev pub grown : Verdict → History → Command → History
grown Accepted H c = c ∷ H
grown _ H c = H

-- the history after a command: it is added if it is accepted
abbrev pub grow : History → Command → History
grow H c = grown (verdict H c) H c

-- ---- lawful histories

-- The amount of a movement is valid, and so is the number of an order's batches.
abbrev pub IsValidAction : Action → Type 0
IsValidAction (Record row) = IsAmount row.amount
IsValidAction (PlaceOrder placing) = IsBatchNo placing.batches
IsValidAction _ = Unit {0}

-- Each command was accepted over those before it.
abbrev pub IsLawful : History → Type 0
IsLawful [] = Unit {0}
IsLawful (c ∷ H) = IsLawful H × IsValidAction c.action × (verdict H c ≡ Accepted)
