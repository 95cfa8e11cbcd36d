-- Histories that worked examples begin with, and the verdicts on further commands.
use Rattle.std.specs.Prelude.{◌≡◌, ℕ, pos, negsuc, List, [], ◌∷◌, ◌++◌, map, codes}
use Rattle.toll_history.specs.Common.{placing_of, Bytes, house_name, lot_id, LotId, Role, Consumed, Produced, Receive, Split, Ship, Scrap, Actual, State, StateCommand}
use Rattle.toll_history.specs.Command.{Action, AddOwner, AddUnit, AddMaterial, AddTest, AddRecipe, Require, PlaceOrder, CancelOrder, OpenBatch, CommandBatch, CloseBatch, RecordResult, Release, Reject, Void, Command, by, moves}
use Rattle.toll_history.specs.History.{History}
use Rattle.toll_history.specs.Verdict.{Verdict, Accepted, Repeated, Refused, verdict, grow}
use Rattle.toll_history.specs.Work.{state_of}
use Rattle.toll_base.specs.declared.refusal.Refusal.TheVariants.{UnknownOwner, OwnerExists, UnitExists, UnitBusy, UnknownRecipe, RecipeInUse, OrderCancelled, NoMoreBatches, BadState, BatchClosed, UnknownLot, NotReleased, NotEnough, SameSublot, KeyConflict, TestsOpen, CrossOwner, UnknownKey, Voided, Rejected as WasRejected}
use Rattle.toll_base.specs.declared.state_command.StateCommand.TheVariants.{Done, Start, Stop, Hold, Restart, Reset, Pause}

-- the history after these commands, the first one first
abbrev pub history_after : History → List Command → History
history_after H [] = H
history_after H (c ∷ commands) = history_after (grow H c) commands

-- the verdicts along these commands, the first one first
abbrev pub verdicts : History → List Command → List Verdict
verdicts H [] = []
verdicts H (c ∷ commands) = verdict H c ∷ verdicts (grow H c) commands

-- ---- short words for commands

abbrev pub acme : Bytes
acme = codes "ACME"

abbrev pub bolt : Bytes
bolt = codes "BOLT"

abbrev pub material : Bytes → Bytes → Command
material o m = by o (AddMaterial (record { material = m; measure = codes "kg" }))

abbrev pub require : Bytes → (recipe : Bytes) → (segment : ℕ) → Role → (source material : Bytes) → (amount : ℕ) → Command
require o r g role source m amount = by o (Require (record { recipe = r; segment = g; role = role; source = source; material = m; amount = amount }))

abbrev pub receives : Bytes → (key material lot sublot : Bytes) → (amount day : ℕ) → Command
receives o key m lot sublot amount day = moves o key (Receive m lot sublot) amount day

-- an actual of batch 1 of ACME's order O
abbrev pub actual : (key : Bytes) → (segment : ℕ) → Role → (material : Bytes) → LotId → (sublot : Bytes) → (amount day : ℕ) → Command
actual key segment role m lot sublot amount day = moves acme key (Actual (codes "O") 1 segment role m lot sublot) amount day

-- ---- the setups

-- the commands before the first setup's receipt
abbrev pub groundwork : List Command
groundwork =
    by acme (AddOwner (codes "ACMEKEY1"))
    ∷ by bolt (AddOwner (codes "BOLTKEY1"))
    ∷ by house_name (AddUnit (codes "U1"))
    ∷ material acme (codes "M")
    ∷ material acme (codes "P")
    ∷ by acme (AddRecipe (record { recipe = codes "R"; segments = 2 }))
    ∷ require acme (codes "R") 1 Consumed acme (codes "M") 100
    ∷ require acme (codes "R") 1 Produced acme (codes "P") 90
    ∷ []

-- the material comes, and the batch starts
abbrev pub batch_started : List Command
batch_started =
    receives acme (codes "K1") (codes "M") (codes "A") (codes "S1") 100 10
    ∷ by acme (PlaceOrder (placing_of (codes "O") (codes "R") 1))
    ∷ by acme (Release (codes "A"))
    ∷ by acme (OpenBatch (codes "O") (codes "U1"))
    ∷ by acme (CommandBatch (codes "O") 1 Start)
    ∷ []

-- ACME's lot A of 100 kg is released, and batch 1 of its order O runs on unit U1
abbrev pub setup_one : List Command
setup_one = groundwork ++ batch_started

-- the same, if the recipe's second segment consumes what the first produces
abbrev pub product_consumed : History
product_consumed = history_after [] (groundwork ++ (require acme (codes "R") 2 Consumed acme (codes "P") 1 ∷ batch_started))

abbrev pub one_batch : History
one_batch = history_after [] setup_one

-- ACME's batch consumes lot A of its own and H-1 of HOUSE and produces P1, and then consumes B in a later segment
abbrev pub setup_two : List Command
setup_two =
    by acme (AddOwner (codes "ACMEKEY1"))
    ∷ by house_name (AddUnit (codes "U1"))
    ∷ material acme (codes "M")
    ∷ material acme (codes "P")
    ∷ material house_name (codes "W")
    ∷ by acme (AddRecipe (record { recipe = codes "R"; segments = 2 }))
    ∷ require acme (codes "R") 1 Consumed acme (codes "M") 10
    ∷ require acme (codes "R") 1 Consumed house_name (codes "W") 10
    ∷ require acme (codes "R") 1 Produced acme (codes "P") 10
    ∷ require acme (codes "R") 2 Consumed acme (codes "M") 10
    ∷ receives acme (codes "K1") (codes "M") (codes "A") (codes "S") 10 1
    ∷ receives acme (codes "K2") (codes "M") (codes "B") (codes "S") 10 1
    ∷ receives house_name (codes "K1") (codes "W") (codes "H-1") (codes "S") 10 1
    ∷ by house_name (Release (codes "H-1"))
    ∷ by acme (Release (codes "A"))
    ∷ by acme (Release (codes "B"))
    ∷ by acme (PlaceOrder (placing_of (codes "O") (codes "R") 1))
    ∷ by acme (OpenBatch (codes "O") (codes "U1"))
    ∷ by acme (CommandBatch (codes "O") 1 Start)
    ∷ actual (codes "K3") 1 Consumed (codes "M") (lot_id acme (codes "A")) (codes "S") 10 2
    ∷ actual (codes "K4") 1 Consumed (codes "W") (lot_id house_name (codes "H-1")) (codes "S") 10 2
    ∷ actual (codes "K5") 1 Produced (codes "P") (lot_id acme (codes "P1")) (codes "S") 10 2
    ∷ actual (codes "K6") 2 Consumed (codes "M") (lot_id acme (codes "B")) (codes "S") 10 3
    ∷ []

abbrev pub one_product : History
one_product = history_after [] setup_two

-- every command of a list is accepted, one after the other
abbrev pub accepted_verdicts : List Command → List Verdict
accepted_verdicts [] = []
accepted_verdicts (c ∷ commands) = Accepted ∷ accepted_verdicts commands

-- the states of a batch before these commands to it and after each, if each leads somewhere
abbrev pub batch_states : List Action → (order : Bytes) → (number : ℕ) → List StateCommand → List State
batch_states own order number [] = state_of own order number ∷ []
batch_states own order number (command ∷ commands) = state_of own order number ∷ batch_states (CommandBatch order number command ∷ own) order number commands

-- in the first setup: 40 of A consumed, 50 of P1 produced, and 20 of it scrapped
abbrev pub with_two_actuals : History
with_two_actuals =
    history_after one_batch (
    actual (codes "K2") 1 Consumed (codes "M") (lot_id acme (codes "A")) (codes "S1") 40 11
    ∷ actual (codes "K3") 1 Produced (codes "P") (lot_id acme (codes "P1")) (codes "S1") 50 11
    ∷ moves acme (codes "K4") (Scrap (codes "P1") (codes "S1")) 20 12
    ∷ [])

-- ---- a lot that is tested

-- ACME's lot A passes its one test and is released
abbrev pub tested_lot : History
tested_lot =
    history_after [] (
    by acme (AddOwner (codes "ACMEKEY1"))
    ∷ material acme (codes "M")
    ∷ by acme (AddTest (record { material = codes "M"; test = codes "PH"; limits = record { low = negsuc 4; high = pos 8; ordered = _ } }))
    ∷ receives acme (codes "K1") (codes "M") (codes "A") (codes "S") 10 1
    ∷ by acme (RecordResult (codes "A") (codes "PH") (pos 8) 1)
    ∷ by acme (Release (codes "A"))
    ∷ [])

-- the same lot, which then fails its test
abbrev pub failed_lot : History
failed_lot = history_after tested_lot (by acme (RecordResult (codes "A") (codes "PH") (pos 9) 2) ∷ [])

-- ---- the verdicts along commands

-- These commands, in order, have these verdicts.
abbrev pub HaveVerdicts : History → List (Command × Verdict) → Type 0
HaveVerdicts H reported = verdicts H (map (λ t. t.0) reported) ≡ map (λ t. t.1) reported

-- BOLT opens a batch on the unit that ACME's holds
abbrev pub held_unit : List (Command × Verdict)
held_unit =
    (by bolt (AddRecipe (record { recipe = codes "R"; segments = 1 })), Accepted)
    ∷ (by bolt (PlaceOrder (placing_of (codes "O") (codes "R") 1)), Accepted)
    ∷ (by bolt (OpenBatch (codes "O") (codes "U1")), Refused UnitBusy)
    ∷ []

-- commands to a batch: those of its states, its closing, and the opening of one more
abbrev pub states_gone_through : List (Command × Verdict)
states_gone_through =
    (by acme (CommandBatch (codes "O") 1 Pause), Accepted)
    ∷ (by acme (CommandBatch (codes "O") 1 Hold), Accepted)
    ∷ (by acme (CommandBatch (codes "O") 1 Done), Accepted)
    ∷ (by acme (CommandBatch (codes "O") 1 Pause), Refused BadState)
    ∷ (by acme (CommandBatch (codes "O") 1 Restart), Accepted)
    ∷ (by acme (CommandBatch (codes "O") 1 Stop), Accepted)
    ∷ (by acme (CommandBatch (codes "O") 1 Done), Accepted)
    ∷ (by acme (CommandBatch (codes "O") 1 Reset), Accepted)
    ∷ (by acme (CommandBatch (codes "O") 1 Start), Accepted)
    ∷ (by acme (CloseBatch (codes "O") 1), Refused BadState)
    ∷ (by acme (CommandBatch (codes "O") 1 Done), Accepted)
    ∷ (by acme (CloseBatch (codes "O") 1), Accepted)
    ∷ (by acme (CloseBatch (codes "O") 1), Refused BatchClosed)
    ∷ (by acme (OpenBatch (codes "O") (codes "U1")), Refused NoMoreBatches)
    ∷ []

-- the same consumption twice, then with another amount, and one of more than is there
abbrev pub stock_used_up : List (Command × Verdict)
stock_used_up =
    (actual (codes "K2") 1 Consumed (codes "M") (lot_id acme (codes "A")) (codes "S1") 100 11, Accepted)
    ∷ (actual (codes "K2") 1 Consumed (codes "M") (lot_id acme (codes "A")) (codes "S1") 100 11, Repeated)
    ∷ (actual (codes "K2") 1 Consumed (codes "M") (lot_id acme (codes "A")) (codes "S1") 99 11, Refused KeyConflict)
    ∷ (actual (codes "K3") 1 Consumed (codes "M") (lot_id acme (codes "A")) (codes "S1") 1 11, Refused NotEnough)
    ∷ []

-- a lot with one test: its release before a result, within the limits at their end, and after one out of them
abbrev pub results_and_releases : List (Command × Verdict)
results_and_releases =
    (by acme (AddOwner (codes "ACMEKEY1")), Accepted)
    ∷ (material acme (codes "M"), Accepted)
    ∷ (by acme (AddTest (record { material = codes "M"; test = codes "PH"; limits = record { low = negsuc 4; high = pos 8; ordered = _ } })), Accepted)
    ∷ (receives acme (codes "K1") (codes "M") (codes "A") (codes "S") 10 1, Accepted)
    ∷ (by acme (Release (codes "A")), Refused TestsOpen)
    ∷ (by acme (RecordResult (codes "A") (codes "PH") (pos 8) 1), Accepted)
    ∷ (by acme (Release (codes "A")), Accepted)
    ∷ (by acme (RecordResult (codes "A") (codes "PH") (pos 9) 2), Accepted)
    ∷ (moves acme (codes "K9") (Ship (codes "A") (codes "S")) 1 3, Refused NotReleased)
    ∷ (by acme (Reject (codes "A")), Accepted)
    ∷ (by acme (Reject (codes "A")), Refused WasRejected)
    ∷ []

-- a product is consumed before it is known, before it is released, and after it
abbrev pub product_consumed_once_released : List (Command × Verdict)
product_consumed_once_released =
    (actual (codes "K2") 2 Consumed (codes "P") (lot_id acme (codes "P1")) (codes "S1") 1 11, Refused UnknownLot)
    ∷ (actual (codes "K3") 1 Produced (codes "P") (lot_id acme (codes "P1")) (codes "S1") 30 11, Accepted)
    ∷ (actual (codes "K2") 2 Consumed (codes "P") (lot_id acme (codes "P1")) (codes "S1") 1 11, Refused NotReleased)
    ∷ (actual (codes "K3") 1 Produced (codes "P") (lot_id acme (codes "P1")) (codes "S1") 30 11, Repeated)
    ∷ (by acme (Release (codes "P1")), Accepted)
    ∷ (actual (codes "K2") 2 Consumed (codes "P") (lot_id acme (codes "P1")) (codes "S1") 1 11, Accepted)
    ∷ (actual (codes "K3") 1 Produced (codes "P") (lot_id acme (codes "P1")) (codes "S1") 30 11, Repeated)
    ∷ []

-- a sublot is split, and its parts scrapped and shipped to their ends
abbrev pub sublots_used_up : List (Command × Verdict)
sublots_used_up =
    (moves acme (codes "K4") (Split (codes "A") (codes "S1") (codes "S2")) 30 12, Accepted)
    ∷ (moves acme (codes "K5") (Split (codes "A") (codes "S1") (codes "S1")) 1 12, Refused SameSublot)
    ∷ (moves acme (codes "K6") (Scrap (codes "A") (codes "S2")) 30 12, Accepted)
    ∷ (moves acme (codes "K7") (Ship (codes "A") (codes "S1")) 70 12, Accepted)
    ∷ []

-- an order is cancelled, placed again, and opened
abbrev pub order_cancelled : List (Command × Verdict)
order_cancelled =
    (by acme (AddOwner (codes "ACMEKEY1")), Accepted)
    ∷ (by acme (AddRecipe (record { recipe = codes "R-1"; segments = 2 })), Accepted)
    ∷ (by acme (PlaceOrder (placing_of (codes "O-1") (codes "R-1") 2)), Accepted)
    ∷ (by acme (CancelOrder (codes "O-1")), Accepted)
    ∷ (by acme (PlaceOrder (placing_of (codes "O-1") (codes "R-1") 2)), Repeated)
    ∷ (by acme (CancelOrder (codes "O-1")), Refused OrderCancelled)
    ∷ (by house_name (AddUnit (codes "U1")), Accepted)
    ∷ (by acme (OpenBatch (codes "O-1") (codes "U1")), Refused OrderCancelled)
    ∷ []

-- commands of the plant that are refused, and what they need
abbrev pub plants_refusals : List (Command × Verdict)
plants_refusals =
    (by house_name (PlaceOrder (placing_of (codes "HO") (codes "NONE") 1)), Refused UnknownRecipe)
    ∷ (by house_name (AddRecipe (record { recipe = codes "HB"; segments = 1 })), Accepted)
    ∷ (by house_name (PlaceOrder (placing_of (codes "HO") (codes "HB") 1)), Accepted)
    ∷ (by house_name (CancelOrder (codes "HO")), Accepted)
    ∷ (by house_name (CancelOrder (codes "HO")), Refused OrderCancelled)
    ∷ (require acme (codes "R") 1 Consumed bolt (codes "M") 1, Refused RecipeInUse)
    ∷ (by acme (AddRecipe (record { recipe = codes "R2"; segments = 1 })), Accepted)
    ∷ (require acme (codes "R2") 1 Consumed bolt (codes "M") 1, Refused CrossOwner)
    ∷ (by house_name (Release (codes "H-1")), Refused UnknownLot)
    ∷ (by house_name (Reject (codes "H-1")), Refused UnknownLot)
    ∷ (by (codes "NOBODY") (CancelOrder (codes "O")), Refused UnknownOwner)
    ∷ (by house_name (AddOwner (codes "HOUSEKEY1")), Refused OwnerExists)
    ∷ (by house_name (AddUnit (codes "U1")), Refused UnitExists)
    ∷ []

-- voids of a production whose product is used up, of a consumption, of the same consumption again, of keys without an actual, and in a
-- closed batch
abbrev pub actuals_voided : List (Command × Verdict)
actuals_voided =
    (by acme (Void (codes "K3")), Refused NotEnough)
    ∷ (by acme (Void (codes "K2")), Accepted)
    ∷ (by acme (Void (codes "K2")), Refused Voided)
    ∷ (actual (codes "K2") 1 Consumed (codes "M") (lot_id acme (codes "A")) (codes "S1") 40 11, Refused Voided)
    ∷ (actual (codes "K2") 1 Consumed (codes "M") (lot_id acme (codes "A")) (codes "S1") 41 11, Refused KeyConflict)
    ∷ (by acme (Void (codes "K1")), Refused UnknownKey)
    ∷ (by acme (Void (codes "K9")), Refused UnknownKey)
    ∷ (by acme (CommandBatch (codes "O") 1 Stop), Accepted)
    ∷ (by acme (CommandBatch (codes "O") 1 Done), Accepted)
    ∷ (by acme (CloseBatch (codes "O") 1), Accepted)
    ∷ (by acme (Void (codes "K3")), Refused BatchClosed)
    ∷ (by acme (Void (codes "K2")), Refused Voided)
    ∷ []
