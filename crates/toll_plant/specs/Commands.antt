-- The commands that values make.
use Rattle.std.specs.Prelude.{ℕ, ℤ, ◌≤ℤ◌, Bool, true, false, T, List, [], ◌∷◌, Option, Some, None, option_map, refl}
use Rattle.std.specs.Int.Signed.{le_z, le_z_yes}
use Rattle.toll_plant.specs.Common.{Bytes, BadAmount, PlantCmd}
use Rattle.toll_base.specs.Lots.{lot_id}
use Rattle.toll_base.specs.Rows.{placing_of}
use Rattle.toll_base.specs.declared.movement.Move.TheVariants as move
use Rattle.toll_base.specs.declared.limits.Limits.{Limits}
use Rattle.toll_answers.specs.declared.actual_row.ActualRow.{ActualRow}
use Rattle.toll_answers.specs.declared.plant_cmd.PlantCmd.TheVariants as cmd
use Rattle.toll_plant.specs.declared.taken.Taken.{Taken}
use Rattle.toll_plant.specs.declared.command.CommandName.{CommandName}
use Rattle.toll_plant.specs.declared.command.CommandName.TheVariants as called
use Rattle.toll_plant.specs.declared.argument.ArgumentValue.{ArgumentValue}
use Rattle.toll_plant.specs.declared.argument.ArgumentValue.TheVariants.{Name, OwnerKey, Measure, Role, Way, StateCommand, Amount, Day, Segment, BatchNo, Value}

-- the limits, if the test says that the low one is not above the high one
abbrev pub limits_if : (low high : ℤ) (b : Bool) → (T b → low ≤ℤ high) → Option Limits
limits_if low high true ordered = Some (record { low = low; high = high; ordered = ordered tt })
limits_if low high false ordered = None

-- the limits, if the low one is not above the high one
abbrev pub limits_of : ℤ → ℤ → Option Limits
limits_of low high = limits_if low high (le_z low high) le_z_yes

-- the command that adds a test with these limits, or its refusal if there are none
abbrev pub test_add : (owner material test : Bytes) → Option Limits → PlantCmd
test_add owner material test (Some limits) = cmd.TestAdd owner material test limits
test_add owner material test None = cmd.Unread BadAmount

-- what was consumed or produced, if these are its values
abbrev pub taken_from : List ArgumentValue → Option Taken
taken_from (Role role ∷ Name material ∷ Name lot_owner ∷ Name lot ∷ Name sublot ∷ Amount amount ∷ Day day ∷ []) = Some (record { role = role; material = material; lot = lot_id lot_owner lot; sublot = sublot; amount = amount; day = day })
taken_from _ = None

-- the row of an actual of this segment of a batch
abbrev pub actual_row : (key order : Bytes) (number segment : ℕ) → Taken → ActualRow
actual_row key order number segment t = record {
  movement = record { key = key; what = move.Actual order number segment t.role t.material t.lot t.sublot; amount = t.amount; day = t.day };
  actual = refl;
}

-- an actual of this segment of a batch
abbrev pub actual_command : (key owner order : Bytes) (number segment : ℕ) → Taken → PlantCmd
actual_command key owner order number segment t = cmd.Actual owner (actual_row key order number segment t)

-- the command with this name and these values, if they fit the name
abbrev pub command_from : CommandName → List ArgumentValue → Option PlantCmd
command_from called.OwnerAdd (Name owner ∷ OwnerKey key ∷ []) = Some (cmd.OwnerAdd owner key)
command_from called.UnitAdd (Name unit ∷ []) = Some (cmd.UnitAdd unit)
command_from called.MaterialAdd (Name owner ∷ Name material ∷ Measure measure ∷ []) = Some (cmd.MaterialAdd owner material measure)
command_from called.TestAdd (Name owner ∷ Name material ∷ Name test ∷ Value low ∷ Value high ∷ []) = Some (test_add owner material test (limits_of low high))
command_from called.RecipeAdd (Name owner ∷ Name recipe ∷ Segment segments ∷ []) = Some (cmd.RecipeAdd owner recipe segments)
command_from called.Require (Name owner ∷ Name recipe ∷ Segment segment ∷ Role role ∷ Name source ∷ Name material ∷ Amount amount ∷ []) = Some (cmd.Require owner (record { recipe = recipe; segment = segment; role = role; source = source; material = material; amount = amount }))
command_from called.Order (Name order ∷ Name recipe ∷ BatchNo batches ∷ []) = Some (cmd.Order (placing_of order recipe batches))
command_from called.Cancel (Name order ∷ []) = Some (cmd.Cancel order)
command_from called.Open (Name owner ∷ Name order ∷ Name unit ∷ []) = Some (cmd.Open owner order unit)
command_from called.Do (Name owner ∷ Name order ∷ BatchNo number ∷ StateCommand command ∷ []) = Some (cmd.Do owner order number command)
command_from called.Close (Name owner ∷ Name order ∷ BatchNo number ∷ []) = Some (cmd.Close owner order number)
command_from called.Receive (Name owner ∷ Name key ∷ Name material ∷ Name lot ∷ Name sublot ∷ Amount amount ∷ Day day ∷ []) = Some (cmd.Receive owner key material lot sublot amount day)
command_from called.Split (Name owner ∷ Name key ∷ Name lot ∷ Name sublot ∷ Name target ∷ Amount amount ∷ Day day ∷ []) = Some (cmd.Split owner key lot sublot target amount day)
command_from called.Ship (Name owner ∷ Name key ∷ Name lot ∷ Name sublot ∷ Amount amount ∷ Day day ∷ []) = Some (cmd.Ship owner key lot sublot amount day)
command_from called.Scrap (Name owner ∷ Name key ∷ Name lot ∷ Name sublot ∷ Amount amount ∷ Day day ∷ []) = Some (cmd.Scrap owner key lot sublot amount day)
command_from called.Result (Name owner ∷ Name lot ∷ Name test ∷ Value value ∷ Day day ∷ []) = Some (cmd.Result owner lot test value day)
command_from called.Release (Name lot ∷ []) = Some (cmd.Release lot)
command_from called.Reject (Name lot ∷ []) = Some (cmd.Reject lot)
command_from called.Actual (Name key ∷ Name owner ∷ Name order ∷ BatchNo number ∷ Segment segment ∷ rest) = option_map (actual_command key owner order number segment) (taken_from rest)
command_from called.Void (Name owner ∷ Name key ∷ []) = Some (cmd.Void owner key)
command_from called.Orders (Name owner ∷ []) = Some (cmd.Orders owner)
command_from called.Stock (Name owner ∷ []) = Some (cmd.Stock owner)
command_from called.Batch (Name owner ∷ Name order ∷ BatchNo number ∷ []) = Some (cmd.Batch owner order number)
command_from called.Trace (Name owner ∷ Name lot ∷ Way way ∷ []) = Some (cmd.Trace (lot_id owner lot) way)
command_from called.Recall (Name owner ∷ Name lot ∷ []) = Some (cmd.Recall (lot_id owner lot))
command_from _ _ = None
