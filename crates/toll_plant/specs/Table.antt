-- The table of the plant's commands.
use Rattle.std.specs.Prelude.{List, [], ◌∷◌, codes}
use Rattle.toll_base.specs.Bytes.{Bytes}
use Rattle.toll_plant.specs.Lines.{Argument, Line}
use Rattle.toll_plant.specs.declared.argument.ArgumentKind.{ArgumentKind}
use Rattle.toll_plant.specs.declared.argument.ArgumentKind.TheVariants.{Name, OwnerKey, Measure, Role, Way, StateCommand, Amount, Day, Segment, BatchNo, Value}
use Rattle.toll_plant.specs.declared.command.CommandName.{CommandName}
use Rattle.toll_plant.specs.declared.command.CommandName.TheVariants as to

-- an argument with this name, which is read in this way
abbrev value : Bytes → ArgumentKind → Argument
value name reading = record { name = name; reading = reading }

-- the line of a command with this name and these values
abbrev command_line : Bytes → CommandName → List Argument → Line
command_line name command values = record { name = name; command = command; values = values }

-- the arguments of commands
abbrev owner_value : Argument
owner_value = value (codes "OWNER") Name

abbrev owner_key_value : Argument
owner_key_value = value (codes "KEY") OwnerKey

abbrev unit_value : Argument
unit_value = value (codes "UNIT") Name

abbrev material_value : Argument
material_value = value (codes "MATERIAL") Name

abbrev measure_value : Argument
measure_value = value (codes "MEASURE") Measure

abbrev test_value : Argument
test_value = value (codes "TEST") Name

abbrev low_value : Argument
low_value = value (codes "LOW") Value

abbrev high_value : Argument
high_value = value (codes "HIGH") Value

abbrev recipe_value : Argument
recipe_value = value (codes "RECIPE") Name

abbrev segments_value : Argument
segments_value = value (codes "SEGMENTS") Segment

abbrev segment_value : Argument
segment_value = value (codes "SEGMENT") Segment

abbrev role_value : Argument
role_value = value (codes "USE") Role

abbrev source_value : Argument
source_value = value (codes "SOURCE") Name

abbrev amount_value : Argument
amount_value = value (codes "AMOUNT") Amount

abbrev order_value : Argument
order_value = value (codes "ORDER") Name

abbrev batches_value : Argument
batches_value = value (codes "BATCHES") BatchNo

abbrev batch_value : Argument
batch_value = value (codes "BATCH") BatchNo

abbrev command_value : Argument
command_value = value (codes "COMMAND") StateCommand

abbrev key_value : Argument
key_value = value (codes "KEY") Name

abbrev lot_value : Argument
lot_value = value (codes "LOT") Name

abbrev sublot_value : Argument
sublot_value = value (codes "SUBLOT") Name

abbrev target_value : Argument
target_value = value (codes "TARGET") Name

abbrev day_value : Argument
day_value = value (codes "DAY") Day

abbrev found_value : Argument
found_value = value (codes "VALUE") Value

abbrev lot_owner_value : Argument
lot_owner_value = value (codes "LOT-OWNER") Name

abbrev way_value : Argument
way_value = value (codes "WAY") Way

-- the line of an actual of a batch
abbrev pub actual_line : Line
actual_line = command_line (codes "actual") to.Actual (key_value ∷ owner_value ∷ order_value ∷ batch_value ∷ segment_value ∷ role_value ∷ material_value ∷ lot_owner_value ∷ lot_value ∷ sublot_value ∷ amount_value ∷ day_value ∷ [])

-- the lines of all commands, each with its values in order
abbrev pub command_lines : List Line
command_lines =
    command_line (codes "owner-add") to.OwnerAdd (owner_value ∷ owner_key_value ∷ [])
    ∷ command_line (codes "unit-add") to.UnitAdd (unit_value ∷ [])
    ∷ command_line (codes "material-add") to.MaterialAdd (owner_value ∷ material_value ∷ measure_value ∷ [])
    ∷ command_line (codes "test-add") to.TestAdd (owner_value ∷ material_value ∷ test_value ∷ low_value ∷ high_value ∷ [])
    ∷ command_line (codes "recipe-add") to.RecipeAdd (owner_value ∷ recipe_value ∷ segments_value ∷ [])
    ∷ command_line (codes "require") to.Require (owner_value ∷ recipe_value ∷ segment_value ∷ role_value ∷ source_value ∷ material_value ∷ amount_value ∷ [])
    ∷ command_line (codes "order") to.Order (order_value ∷ recipe_value ∷ batches_value ∷ [])
    ∷ command_line (codes "cancel") to.Cancel (order_value ∷ [])
    ∷ command_line (codes "open") to.Open (owner_value ∷ order_value ∷ unit_value ∷ [])
    ∷ command_line (codes "do") to.Do (owner_value ∷ order_value ∷ batch_value ∷ command_value ∷ [])
    ∷ command_line (codes "close") to.Close (owner_value ∷ order_value ∷ batch_value ∷ [])
    ∷ command_line (codes "receive") to.Receive (owner_value ∷ key_value ∷ material_value ∷ lot_value ∷ sublot_value ∷ amount_value ∷ day_value ∷ [])
    ∷ command_line (codes "split") to.Split (owner_value ∷ key_value ∷ lot_value ∷ sublot_value ∷ target_value ∷ amount_value ∷ day_value ∷ [])
    ∷ command_line (codes "ship") to.Ship (owner_value ∷ key_value ∷ lot_value ∷ sublot_value ∷ amount_value ∷ day_value ∷ [])
    ∷ command_line (codes "scrap") to.Scrap (owner_value ∷ key_value ∷ lot_value ∷ sublot_value ∷ amount_value ∷ day_value ∷ [])
    ∷ command_line (codes "result") to.Result (owner_value ∷ lot_value ∷ test_value ∷ found_value ∷ day_value ∷ [])
    ∷ command_line (codes "release") to.Release (lot_value ∷ [])
    ∷ command_line (codes "reject") to.Reject (lot_value ∷ [])
    ∷ actual_line
    ∷ command_line (codes "void") to.Void (owner_value ∷ key_value ∷ [])
    ∷ command_line (codes "orders") to.Orders (owner_value ∷ [])
    ∷ command_line (codes "stock") to.Stock (owner_value ∷ [])
    ∷ command_line (codes "batch") to.Batch (owner_value ∷ order_value ∷ batch_value ∷ [])
    ∷ command_line (codes "trace") to.Trace (owner_value ∷ lot_value ∷ way_value ∷ [])
    ∷ command_line (codes "recall") to.Recall (owner_value ∷ lot_value ∷ [])
    ∷ []
