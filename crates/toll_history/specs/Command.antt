-- The commands that the office records.
use Rattle.std.specs.Prelude.{ℕ, ℤ}
use Rattle.toll_history.specs.Common.{Bytes, MaterialRow, TestRow, RecipeRow, RequirementRow, Placing, Move, MoveRow, StateCommand}

-- an action; all its names are within the owner that the command concerns
pub data Action : Type 0 where
  AddOwner : (key : Bytes) → Action
  AddUnit : (unit : Bytes) → Action
  AddMaterial : (row : MaterialRow) → Action
  AddTest : (row : TestRow) → Action
  AddRecipe : (row : RecipeRow) → Action
  Require : (row : RequirementRow) → Action
  PlaceOrder : (placing : Placing) → Action
  CancelOrder : (order : Bytes) → Action
  OpenBatch : (order unit : Bytes) → Action
  CommandBatch : (order : Bytes) (number : ℕ) (command : StateCommand) → Action
  CloseBatch : (order : Bytes) (number : ℕ) → Action
  Record : (row : MoveRow) → Action
  RecordResult : (lot test : Bytes) (value : ℤ) (day : ℕ) → Action
  Release : (lot : Bytes) → Action
  Reject : (lot : Bytes) → Action
  Void : (key : Bytes) → Action

-- a command concerns one owner: adding an owner concerns that owner, adding a unit HOUSE, an actual the batch's owner
pub record Command : Type 0 where
  pub owner : Bytes
  pub action : Action

-- this owner's command
abbrev pub by : Bytes → Action → Command
by o action = record { owner = o; action = action }

-- this owner's command that records the movement
abbrev pub moves : Bytes → (key : Bytes) → Move → (amount day : ℕ) → Command
moves o key what amount day = by o (Record (record { key = key; what = what; amount = amount; day = day }))
