-- What the plant's commands and questions are about, and so whose rows they look at.
use Rattle.std.specs.Prelude.{◌≡◌, Bool, true, false, Option, IsSomeAnd}
use Rattle.toll_desk.specs.Common.{Bytes, Action, AddOwner, AddUnit, Require, OpenBatch, Record, Release, Reject, Void, Command, is_actual, PlantCmd}
use Rattle.toll_answers.specs.declared.plant_cmd.PlantCmd.TheVariants as cmd

-- a command is recorded, and this is so of it
abbrev pub IsCommandSuchThat : (Action → Type 0) → Option Command → Type 0
IsCommandSuchThat P done = IsSomeAnd done (λ c. P c.action)

-- it is decided over HOUSE's rows too
abbrev pub is_shared : Action → Bool
is_shared (Require row) = true
is_shared (Record row) = is_actual row.what
is_shared (Void key) = true
is_shared _ = false

-- it is decided over its owner's rows alone
abbrev pub ConcernsOwnRows : Action → Type 0
ConcernsOwnRows (AddOwner key) = ⊥
ConcernsOwnRows (AddUnit unit) = ⊥
ConcernsOwnRows (OpenBatch order unit) = ⊥
ConcernsOwnRows a = is_shared a ≡ false

-- and is of a lot: a movement, or a disposition
abbrev pub IsOfLot : Action → Type 0
IsOfLot (Record row) = is_actual row.what ≡ false
IsOfLot (Release lot) = Unit {0}
IsOfLot (Reject lot) = Unit {0}
IsOfLot _ = ⊥

-- the rows of an owner are asked about
abbrev pub ConcernsRows : PlantCmd → Type 0
ConcernsRows (cmd.Orders owner) = Unit {0}
ConcernsRows (cmd.Stock owner) = Unit {0}
ConcernsRows (cmd.Batch owner order number) = Unit {0}
ConcernsRows _ = ⊥

-- something is asked
abbrev pub IsQuestion : PlantCmd → Type 0
IsQuestion (cmd.Trace lot way) = Unit {0}
IsQuestion (cmd.Recall lot) = Unit {0}
IsQuestion q = ConcernsRows q

-- the same about this owner's rows
abbrev pub question_for_owner : Bytes → PlantCmd → PlantCmd
question_for_owner o (cmd.Orders owner) = cmd.Orders o
question_for_owner o (cmd.Stock owner) = cmd.Stock o
question_for_owner o (cmd.Batch owner order number) = cmd.Batch o order number
question_for_owner o q = q
