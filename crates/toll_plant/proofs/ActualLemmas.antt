-- The commands of records.
use Rattle.std.proofs.Common.{◌≡◌, Bool, true, false, cond, Option, Some, None, List, [], ◌∷◌, length, refl, ap, sym, subst, inl, inr}
use Rattle.std.specs.Prelude.{◌⊎◌, ◌==◌, IsSome, Result, Ok, Err}
use Rattle.toll_plant.proofs.Common.{AllByRecursion, Bytes, MoveRow, Record, by, Refusal, IsValidCommand, recorded_command, PlantCmd, looks_at_two}
use Rattle.toll_base.proofs.Texts.{nat_eq-exact}
use Rattle.toll_base.specs.Lots.{lot_id}
use Rattle.toll_answers.specs.declared.plant_cmd.PlantCmd.TheVariants.{Actual, Unread}
use Rattle.toll_plant.specs.Commands.{actual_row, command_from}
use Rattle.toll_plant.specs.Files.{Fields, command_in}
use Rattle.toll_plant.specs.Imports.{CanBeStaged, HasValidValues, commands_in}
use Rattle.toll_plant.specs.Table.{actual_line}
use Rattle.toll_plant.specs.Words.{command_read, command_with, values_read}
use Rattle.toll_plant.specs.declared.argument.ArgumentValue.{ArgumentValue}
use Rattle.toll_plant.proofs.TableLemmas.{actual_makes, command_made, values_have}

-- The command records a movement, or couldn't be read.
abbrev pub IsDeed : PlantCmd → Type 0
IsDeed command = ((o : Bytes) × (row : MoveRow) × (recorded_command command ≡ Some (by o (Record row)))) ⊎ ((why : Refusal) × (command ≡ Unread why))

abbrev pub IsDeedOrNone : Option PlantCmd → Type 0
IsDeedOrNone None = Unit {0}
IsDeedOrNone (Some command) = IsDeed command

-- As many fields as an actual has values give a command.
pub asks_actual : (fields : Fields) → length fields ≡ length actual_line.values → IsSome (command_with actual_line fields)
asks_actual fields same = command_made actual_line fields (values_read actual_line.values fields) actual_makes same refl

-- The command records a movement or can't be read, and its decision uses the rows of at most two owners.
abbrev IsDeedOfTwo : PlantCmd → Type 0
IsDeedOfTwo command = IsDeed command × (looks_at_two command ≡ true) × IsValidCommand command

-- The command that the values of an actual make is such a command.
abbrev MakeDeed : List ArgumentValue → Type 0
MakeDeed values = (command : PlantCmd) → command_from actual_line.command values ≡ Some command → IsDeedOfTwo command

deeds_made : (fields : Fields) (read : Result (List ArgumentValue) Refusal) → length fields ≡ length actual_line.values → values_read actual_line.values fields ≡ read
    → (command : PlantCmd) → command_read actual_line.command read ≡ Some command → IsDeedOfTwo command
deeds_made fields (Err why) same e command is =
    let read : Unread why ≡ command = cc is in
    (inr (why, sym read), ap looks_at_two (sym read), subst IsValidCommand read tt)
deeds_made fields (Ok values) same e command is =
    values_have actual_line.values MakeDeed fields values same
    (λ key owner order number segment role material lot_owner lot sublot amount within day command is.
    let row = actual_row key order number segment (record { role = role; material = material; lot = lot_id lot_owner lot; sublot = sublot; amount = amount; day = day }) in
    let command_made : Actual owner row ≡ command = cc is in
    (inl (owner, row.movement, ap recorded_command (sym command_made)), ap looks_at_two (sym command_made), subst IsValidCommand command_made within))
    e command is

in_record : (fields : Fields) (b : Bool) → (length fields == length actual_line.values) ≡ b → (command : PlantCmd) → cond b (command_with actual_line fields) None ≡ Some command → IsDeedOfTwo command
in_record fields true same command is = deeds_made fields (values_read actual_line.values fields) (nat_eq-exact (length fields) (length actual_line.values) same) refl command is
in_record fields false same command is = absurd (cc is)

-- A fact of each such command, and of no command, holds for all commands that records give.
module _ (P : Option PlantCmd → Type 0) (none : P None) (so : (c : PlantCmd) → IsDeedOfTwo c → P (Some c)) where
  so_or_none : (command : Option PlantCmd) → ((c : PlantCmd) → command ≡ Some c → IsDeedOfTwo c) → P command
  so_or_none None deed = none
  so_or_none (Some c) deed = so c (deed c refl)

  record_all_so : (records : List Fields) → AllByRecursion P (commands_in records)
  record_all_so [] = tt
  record_all_so (fields ∷ records) = (so_or_none (command_in fields) (in_record fields (length fields == length actual_line.values) refl), record_all_so records)

-- Records give deeds or nothing.
pub all_deeds : (records : List Fields) → AllByRecursion IsDeedOrNone (commands_in records)
all_deeds = record_all_so IsDeedOrNone tt (λ c deed. deed.0)

-- Their changes can be staged.
pub all_staged : (records : List Fields) → AllByRecursion CanBeStaged (commands_in records)
all_staged = record_all_so CanBeStaged tt (λ c deed. deed.1)

-- Their values are within their bounds.
pub all_valid : (records : List Fields) → AllByRecursion HasValidValues (commands_in records)
all_valid = record_all_so HasValidValues tt (λ c deed. deed.2)
