-- The commands that words ask for.
use Rattle.std.specs.Prelude.{◌≡◌, List, [], ◌∷◌, drop, Result, Ok, Err, Option, Some, None, option_and_then}
use Rattle.toll_plant.specs.Common.{Bytes, Refusal, PlantCmd}
use Rattle.toll_answers.specs.declared.plant_cmd.PlantCmd.TheVariants.{Unread}
use Rattle.toll_plant.specs.Commands.{command_from}
use Rattle.toll_plant.specs.Lines.{Argument, Line, fitting_line}
use Rattle.toll_plant.specs.Readings.{read_as}
use Rattle.toll_plant.specs.Table.{command_lines}
use Rattle.toll_plant.specs.Usages.{usage_text}
use Rattle.toll_plant.specs.declared.argument.ArgumentValue.{ArgumentValue}
use Rattle.toll_plant.specs.declared.command.CommandName.{CommandName}
use Rattle.toll_plant.specs.declared.words_fault.WordsFault.{WordsFault}
use Rattle.toll_plant.specs.declared.words_fault.WordsFault.TheVariants.{Memory, Usage}

-- a value in front of the values after it, or the refusal of the first that can't be read
abbrev pub in_front : Result ArgumentValue Refusal → Result (List ArgumentValue) Refusal → Result (List ArgumentValue) Refusal
in_front (Err why) behind = Err why
in_front (Ok value) (Err why) = Err why
in_front (Ok value) (Ok values) = Ok (value ∷ values)

-- the values, each read in its own way, or the refusal of the first that can't be read
abbrev pub values_read : List Argument → List Bytes → Result (List ArgumentValue) Refusal
values_read [] words = Ok []
values_read (a ∷ arguments) [] = Ok []
values_read (a ∷ arguments) (word ∷ words) = in_front (read_as a.reading word) (values_read arguments words)

-- the command with the values that were read, or the refusal of a value
abbrev pub command_read : CommandName → Result (List ArgumentValue) Refusal → Option PlantCmd
command_read name (Err why) = Some (Unread why)
command_read name (Ok values) = command_from name values

-- the command of a line with these values
abbrev pub command_with : Line → List Bytes → Option PlantCmd
command_with line words = command_read line.command (values_read line.values words)

-- the command that the words ask for, if they fit a line
abbrev pub command_of_words : List Bytes → Option PlantCmd
command_of_words words = option_and_then (λ line. command_with line (drop 1 words)) (fitting_line command_lines words)

-- Usage is the usage of the command that the first word names, or of all commands.
abbrev pub IsUsageOf : List Line → List Bytes → WordsFault → Type 0
IsUsageOf lines words Memory = Unit {0}
IsUsageOf lines words (Usage text) = text.items ≡ usage_text lines words

-- Usage is reported only for words that fit no line.
abbrev pub IsUsageOnlyOf : List Bytes → WordsFault → Type 0
IsUsageOnlyOf words Memory = Unit {0}
IsUsageOnlyOf words (Usage text) = fitting_line command_lines words ≡ None
