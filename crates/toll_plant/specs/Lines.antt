-- The lines of words in which commands are written, and the words that fit a line.
use Rattle.std.specs.Prelude.{Bool, false, not, ◌&&◌, ◌==◌, List, [], ◌∷◌, length, find, codes, Option, Some, None, if◌then◌else◌, option_and_then}
use Rattle.toll_plant.specs.Common.{list_all, bytes_eq, Bytes}
use Rattle.toll_plant.specs.declared.argument.ArgumentKind.{ArgumentKind}
use Rattle.toll_plant.specs.declared.command.CommandName.{CommandName}

-- an argument: its name, and how its value is read
pub record Argument : Type 0 where
  pub name : Bytes
  pub reading : ArgumentKind

-- a line of the table: the name of a command, the command, and its values in order
pub record Line : Type 0 where
  pub name : Bytes
  pub command : CommandName
  pub values : List Argument

-- whether the word isn't empty, begins with no dash, and isn't `help`
abbrev pub is_plain_word : Bytes → Bool
is_plain_word [] = false
is_plain_word (b ∷ word) = not (b == 45) && not (bytes_eq (b ∷ word) (codes "help"))

-- whether there are as many plain words as the line has values
abbrev pub takes_values : Line → List Bytes → Bool
takes_values line words = length words == length line.values && list_all is_plain_word words

-- the line with this name
abbrev pub line_named : List Line → Bytes → Option Line
line_named lines name = find (λ l. bytes_eq l.name name) lines

-- the line that the words fit, as its name and its values
abbrev pub fitting_line : List Line → List Bytes → Option Line
fitting_line lines [] = None
fitting_line lines (name ∷ values) =
    option_and_then (λ line. if takes_values line values then Some line else None) (line_named lines name)
