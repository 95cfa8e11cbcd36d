-- The usage: how commands are written, for words that are none.
use Rattle.std.specs.Prelude.{List, [], ◌∷◌, ◌++◌, codes, flat_map, Option, Some, None}
use Rattle.toll_base.specs.Bytes.{Bytes}
use Rattle.toll_plant.specs.Lines.{Argument, Line, line_named}

-- the name of a value, after a space
abbrev pub value_word : Argument → Bytes
value_word a = codes " " ++ a.name

-- the whole call of a command
unfoldable pub call : Line → Bytes
call l = codes "toll --db FILE " ++ (l.name ++ (flat_map value_word l.values ++ codes "\n"))

unfoldable pub indented : Line → Bytes
indented l = codes "       " ++ call l

-- the usage of one command
abbrev pub usage_of_line : Line → Bytes
usage_of_line l =
    codes "usage: " ++ (call l ++ codes "No value is empty, is help or begins with a dash: a negative one is written M5.\n")

-- the usage of all commands, a line for each
abbrev pub usage_of_all : List Line → Bytes
usage_of_all lines = codes "usage: one of these commands and questions\n" ++ flat_map indented lines

-- the usage of this command, or of all if there is none
abbrev pub usage_for_line : List Line → Option Line → Bytes
usage_for_line lines None = usage_of_all lines
usage_for_line lines (Some l) = usage_of_line l

-- the command that the first of the words names
abbrev pub named_by : List Line → List Bytes → Option Line
named_by lines [] = None
named_by lines (name ∷ values) = line_named lines name

-- the usage of the command that the first word names, or of all commands
abbrev pub usage_text : List Line → List Bytes → Bytes
usage_text lines words = usage_for_line lines (named_by lines words)
