-- The meaning of the code's lines.
use Rattle.std.specs.Prelude.{map}
use Rattle.toll_plant.specs.Lines as spec
use Rattle.toll_plant.specs.declared.argument.Argument.{Argument}
use Rattle.toll_plant.specs.declared.line.Line.{Line}

-- an argument of the code, as one of the definitions
abbrev pub shown_argument : Argument → spec.Argument
shown_argument a = record { name = a.name.now; reading = a.reading }

-- a line of the code, as one of the definitions
abbrev pub shown_line : Line → spec.Line
shown_line l = record { name = l.name.now; command = l.command; values = map shown_argument l.values.now }
