-- The text so far has the lines so far.
use Rattle.std.proofs.Common.{◌≡◌, take}
use Rattle.std.specs.Prelude.{flat_map}
use Rattle.toll_plant.specs.ImportTexts.{record_line}
use Rattle.toll_plant.proofs.printing.import_text.Given as goal

abbrev pub invariant-loop-line : goal.invariant-loop-line
invariant-loop-line l = l.text.items ≡ flat_map record_line (take l.line-index l.report.lines.items)
