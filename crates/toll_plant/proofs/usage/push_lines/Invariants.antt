-- The lines so far.
use Rattle.std.proofs.Common.{◌≡◌, ◌++◌, take}
use Rattle.std.specs.Prelude.{flat_map}
use Rattle.toll_plant.specs.Shown.{shown_line}
use Rattle.toll_plant.specs.Usages.{indented}
use Rattle.toll_plant.proofs.usage.push_lines.Given as goal

abbrev pub invariant-loop-line : goal.invariant-loop-line
invariant-loop-line l = l.text.items ≡ l.fn.text.items ++ flat_map (λ line. indented (shown_line line)) (take l.line-index l.lines)
