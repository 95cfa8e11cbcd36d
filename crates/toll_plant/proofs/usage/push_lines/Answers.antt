use Rattle.std.proofs.Common.{arith}
use Rattle.std.proofs.lemmas.Grind.{common_steps}
use Rattle.std.proofs.lemmas.List.Folds.{flat_map-map}
use Rattle.toll_plant.specs.Shown.{shown_line}
use Rattle.toll_plant.specs.Usages.{indented}
use Rattle.toll_plant.proofs.usage.push_lines.Goals as goal

pub returns : goal.returns
returns c = rw (flat_map-map indented shown_line c.args.lines.now) (grind (arith, common_steps))
