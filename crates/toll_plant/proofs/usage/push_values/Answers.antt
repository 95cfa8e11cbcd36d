use Rattle.std.proofs.Common.{arith}
use Rattle.std.proofs.lemmas.Grind.{common_steps}
use Rattle.std.proofs.lemmas.List.Folds.{flat_map-map}
use Rattle.toll_plant.specs.Shown.{shown_argument}
use Rattle.toll_plant.specs.Usages.{value_word}
use Rattle.toll_plant.proofs.usage.push_values.Goals as goal

pub returns : goal.returns
returns c = rw (flat_map-map value_word shown_argument c.args.values.now) (grind (arith, common_steps))
