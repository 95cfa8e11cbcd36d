-- The values so far.
use Rattle.std.proofs.Common.{◌≡◌, ◌++◌, take}
use Rattle.std.specs.Prelude.{flat_map}
use Rattle.toll_plant.specs.Shown.{shown_argument}
use Rattle.toll_plant.specs.Usages.{value_word}
use Rattle.toll_plant.proofs.usage.push_values.Given as goal

abbrev pub invariant-loop-value : goal.invariant-loop-value
invariant-loop-value l = l.text.items ≡ l.fn.text.items ++ flat_map (λ value. value_word (shown_argument value)) (take l.value-index l.values)
