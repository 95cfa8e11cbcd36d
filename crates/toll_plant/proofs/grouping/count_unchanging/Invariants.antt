use Rattle.std.proofs.Common.{◌≡◌, ◌++◌, drop}
use Rattle.std.specs.Prelude.{take}
use Rattle.toll_plant.specs.Imports.{before_accepted}
use Rattle.toll_plant.proofs.grouping.count_unchanging.Given as goal

-- No outcome so far was accepted.
abbrev pub invariant-loop-outcome : goal.invariant-loop-outcome
invariant-loop-outcome l = record {
  count : l.count ≡ l.outcome-index;
  front : before_accepted l.outcomes ≡ take l.outcome-index l.outcomes ++ before_accepted (drop l.outcome-index l.outcomes);
}
