use Rattle.std.proofs.Common.{◌≡◌, ◌+◌, ◌++◌, vec_len, vec_capacity}
use Rattle.std.specs.Prelude.{take}
use Rattle.toll_plant.specs.Imports.{AreNumberedFrom, outcomes_in}
use Rattle.toll_plant.proofs.import.push_lines.Given as goal

-- The lines have the outcomes so far, after those from before.
abbrev pub invariant-loop-outcome : goal.invariant-loop-outcome
invariant-loop-outcome l = record {
  len : vec_len l.lines ≡ vec_len l.fn.lines + l.outcome-index;
  capacity : vec_capacity l.lines ≡ vec_capacity l.fn.lines;
  reported : outcomes_in l.lines.items ≡ outcomes_in l.fn.lines.items ++ take l.outcome-index l.outcomes;
  numbered : AreNumberedFrom 1 l.fn.lines.items → AreNumberedFrom 1 l.lines.items;
}
