use Rattle.std.proofs.Common.{◌<◌, ◌^◌, length, map}
use Rattle.toll_trace.proofs.Common.{IsJoined, step_ends, IsLevel}
use Rattle.toll_trace.proofs.Levels.{IsReached, count_unfound}
use Rattle.toll_trace.proofs.plain.plain_trace.Given as goal

abbrev pub invariant-rounds : goal.invariant-rounds
invariant-rounds l = record {
  reached : IsReached (IsJoined l.edges l.way) l.from l.found l.steps;
  level : IsLevel (IsJoined l.edges l.way) l.found l.lots.items;
  counted : l.steps < length l.found;
  fits : length l.found < 2 ^ 63;
}

abbrev pub decreases-rounds : goal.decreases-rounds
decreases-rounds l = count_unfound l.found (map (λ e. (step_ends l.way e).1) l.edges)
