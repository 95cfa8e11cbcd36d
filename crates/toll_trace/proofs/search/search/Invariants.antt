use Rattle.std.proofs.Common.{◌≡◌, ◌<◌, List, length, Contains}
use Rattle.toll_trace.proofs.Common.{flat_map, EdgeIndex, Part, is_found, IsLevel, IsWalked, LeadThrough, all_steps}
use Rattle.toll_trace.specs.Common.{LotId}
use Rattle.toll_trace.proofs.Levels.{IsReached, count_unfound}
use Rattle.toll_trace.proofs.search.search.Given as goal

abbrev pub invariant-levels : goal.invariant-levels
invariant-levels l = record {
  all : all_steps l.parts.items ≡ all_steps l.fn.parts.items;
  reached : IsReached (LeadThrough (all_steps l.fn.parts.items)) l.from l.found.items l.steps;
  level : IsLevel (LeadThrough (all_steps l.fn.parts.items)) l.found.items l.front.items;
  walked : (part : Part) → Contains l.parts.items part → IsWalked (is_found l.found.items) l.front.items part;
  counted : l.steps < length l.found.items;
}

abbrev pub decreases-levels : goal.decreases-levels
decreases-levels l = count_unfound l.found.items (flat_map (λ (one : List LotId × EdgeIndex). one.0) (all_steps l.parts.items))
