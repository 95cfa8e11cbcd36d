use Rattle.std.proofs.Common.{◌≡◌, Some, map, take}
use Rattle.toll_desk.proofs.Common.{History, IsLawful, recall_line_of}
use Rattle.toll_desk.specs.Questions.{AreSlicesFor}
use Rattle.toll_desk.proofs.recalls.lines_of.Given as goal

abbrev pub invariant-loop-step : goal.invariant-loop-step
invariant-loop-step l = (H : History) → IsLawful H → AreSlicesFor H l.steps l.slices → map (λ line. Some line) l.lines.items ≡ map (recall_line_of H) (take l.step-index l.steps)
