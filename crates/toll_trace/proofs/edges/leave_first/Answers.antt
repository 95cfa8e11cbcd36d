use Rattle.std.proofs.Common.{rules}
use Rattle.toll_trace.proofs.Common.{same_use}
use Rattle.std.proofs.lemmas.Fn.{dedup_same}
use Rattle.toll_trace.proofs.edges.leave_first.Goals as goal

pub returns : goal.returns
returns c = dedup_same _ same_use _ (λ x y b f' x' y' k. search rules) _ _ c.dedup_by.ensures.filtered
