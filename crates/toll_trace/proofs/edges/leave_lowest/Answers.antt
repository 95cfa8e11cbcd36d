use Rattle.std.proofs.Common.{◌≤◌, subst, sym}
use Rattle.toll_trace.proofs.Common.{AreLeft}
use Rattle.toll_trace.proofs.Extremes.{lowest_left}
use Rattle.toll_trace.proofs.edges.leave_lowest.Goals as goal

pub returns : goal.returns
returns c =
    subst (AreLeft (λ lowest segment. lowest ≤ segment) c.args.uses.now.items) (sym c.leave_first.ensures)
    (lowest_left c.args.uses.now.items c.sort_unstable.new.self.items c.sort_unstable.ensures.permutation c.sort_unstable.ensures.sorted)
