use Rattle.std.proofs.Common.{◌≤◌, subst, sym, rules}
use Rattle.toll_trace.proofs.Common.{is_lt, answers_always, AreLeft}
use Rattle.toll_trace.proofs.Extremes.{use_cmp, uses_fall, highest_left}
use Rattle.toll_trace.proofs.edges.leave_highest.Goals as goal

pub returns : goal.returns
returns c =
    subst (AreLeft (λ highest segment. segment ≤ highest) c.args.uses.now.items) (sym c.leave_first.ensures)
    (highest_left c.args.uses.now.items c.sort_unstable_by.new.self.items c.sort_unstable_by.ensures.permutation
    (c.sort_unstable_by.ensures.sorted (λ u v. is_lt (use_cmp v u)) uses_fall (answers_always _ _ _ (λ f a r h called. search rules))))
