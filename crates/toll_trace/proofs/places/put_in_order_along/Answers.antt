use Rattle.std.proofs.Common.{rules}
use Rattle.toll_trace.proofs.Common.{is_lt, answers_always, Back, Forward, order_along, chain_segment_cmp}
use Rattle.toll_trace.proofs.Ahead.{uses_along}
use Rattle.toll_trace.proofs.places.put_in_order_along.Goals as goal

pub returns-in-Back-clause-sorted : goal.returns-in-Back-clause-sorted
returns-in-Back-clause-sorted c = rw c.in-Back.is (c.sort_unstable_by.ensures.sorted (λ u v. is_lt (order_along Back chain_segment_cmp u.0 v.0)) (uses_along Back) (answers_always _ _ _ (λ f a r h called. search rules)))

pub returns-in-Forward-clause-sorted : goal.returns-in-Forward-clause-sorted
returns-in-Forward-clause-sorted c = rw c.in-Forward.is (c.sort_unstable_by-in-Forward.ensures.sorted (λ u v. is_lt (order_along Forward chain_segment_cmp u.0 v.0)) (uses_along Forward) (answers_always _ _ _ (λ f a r h called. search rules)))
