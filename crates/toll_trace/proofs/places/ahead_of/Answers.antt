use Rattle.std.proofs.Common.{rules}
use Rattle.toll_trace.proofs.Common.{order_along, chain_segment_cmp, chain_cmp}
use Rattle.std.proofs.lemmas.List.Sorted.{IsPartitionPoint-from_clause}
use Rattle.toll_trace.proofs.Runs.{run_below, up_to, below_first, up_to_first}
use Rattle.toll_trace.proofs.Ahead.{span_ahead, along_total, chains_along_total, chains_sorted}
use Rattle.toll_trace.proofs.places.ahead_of.Goals as goal

pub returns : goal.returns
returns c =
    span_ahead c.args.way c.args.uses.now c.args.place.now c.partition_point-start.result c.partition_point-end.result
    (IsPartitionPoint-from_clause (run_below (order_along c.args.way chain_segment_cmp) (λ u. u.0) c.args.place.now) _ _ c.partition_point-start.ensures.partitioned (below_first (order_along c.args.way chain_segment_cmp) (λ u. u.0) c.args.place.now (along_total c.args.way) c.args.uses.now c.requires) (λ a r f called. search rules))
    (IsPartitionPoint-from_clause (up_to (order_along c.args.way chain_cmp) (λ u. u.0.0) c.args.place.now.0) _ _ c.partition_point-end.ensures.partitioned (up_to_first (order_along c.args.way chain_cmp) (λ u. u.0.0) c.args.place.now.0 (chains_along_total c.args.way) c.args.uses.now (chains_sorted c.args.way c.args.uses.now c.requires)) (λ a r f called. search rules))
    c.partition_point-end.ensures.bound
