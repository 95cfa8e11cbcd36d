use Rattle.std.proofs.Common.{rules}
use Rattle.toll_stock.proofs.Common.{nat_list_cmp_total, bytes_cmp}
use Rattle.std.proofs.lemmas.List.Sorted.{IsPartitionPoint-from_clause}
use Rattle.toll_trace.proofs.Runs.{run_below, up_to, found_run}
use Rattle.toll_stock.proofs.lot_rows.rows_of.Goals as goal

pub slice_bounds-result-count : goal.slice_bounds-result-count
slice_bounds-result-count g c =
    (found_run bytes_cmp g.R.OfLot.lot_of c.args.lot.now nat_list_cmp_total c.args.rows.now c.requires _ _ c.partition_point-start.ensures.bound c.partition_point-end.ensures.bound
    (λ first. IsPartitionPoint-from_clause (run_below bytes_cmp g.R.OfLot.lot_of c.args.lot.now) _ _ c.partition_point-start.ensures.partitioned first (λ a r f called. search rules))
    (λ first. IsPartitionPoint-from_clause (up_to bytes_cmp g.R.OfLot.lot_of c.args.lot.now) _ _ c.partition_point-end.ensures.partitioned first (λ a r f called. search rules))).forward

pub slice_bounds-result-start : goal.slice_bounds-result-start
slice_bounds-result-start g c = slice_bounds-result-count g c

pub returns : goal.returns
returns g c =
    (found_run bytes_cmp g.R.OfLot.lot_of c.args.lot.now nat_list_cmp_total c.args.rows.now c.requires _ _ c.partition_point-start.ensures.bound c.partition_point-end.ensures.bound
    (λ first. IsPartitionPoint-from_clause (run_below bytes_cmp g.R.OfLot.lot_of c.args.lot.now) _ _ c.partition_point-start.ensures.partitioned first (λ a r f called. search rules))
    (λ first. IsPartitionPoint-from_clause (up_to bytes_cmp g.R.OfLot.lot_of c.args.lot.now) _ _ c.partition_point-end.ensures.partitioned first (λ a r f called. search rules))).run
