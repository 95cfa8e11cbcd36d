use Rattle.std.proofs.Common.{ap, ◌∙◌, rules, filter}
use Rattle.std.proofs.lemmas.List.Sorted.{IsPartitionPoint-from_clause}
use Rattle.toll_trace.proofs.Runs.{run_below, up_to, at_key, found_run}
use Rattle.toll_trace.proofs.index.Index.at.Goals as goal

pub slice_bounds-result-count : goal.slice_bounds-result-count
slice_bounds-result-count g c =
    (found_run g.K.Ord.cmp (λ pair. pair.0) c.args.key.now g.met.K.Ord.total c.as_slice-pairs.result.now (rw c.as_slice-pairs.ensures.value c.self.invariant) _ _ c.partition_point-start.ensures.bound c.partition_point-end.ensures.bound
    (λ first. IsPartitionPoint-from_clause (run_below g.K.Ord.cmp (λ pair. pair.0) c.args.key.now) _ _ c.partition_point-start.ensures.partitioned first (λ a r f called. search rules))
    (λ first. IsPartitionPoint-from_clause (up_to g.K.Ord.cmp (λ pair. pair.0) c.args.key.now) _ _ c.partition_point-end.ensures.partitioned first (λ a r f called. search rules))).forward

pub slice_bounds-result-start : goal.slice_bounds-result-start
slice_bounds-result-start g c = slice_bounds-result-count g c

pub returns : goal.returns
returns g c =
    (found_run g.K.Ord.cmp (λ pair. pair.0) c.args.key.now g.met.K.Ord.total c.as_slice-pairs.result.now (rw c.as_slice-pairs.ensures.value c.self.invariant) _ _ c.partition_point-start.ensures.bound c.partition_point-end.ensures.bound
    (λ first. IsPartitionPoint-from_clause (run_below g.K.Ord.cmp (λ pair. pair.0) c.args.key.now) _ _ c.partition_point-start.ensures.partitioned first (λ a r f called. search rules))
    (λ first. IsPartitionPoint-from_clause (up_to g.K.Ord.cmp (λ pair. pair.0) c.args.key.now) _ _ c.partition_point-end.ensures.partitioned first (λ a r f called. search rules))).run
    ∙ ap (filter (at_key g.K.Ord.cmp (λ pair. pair.0) c.args.key.now)) (c.as_slice-pairs.ensures.value ∙ c.self.view_is)
