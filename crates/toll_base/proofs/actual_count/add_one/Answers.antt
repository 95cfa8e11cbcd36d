use Rattle.std.proofs.Common.{◌+◌, ap}
use Rattle.toll_base.proofs.ActualCountLemmas.{own_batch, one_more}
use Rattle.toll_base.proofs.actual_count.add_one.Goals as goal

pub replace-requires : goal.replace-requires
replace-requires c = c.requires.row c.in-Actual.order c.in-Actual.number (rw c.in-Actual.is (own_batch c.in-Actual.order c.in-Actual.number))

pub returns-in-Actual : goal.returns-in-Actual
returns-in-Actual c = record {
  count = λ o n. rw (c.replace.ensures, c.in-Actual.is) (one_more c.args.counts.now _ (ap (λ k. k + 1) c.count_in-count.ensures) o n);
}
