use Rattle.std.proofs.Common.{◌≡◌, ◌+◌, ◌-◌, ◌≤◌, ◌∙◌, arith}
use Rattle.toll_base.proofs.ActualCountLemmas.{own_batch, one_less, same_batches}
use Rattle.toll_base.proofs.actual_count.subtract_one.Goals as goal

pub overflow_sub-count : goal.overflow_sub-count
overflow_sub-count c = rw c.count_in-count.ensures (c.requires.counted c.in-Actual.order c.in-Actual.number (rw c.in-Actual.is (own_batch c.in-Actual.order c.in-Actual.number)))

pub replace-requires : goal.replace-requires
replace-requires c = c.requires.row c.in-Actual.order c.in-Actual.number (rw c.in-Actual.is (own_batch c.in-Actual.order c.in-Actual.number))

pub returns-in-Actual-clause-count : goal.returns-in-Actual-clause-count
returns-in-Actual-clause-count c = λ o n.
    let some : 1 ≤ c.count_in-count.result = rw c.count_in-count.ensures (c.requires.counted c.in-Actual.order c.in-Actual.number (rw c.in-Actual.is (own_batch c.in-Actual.order c.in-Actual.number))) in
    let less : c.count_in-count.result - 1 + 1 ≡ c.count_in-count.result = omega arith in
    rw (c.replace.ensures, c.in-Actual.is) (one_less c.args.counts.now _ (less ∙ c.count_in-count.ensures) o n)

pub returns-in-Actual-clause-same : goal.returns-in-Actual-clause-same
returns-in-Actual-clause-same c = λ o n.
    rw c.replace.ensures (same_batches c.args.counts.now _ (c.requires.row c.in-Actual.order c.in-Actual.number (rw c.in-Actual.is (own_batch c.in-Actual.order c.in-Actual.number))) o n)
