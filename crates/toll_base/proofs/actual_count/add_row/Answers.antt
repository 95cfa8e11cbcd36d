use Rattle.std.proofs.Common.{◌≡◌, true, is_some, sym, ap, ◌∙◌}
use Rattle.toll_base.proofs.Common.{is_actual_of}
use Rattle.toll_base.specs.ActualCounts.{actual_count_at}
use Rattle.toll_base.proofs.ActualCountLemmas.{as_many, still_counted, now_counted, no_row, same_along}
use Rattle.toll_base.proofs.actual_count.add_row.Goals as goal

pub returns-in_ok-put-clause-same : goal.returns-in_ok-put-clause-same
returns-in_ok-put-clause-same c = λ o n.
    let none = no_row c.args.counts.now c.in-Actual.order c.in-Actual.number (sym (ap is_some c.get.ensures) ∙ c.if-is_none.ensures) in
    rw c.in_ok-put.ensures.ok (as_many c.args.counts.now _ none o n)

pub returns-in_ok-put-clause-kept : goal.returns-in_ok-put-clause-kept
returns-in_ok-put-clause-kept c = λ o n h. rw c.in_ok-put.ensures.ok (still_counted c.args.counts.now _ o n h)

pub returns-in_ok-put-clause-row : goal.returns-in_ok-put-clause-row
returns-in_ok-put-clause-row c = λ o n h. rw c.in_ok-put.ensures.ok (now_counted c.args.counts.now _ o n (sym (ap (is_actual_of o n) c.in-Actual.is) ∙ h))

pub returns-else-is_none-clause-row : goal.returns-else-is_none-clause-row
returns-else-is_none-clause-row c = λ o n h.
    same_along (λ o' n'. is_some (actual_count_at c.args.counts.now o' n') ≡ true) o c.in-Actual.order n c.in-Actual.number
    (sym (ap (is_actual_of o n) c.in-Actual.is) ∙ h)
    (sym (ap is_some c.get.ensures) ∙ c.if-is_none.ensures)
