use Rattle.std.proofs.Common.{rules, ◌≡◌, sym, ◌∙◌}
use Rattle.toll_work.proofs.Common.{count_by, same_bytes, BatchRow}
use Rattle.toll_base.proofs.PutRules.{count-is}
use Rattle.toll_work.proofs.orders.count_opened.Goals as goal

pub returns : goal.returns
returns c =
    let counted : c.count.result ≡ count_by (λ (row : BatchRow). same_bytes row.order c.args.order.now) c.args.slice.now.batches = search rules in
    counted ∙ sym (count-is _ c.args.slice.now.batches)
