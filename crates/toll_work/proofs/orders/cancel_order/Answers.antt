use Rattle.toll_work.proofs.Common.{puts_rows, owed}
use Rattle.toll_work.proofs.CancelLaw.{cancel_decided, cancel_keeps}
use Rattle.toll_work.proofs.orders.cancel_order.Goals as goal

pub returns : goal.returns
returns c =
    let o = owed c.plan_cancelling.ensures.plan (λ d. cancel_decided _ _ d) (λ d decided. cancel_keeps _ _ d decided c.plan_cancelling.ensures.kept) (puts_rows c.args.slice.now.owner _) in
    record { decides = o.decides; rules = o.rules; own = o.own }
