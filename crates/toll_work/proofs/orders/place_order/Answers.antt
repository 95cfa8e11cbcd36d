use Rattle.toll_work.proofs.Common.{IfOk-weaker, same_bytes-refl, owed, facts_of, order_checks}
use Rattle.toll_work.proofs.MadeChanges.{no_changes_made}
use Rattle.toll_work.proofs.OrderLaw.{order_decided, order_keeps}
use Rattle.toll_work.proofs.orders.place_order.Goals as goal

pub returns : goal.returns
returns c =
    let o = owed c.plan_order.ensures.plan (λ d. order_decided _ _ d) (λ d decided. order_keeps _ _ d decided c.plan_order.ensures.kept) (same_bytes-refl c.args.slice.now.owner, tt) in
    record { decides = o.decides; rules = o.rules; own = o.own; kept = λ there. IfOk-weaker _ _ _ (λ d. no_changes_made (order_checks (facts_of c.args.slice.now) c.args.placing.now) _ d 1 there) c.plan_order.ensures.plan }
