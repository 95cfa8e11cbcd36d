use Rattle.toll_stock.proofs.Common.{puts_rows, owed}
use Rattle.toll_stock.proofs.LotLaw.{reject_decided, lot_keeps}
use Rattle.toll_stock.proofs.dispositions.reject.Goals as goal

pub returns : goal.returns
returns c =
    let o = owed c.plan_rejection.ensures.plan (λ d. reject_decided _ _ d) (λ d decided. lot_keeps _ _ d _ _ decided c.plan_rejection.ensures.kept) (puts_rows c.args.slice.now.owner _) in
    record { decides = o.decides; rules = o.rules; own = o.own }
