use Rattle.toll_stock.proofs.Common.{puts_rows, owed}
use Rattle.toll_stock.proofs.LotLaw.{release_decided, lot_keeps}
use Rattle.toll_stock.proofs.dispositions.release.Goals as goal

pub returns : goal.returns
returns c =
    let o = owed c.plan_release.ensures.plan (λ d. release_decided _ _ d) (λ d decided. lot_keeps _ _ d _ _ decided c.plan_release.ensures.kept) (puts_rows c.args.slice.now.owner _) in
    record { decides = o.decides; rules = o.rules; own = o.own }
