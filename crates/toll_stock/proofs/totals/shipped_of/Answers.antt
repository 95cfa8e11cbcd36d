use Rattle.std.proofs.Common.{◌∙◌}
use Rattle.toll_stock.proofs.ShippedTotals.{shipped_is}
use Rattle.toll_stock.proofs.totals.shipped_of.Goals as goal

pub returns-clause-amount : goal.returns-clause-amount
returns-clause-amount c = λ H lawful there.
    c.sum_of_shipments.ensures.sum ∙ shipped_is H lawful c.args.slice.now there c.sum_of_shipments.ensures.key_order c.args.lot.now
