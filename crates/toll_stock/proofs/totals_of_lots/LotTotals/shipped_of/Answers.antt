use Rattle.std.proofs.Common.{◌≡◌, subst, ◌∙◌}
use Rattle.toll_stock.proofs.Common.{lot_id, Slice, shipped, History, IsRowsOf, IsLawful}
use Rattle.toll_stock.proofs.ShippedTotals.{shipped_is}
use Rattle.toll_stock.proofs.totals_of_lots.LotTotals.shipped_of.Goals as goal

pub returns-clause-amount : goal.returns-clause-amount
returns-clause-amount c =
    let lot = c.args.lot.now in
    subst (λ (s : Slice). (H : History) → IsLawful H → IsRowsOf H s → c.amount.result ≡ shipped H (lot_id s.owner lot)) c.self.view_is
    (λ H lawful there. c.amount.ensures ∙ c.self.invariant lot ∙ shipped_is H lawful c.self.inside.slice there c.moves-moves.ensures.order lot)
