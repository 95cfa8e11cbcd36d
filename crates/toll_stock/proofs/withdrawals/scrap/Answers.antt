use Rattle.toll_stock.proofs.Common.{same_bytes-refl, owed_by, facts_of, scrap_checks}
use Rattle.toll_stock.proofs.WithdrawalLaw.{scrapping_owes}
use Rattle.toll_stock.proofs.withdrawals.scrap.Goals as goal

pub returns : goal.returns
returns c =
    let own = c.args.slice.now in let mine = same_bytes-refl own.owner in
    let plan = c.plan_withdrawal.ensures.plan (scrap_checks (facts_of own) c.args.lot c.args.sublot c.args.amount) c.check_taking-checked.ensures in
    let o = owed_by plan (scrapping_owes c.args.key c.args.lot c.args.sublot c.args.amount c.args.day own) c.plan_withdrawal.ensures.kept (mine, (mine, tt)) in record { decides = o.decides; rules = o.rules; own = o.own }
