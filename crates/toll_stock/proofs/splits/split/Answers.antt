use Rattle.toll_stock.proofs.Common.{same_bytes-refl, owed_by}
use Rattle.toll_stock.proofs.SplitLaw.{split_owes}
use Rattle.toll_stock.proofs.splits.split.Goals as goal

pub returns : goal.returns
returns c =
    let mine = same_bytes-refl c.args.slice.now.owner in
    let o = owed_by c.plan_split.ensures.plan (split_owes c.args.key c.args.lot c.args.sublot c.args.target c.args.amount c.args.day c.args.slice.now) c.plan_split.ensures.kept (mine, (mine, (mine, tt))) in
    record { decides = o.decides; rules = o.rules; own = o.own }
