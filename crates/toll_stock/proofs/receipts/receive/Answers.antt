use Rattle.toll_stock.proofs.Common.{same_bytes-refl, owed_by}
use Rattle.toll_stock.proofs.ReceiptLaw.{receipt_owes}
use Rattle.toll_stock.proofs.receipts.receive.Goals as goal

pub returns : goal.returns
returns c =
    let mine = same_bytes-refl c.args.slice.now.owner in
    let o = owed_by c.plan_receipt.ensures.plan (receipt_owes c.args.key c.args.material c.args.lot c.args.sublot c.args.amount c.args.day c.args.slice.now) c.plan_receipt.ensures.kept (mine, (mine, (mine, tt))) in
    record { decides = o.decides; rules = o.rules; own = o.own }
