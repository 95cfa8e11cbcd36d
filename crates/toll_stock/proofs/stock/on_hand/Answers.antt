use Rattle.std.proofs.Common.{◌∙◌}
use Rattle.toll_stock.proofs.OnHand.{stock_at}
use Rattle.toll_stock.proofs.stock.on_hand.Goals as goal

pub returns-clause-stock : goal.returns-clause-stock
returns-clause-stock c = λ H there. c.amount_at.ensures ∙ stock_at H c.args.slice.now there c.args.lot.now c.args.sublot.now
