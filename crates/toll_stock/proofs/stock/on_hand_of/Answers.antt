use Rattle.std.proofs.Common.{◌∙◌}
use Rattle.toll_stock.proofs.OnHandTotals.{on_hand_is}
use Rattle.toll_stock.proofs.stock.on_hand_of.Goals as goal

pub returns-clause-amount : goal.returns-clause-amount
returns-clause-amount c = λ H lawful there. c.sum_of_sublots.ensures.sum ∙ on_hand_is H lawful c.args.slice.now there c.sum_of_sublots.ensures.key_order c.args.lot.now
