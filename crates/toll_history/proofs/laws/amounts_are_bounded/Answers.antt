use Rattle.toll_history.proofs.Stock.{bounded, stock_bounded}
use Rattle.toll_history.proofs.laws.amounts_are_bounded.Goals as goal

pub returns-clause-brought : goal.returns-clause-brought
returns-clause-brought c = bounded

pub returns-clause-stock : goal.returns-clause-stock
returns-clause-stock c = stock_bounded
