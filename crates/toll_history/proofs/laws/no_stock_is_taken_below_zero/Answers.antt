use Rattle.toll_history.proofs.Stock.{covered}
use Rattle.toll_history.proofs.laws.no_stock_is_taken_below_zero.Goals as goal

pub returns : goal.returns
returns c = covered
