use Rattle.toll_history.proofs.StockChanges.{stock-recorded, stock-voided}
use Rattle.toll_history.proofs.Unmoved.{unmoved}
use Rattle.toll_history.proofs.laws.stock_changes_by_what_is_moved.Goals as goal

pub returns-clause-recorded : goal.returns-clause-recorded
returns-clause-recorded c = stock-recorded

pub returns-clause-voided : goal.returns-clause-voided
returns-clause-voided c = stock-voided

pub returns-clause-unmoved : goal.returns-clause-unmoved
returns-clause-unmoved c = λ H c none. unmoved H c.owner c.action none
