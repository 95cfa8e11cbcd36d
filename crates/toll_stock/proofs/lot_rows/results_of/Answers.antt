use Rattle.toll_stock.proofs.LotOrder.{results_in_order}
use Rattle.toll_stock.proofs.lot_rows.results_of.Goals as goal

pub rows_of-requires : goal.rows_of-requires
rows_of-requires c = rw c.results.ensures.rows (results_in_order c.args.slice.now.results c.results.ensures.order)
