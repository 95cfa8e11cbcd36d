use Rattle.toll_stock.proofs.LotOrder.{sublots_in_order}
use Rattle.toll_stock.proofs.lot_rows.sublots_of.Goals as goal

pub rows_of-requires : goal.rows_of-requires
rows_of-requires c = rw c.sublots.ensures.rows (sublots_in_order c.args.slice.now.sublots c.sublots.ensures.order)
