use Rattle.std.proofs.Common.{sym, subst}
use Rattle.toll_answers.proofs.Common.{IfOk-weaker, bytes_cmp, AreRowsGiven, stock_line, StockLine}
use Rattle.toll_answers.proofs.StockLaw.{stock_lines_given}
use Rattle.toll_answers.proofs.views.stock.stock_lines.Goals as goal

pub returns-clause-over : goal.returns-clause-over
returns-clause-over c =
    let reported = c.lines_in_slice.ensures in
    let s = c.args.slice.now in
    λ H lawful there. IfOk-weaker _ _ _ (λ lines is. subst (AreRowsGiven bytes_cmp (λ (line : StockLine). line.row.lot) (stock_line H s.owner)) (sym is) (stock_lines_given H lawful s there reported.lots reported.sublots)) reported.lines
