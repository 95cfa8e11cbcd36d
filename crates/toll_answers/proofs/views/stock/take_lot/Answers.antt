use Rattle.std.proofs.Common.{refl, arith}
use Rattle.toll_answers.proofs.StockWalk.{walked_on, walked_by, walked_all}
use Rattle.toll_answers.proofs.views.stock.take_lot.Goals as goal
use Rattle.toll_answers.proofs.views.stock.take_lot.Goals.{in-Some+in-Greater, in_default}

pub loop-row-preserved-in-Less : goal.loop-row-preserved-in-Less
loop-row-preserved-in-Less c = walked_on c.args.lot.now c.args.sublots.now _ _ c.loop-row.invariant _ _ c.in-Some.ensures.cases.0 _ c.in-Less.ensures refl c.loop-row.sum (omega arith)

pub loop-row-preserved : goal.loop-row-preserved
loop-row-preserved c = walked_on c.args.lot.now c.args.sublots.now _ _ c.loop-row.invariant _ _ c.in-Some.ensures.cases.0 _ c.in-Equal.ensures refl _ refl

pub returns-clause-amount : goal.returns-clause-amount
returns-clause-amount c =
    elim c.match-split_first.branch [
      | in-Some+in-Greater w ↦ walked_by c.args.lot.now c.args.sublots.now _ _ c.loop-row.invariant _ _ w.in-Some.ensures.cases.0 w.in-Greater.ensures
      | in_default w ↦ walked_all c.args.lot.now c.args.sublots.now _ _ c.loop-row.invariant w.in_default.ensures.cases
    ]
