use Rattle.toll_stock.proofs.movements.decide_movement.Goals as goal

pub returns-in-Some : goal.returns-in-Some
returns-in-Some c = λ checks are. c.in-Some.ensures.known checks c.args.changes.now
