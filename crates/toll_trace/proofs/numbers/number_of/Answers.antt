use Rattle.toll_trace.proofs.Numbering.{lot_found_at, not_listed}
use Rattle.toll_trace.proofs.numbers.number_of.Goals as goal

pub returns-in-Ok-clause-some : goal.returns-in-Ok-clause-some
returns-in-Ok-clause-some c = lot_found_at c.args.lots.now c.in-Ok.number c.args.lot.now c.in-Ok.ensures.bound c.in-Ok.ensures.ok

pub returns-in-Err-clause-none : goal.returns-in-Err-clause-none
returns-in-Err-clause-none c = λ e i. not_listed c.args.lots.now c.requires c.in-Err.field-0 c.args.lot.now c.in-Err.ensures.position i
