use Rattle.toll_work.proofs.Common.{IfOk-weaker, each_decided, puts_rows, facts_of, opened_rows}
use Rattle.toll_work.proofs.OpenLaw.{opening_decided, opening_keeps}
use Rattle.toll_work.proofs.batches.open_batch.Goals as goal

pub returns-clause-decides : goal.returns-clause-decides
returns-clause-decides c = IfOk-weaker _ _ _ (λ d. opening_decided _ _ _ _ _ d) c.plan_opening.ensures.plan

pub returns-clause-rules : goal.returns-clause-rules
returns-clause-rules c = IfOk-weaker _ _ _ (λ d decided. opening_keeps _ _ _ _ _ d decided c.plan_opening.ensures.kept) c.plan_opening.ensures.plan

pub returns-clause-own : goal.returns-clause-own
returns-clause-own c = IfOk-weaker _ _ _ (λ d. each_decided _ _ _ d (puts_rows c.args.slice.now.owner (opened_rows c.args.order c.args.unit (facts_of c.args.slice.now)))) c.plan_opening.ensures.plan
