use Rattle.toll_work.proofs.actuals.plan_consumption.Goals as goal

pub returns-in-Some-clause-plan : goal.returns-in-Some-clause-plan
returns-in-Some-clause-plan c = c.in-Some.ensures.known _ _
