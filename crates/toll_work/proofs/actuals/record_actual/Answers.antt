use Rattle.toll_work.proofs.ConsumptionLaw.{consuming_owes}
use Rattle.toll_work.proofs.OwedWith.{owed_with}
use Rattle.toll_work.proofs.ProductionLaw.{producing_owes}
use Rattle.toll_work.proofs.actuals.record_actual.Goals as goal

pub returns-in-Some-Consumed-default : goal.returns-in-Some-Consumed-default
returns-in-Some-Consumed-default c =
    let u = c.in-Some-Consumed-default in let plan = c.plan_consumption.ensures in
    let o = owed_with plan.plan (consuming_owes c.args.row u.used u.field-0-0 u.ensures.actual u.field-0-0-is c.args.own.now c.args.house.now) plan.kept plan.house_kept in
    record { decides = o.decides; rules = o.rules; house_rules = o.house_rules; own = o.own }

pub returns-in-Some-Produced-default : goal.returns-in-Some-Produced-default
returns-in-Some-Produced-default c =
    let u = c.in-Some-Produced-default in let plan = c.plan_production.ensures in
    let o = owed_with plan.plan (producing_owes c.args.row u.used u.field-0-0 u.ensures.actual u.field-0-0-is c.args.own.now c.args.house.now) plan.kept c.owner-house.ensures.kept in
    record { decides = o.decides; rules = o.rules; house_rules = o.house_rules; own = o.own }
