use Rattle.toll_work.proofs.Common.{IfOk-weaker, same_bytes-refl, each_decided}
use Rattle.toll_work.proofs.RequirementLaw.{requirement_decided, requirement_keeps}
use Rattle.toll_work.proofs.recipes.require.Goals as goal

pub returns-clause-decides : goal.returns-clause-decides
returns-clause-decides c = IfOk-weaker _ _ _ (λ d. requirement_decided _ _ _ d) c.plan_requirement.ensures.plan

pub returns-clause-rules : goal.returns-clause-rules
returns-clause-rules c = IfOk-weaker _ _ _ (λ d decided. requirement_keeps _ c.args.house.now _ d decided c.plan_requirement.ensures.kept) c.plan_requirement.ensures.plan

pub returns-clause-own : goal.returns-clause-own
returns-clause-own c = IfOk-weaker _ _ _ (λ d. each_decided _ _ _ d (same_bytes-refl c.args.own.now.owner, tt)) c.plan_requirement.ensures.plan
