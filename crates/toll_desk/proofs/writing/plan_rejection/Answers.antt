use Rattle.toll_base.specs.declared.request.Request.TheVariants as request
use Rattle.toll_desk.proofs.Common.{Reject}
use Rattle.toll_desk.proofs.CommandPlans.{own_decision}
use Rattle.toll_desk.proofs.WriteOver.{rejecting}
use Rattle.toll_desk.proofs.writing.plan_rejection.Goals as goal

pub returns-clause-over : goal.returns-clause-over
returns-clause-over c H lawful known there =
    let s = c.args.slice.now in
    let a = Reject c.args.lot in
    let decided = c.in_ok-decision.ensures in
    c.disposed.ensures.over H lawful known there (request.Reject c.args.lot) a (rejecting H s.owner c.args.lot)
    (own_decision H s a c.in_ok-decision.decision lawful tt decided.decides decided.rules decided.own)

pub returns-clause-puts : goal.returns-clause-puts
returns-clause-puts c = c.disposed.ensures.puts c.args.slice.now.owner c.in_ok-decision.ensures.own
