use Rattle.std.proofs.Common.{sym, ap, subst}
use Rattle.toll_desk.proofs.Common.{changes_of, CancelOrder, verdict_of}
use Rattle.toll_base.specs.declared.request.Request.TheVariants.{Cancel}
use Rattle.toll_desk.specs.Plans.{IsPlanOver}
use Rattle.toll_desk.proofs.CommandPlans.{own_decision}
use Rattle.toll_desk.proofs.WriteOver.{cancel_unknown, cancel_accepted, cancel_repeated, cancel_refused}
use Rattle.toll_desk.proofs.writing.plan_cancelling.Goals as goal

pub returns-in_default-clause-over : goal.returns-in_default-clause-over
returns-in_default-clause-over c H lawful known there =
    rw (c.unchanged.ensures.reply, c.unchanged.ensures.changes) (cancel_unknown H c.args.slice.now lawful known there c.args.order (sym c.in_default.ensures))

pub returns-in-Ok-Accept-clause-over : goal.returns-in-Ok-Accept-clause-over
returns-in-Ok-Accept-clause-over c H lawful known there =
    let s = c.args.slice.now in
    let d = c.in-Ok-Accept.field-0 in
    let own = own_decision H s (CancelOrder c.args.order) d lawful tt c.in-Ok-Accept.ensures.decides c.in-Ok-Accept.ensures.rules c.in-Ok-Accept.ensures.own in
    (subst (IsPlanOver H s (Cancel c.args.order) _) (ap changes_of c.in-Ok-Accept.field-0-is)
    (cancel_accepted H s lawful known there c.args.order d own c.in-Some.row (sym c.in-Some.ensures) (ap verdict_of c.in-Ok-Accept.field-0-is)))

pub returns-in-Ok-Repeated-clause-over : goal.returns-in-Ok-Repeated-clause-over
returns-in-Ok-Repeated-clause-over c H lawful known there =
    let s = c.args.slice.now in
    let d = c.in-Ok-Repeated.field-0 in
    let own = own_decision H s (CancelOrder c.args.order) d lawful tt c.in-Ok-Repeated.ensures.decides c.in-Ok-Repeated.ensures.rules c.in-Ok-Repeated.ensures.own in
    rw (c.unchanged-in-Ok-Repeated.ensures.reply, c.unchanged-in-Ok-Repeated.ensures.changes) (subst (IsPlanOver H s (Cancel c.args.order) _) (ap changes_of c.in-Ok-Repeated.field-0-is)
    (cancel_repeated H s lawful known there c.args.order d own c.in-Some.row (sym c.in-Some.ensures) (ap verdict_of c.in-Ok-Repeated.field-0-is)))

pub returns-in-Ok-Refuse-clause-over : goal.returns-in-Ok-Refuse-clause-over
returns-in-Ok-Refuse-clause-over c H lawful known there =
    let s = c.args.slice.now in
    let d = c.in-Ok-Refuse.field-0 in
    let own = own_decision H s (CancelOrder c.args.order) d lawful tt c.in-Ok-Refuse.ensures.decides c.in-Ok-Refuse.ensures.rules c.in-Ok-Refuse.ensures.own in
    rw (c.unchanged-in-Ok-Refuse.ensures.reply, c.unchanged-in-Ok-Refuse.ensures.changes) (subst (IsPlanOver H s (Cancel c.args.order) _) (ap changes_of c.in-Ok-Refuse.field-0-is)
    (cancel_refused H s lawful known there c.args.order d own c.in-Some.row (sym c.in-Some.ensures) c.in-Ok-Refuse.why (ap verdict_of c.in-Ok-Refuse.field-0-is)))
