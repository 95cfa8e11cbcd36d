use Rattle.std.proofs.Common.{ap, subst}
use Rattle.toll_desk.proofs.Common.{IfOk-weaker, changes_of, PlaceOrder, verdict_of}
use Rattle.toll_base.specs.declared.request.Request.TheVariants.{Place}
use Rattle.toll_desk.specs.Translations.{meaning_of_reply}
use Rattle.toll_desk.specs.Plans.{IsPlanOver}
use Rattle.toll_desk.proofs.CommandPlans.{own_decision}
use Rattle.toll_desk.proofs.WriteOver.{place_accepted, place_repeated, place_refused}
use Rattle.toll_desk.proofs.writing.plan_order.Goals as goal

pub returns-in-Ok-Accept-clause-over : goal.returns-in-Ok-Accept-clause-over
returns-in-Ok-Accept-clause-over c H lawful known there =
    let s = c.args.slice.now in
    let d = c.in-Ok-Accept.field-0 in
    let own = own_decision H s (PlaceOrder c.args.placing.now) d lawful c.get-within.ensures.bounds c.in-Ok-Accept.ensures.decides c.in-Ok-Accept.ensures.rules c.in-Ok-Accept.ensures.own in
    rw c.placed.ensures (subst (IsPlanOver H s (Place c.args.placing.now) _) (ap changes_of c.in-Ok-Accept.field-0-is)
    (place_accepted H s lawful known there c.args.placing.now d own (ap verdict_of c.in-Ok-Accept.field-0-is)))

pub returns-in-Ok-Repeated-clause-over : goal.returns-in-Ok-Repeated-clause-over
returns-in-Ok-Repeated-clause-over c H lawful known there =
    let s = c.args.slice.now in
    let d = c.in-Ok-Repeated.field-0 in
    let own = own_decision H s (PlaceOrder c.args.placing.now) d lawful c.get-within.ensures.bounds c.in-Ok-Repeated.ensures.decides c.in-Ok-Repeated.ensures.rules c.in-Ok-Repeated.ensures.own in
    rw (c.unchanged.ensures.reply, c.unchanged.ensures.changes) (IfOk-weaker (meaning_of_reply c.order_shown.result) _ _
    (λ reported stands. subst (IsPlanOver H s (Place c.args.placing.now) reported) (ap changes_of c.in-Ok-Repeated.field-0-is)
    (place_repeated H s lawful known there c.args.placing.now d own reported (ap verdict_of c.in-Ok-Repeated.field-0-is) stands))
    (c.order_shown.ensures.over H there))

pub returns-in-Ok-Refuse-clause-over : goal.returns-in-Ok-Refuse-clause-over
returns-in-Ok-Refuse-clause-over c H lawful known there =
    let s = c.args.slice.now in
    let d = c.in-Ok-Refuse.field-0 in
    let own = own_decision H s (PlaceOrder c.args.placing.now) d lawful c.get-within.ensures.bounds c.in-Ok-Refuse.ensures.decides c.in-Ok-Refuse.ensures.rules c.in-Ok-Refuse.ensures.own in
    rw (c.unchanged-in-Ok-Refuse.ensures.reply, c.unchanged-in-Ok-Refuse.ensures.changes)
    (subst (IsPlanOver H s (Place c.args.placing.now) _) (ap changes_of c.in-Ok-Refuse.field-0-is)
    (place_refused H s lawful known there c.args.placing.now d own c.in-Ok-Refuse.why (ap verdict_of c.in-Ok-Refuse.field-0-is)))
