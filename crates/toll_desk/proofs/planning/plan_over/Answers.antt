use Rattle.std.proofs.Common.{refl, subst}
use Rattle.toll_base.specs.declared.request.Request.TheVariants as request
use Rattle.toll_trace.specs.declared.way.Way.TheVariants as way
use Rattle.toll_desk.specs.Clauses.{AnswersTrace}
use Rattle.toll_desk.specs.Translations.{meaning_of_reply}
use Rattle.toll_desk.proofs.Common.{Bytes, lot_id}
use Rattle.toll_desk.proofs.OwnTraces.{traced_own, traced_house}
use Rattle.toll_desk.proofs.OwnerPlans.{shown_plan}
use Rattle.toll_desk.proofs.planning.plan_over.Goals as goal

pub returns-in-Orders-clause-over : goal.returns-in-Orders-clause-over
returns-in-Orders-clause-over g c honest content H held stands lawful rows known other =
    rw c.in-Orders.is (c.shown.ensures.over H c.args.slice.now request.Orders refl (c.orders_shown.ensures.over H lawful rows))

pub returns-in-Order-clause-over : goal.returns-in-Order-clause-over
returns-in-Order-clause-over g c honest content H held stands lawful rows known other =
    rw c.in-Order.is (c.shown-in-Order.ensures.over H c.args.slice.now (request.Order c.in-Order.order) refl (c.order_shown.ensures.over H rows))

pub returns-in-Batch-clause-over : goal.returns-in-Batch-clause-over
returns-in-Batch-clause-over g c honest content H held stands lawful rows known other =
    rw c.in-Batch.is (c.shown-in-Batch.ensures.over H c.args.slice.now (request.Batch c.in-Batch.order c.in-Batch.number) refl (c.batch_shown.ensures.over H lawful rows))

pub returns-in-Stock-clause-over : goal.returns-in-Stock-clause-over
returns-in-Stock-clause-over g c honest content H held stands lawful rows known other =
    rw c.in-Stock.is (c.shown-in-Stock.ensures.over H c.args.slice.now request.Stock refl (c.stock_shown.ensures.over H lawful rows))

pub returns-in-Lot-clause-over : goal.returns-in-Lot-clause-over
returns-in-Lot-clause-over g c honest content H held stands lawful rows known other =
    rw c.in-Lot.is (c.shown-in-Lot.ensures.over H c.args.slice.now (request.Lot c.in-Lot.lot) refl (c.lot_shown.ensures.over H lawful rows))

pub returns-in-Back-clause-over : goal.returns-in-Back-clause-over
returns-in-Back-clause-over g c honest content H held stands lawful rows known other =
    let o = c.args.slice.now.owner in
    let lot = c.in-Back.lot in
    let plan = c.plan_trace in
    let reported = meaning_of_reply plan.result.reply in
    rw c.in-Back.is (shown_plan H c.args.slice.now (request.Back lot) reported plan.result.changes.items plan.ensures.none refl
    (traced_own H o lot way.Back reported (subst (λ (p : Bytes). AnswersTrace H o (lot_id p lot) way.Back reported) c.owner-owner.ensures.owner (plan.ensures.over honest content H held stands lawful rows))))

pub returns-in-Forward-clause-over : goal.returns-in-Forward-clause-over
returns-in-Forward-clause-over g c honest content H held stands lawful rows known other =
    let o = c.args.slice.now.owner in
    let lot = c.in-Forward.lot in
    let plan = c.plan_trace-in-Forward in
    let reported = meaning_of_reply plan.result.reply in
    rw c.in-Forward.is (shown_plan H c.args.slice.now (request.Forward lot) reported plan.result.changes.items plan.ensures.none refl
    (traced_own H o lot way.Forward reported (subst (λ (p : Bytes). AnswersTrace H o (lot_id p lot) way.Forward reported) c.owner-owner.ensures.owner (plan.ensures.over honest content H held stands lawful rows))))

pub returns-in-HouseForward-clause-over : goal.returns-in-HouseForward-clause-over
returns-in-HouseForward-clause-over g c honest content H held stands lawful rows known other =
    let o = c.args.slice.now.owner in
    let lot = c.in-HouseForward.lot in
    let plan = c.plan_trace-in-HouseForward in
    let reported = meaning_of_reply plan.result.reply in
    rw c.in-HouseForward.is (shown_plan H c.args.slice.now (request.HouseForward lot) reported plan.result.changes.items plan.ensures.none refl
    (traced_house H o lot way.Forward reported other (subst (λ (p : Bytes). AnswersTrace H o (lot_id p lot) way.Forward reported) c.house.ensures (plan.ensures.over honest content H held stands lawful rows))))

pub returns-in-Orders-clause-own : goal.returns-in-Orders-clause-own
returns-in-Orders-clause-own g c os own honest content H held stands lawful rows known other =
    rw c.in-Orders.is (c.shown.ensures.over H c.args.slice.now request.Orders refl (c.orders_shown.ensures.over H lawful rows))

pub returns-in-Order-clause-own : goal.returns-in-Order-clause-own
returns-in-Order-clause-own g c os own honest content H held stands lawful rows known other =
    rw c.in-Order.is (c.shown-in-Order.ensures.over H c.args.slice.now (request.Order c.in-Order.order) refl (c.order_shown.ensures.over H rows))

pub returns-in-Batch-clause-own : goal.returns-in-Batch-clause-own
returns-in-Batch-clause-own g c os own honest content H held stands lawful rows known other =
    rw c.in-Batch.is (c.shown-in-Batch.ensures.over H c.args.slice.now (request.Batch c.in-Batch.order c.in-Batch.number) refl (c.batch_shown.ensures.over H lawful rows))

pub returns-in-Stock-clause-own : goal.returns-in-Stock-clause-own
returns-in-Stock-clause-own g c os own honest content H held stands lawful rows known other =
    rw c.in-Stock.is (c.shown-in-Stock.ensures.over H c.args.slice.now request.Stock refl (c.stock_shown.ensures.over H lawful rows))

pub returns-in-Lot-clause-own : goal.returns-in-Lot-clause-own
returns-in-Lot-clause-own g c os own honest content H held stands lawful rows known other =
    rw c.in-Lot.is (c.shown-in-Lot.ensures.over H c.args.slice.now (request.Lot c.in-Lot.lot) refl (c.lot_shown.ensures.over H lawful rows))

pub returns-in-Back-clause-own : goal.returns-in-Back-clause-own
returns-in-Back-clause-own g c os own honest content H held stands lawful rows known other =
    let o = c.args.slice.now.owner in
    let lot = c.in-Back.lot in
    let plan = c.plan_trace in
    let reported = meaning_of_reply plan.result.reply in
    rw c.in-Back.is (shown_plan H c.args.slice.now (request.Back lot) reported plan.result.changes.items plan.ensures.none refl
    (traced_own H o lot way.Back reported (subst (λ (p : Bytes). AnswersTrace H o (lot_id p lot) way.Back reported) c.owner-owner.ensures.owner (plan.ensures.own os own honest content H held stands lawful rows))))

pub returns-in-Forward-clause-own : goal.returns-in-Forward-clause-own
returns-in-Forward-clause-own g c os own honest content H held stands lawful rows known other =
    let o = c.args.slice.now.owner in
    let lot = c.in-Forward.lot in
    let plan = c.plan_trace-in-Forward in
    let reported = meaning_of_reply plan.result.reply in
    rw c.in-Forward.is (shown_plan H c.args.slice.now (request.Forward lot) reported plan.result.changes.items plan.ensures.none refl
    (traced_own H o lot way.Forward reported (subst (λ (p : Bytes). AnswersTrace H o (lot_id p lot) way.Forward reported) c.owner-owner.ensures.owner (plan.ensures.own os own honest content H held stands lawful rows))))

pub returns-in-HouseForward-clause-own : goal.returns-in-HouseForward-clause-own
returns-in-HouseForward-clause-own g c os own honest content H held stands lawful rows known other =
    let o = c.args.slice.now.owner in
    let lot = c.in-HouseForward.lot in
    let plan = c.plan_trace-in-HouseForward in
    let reported = meaning_of_reply plan.result.reply in
    rw c.in-HouseForward.is (shown_plan H c.args.slice.now (request.HouseForward lot) reported plan.result.changes.items plan.ensures.none refl
    (traced_house H o lot way.Forward reported other (subst (λ (p : Bytes). AnswersTrace H o (lot_id p lot) way.Forward reported) c.house.ensures (plan.ensures.own os own honest content H held stands lawful rows))))
