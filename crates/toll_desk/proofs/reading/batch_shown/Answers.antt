use Rattle.std.proofs.Common.{subst, ◌∙◌}
use Rattle.toll_desk.proofs.Common.{acts, order_of, batch_of, IsViewOver}
use Rattle.toll_desk.proofs.ReadOver.{given_orders, none_by, order_absent, batch_absent, batch_replied}
use Rattle.toll_desk.proofs.reading.batch_shown.Goals as goal

pub returns-then-is_none-clause-over : goal.returns-then-is_none-clause-over
returns-then-is_none-clause-over c H lawful there =
    let s = c.args.slice.now in
    let o = s.owner in
    order_absent H o (order_of (acts o H) c.args.order.now) (batch_of (acts o H) (c.args.order.now, c.args.number))
    (none_by c.order.result _ c.is_none.result c.is_none.ensures (c.order.ensures ∙ given_orders H s there c.args.order.now) ∙ c.if-is_none.true)

pub returns-in-Ok-Some-clause-over : goal.returns-in-Ok-Some-clause-over
unfolding Rattle.toll_work.specs.BatchView.IsViewOfHistories
returns-in-Ok-Some-clause-over c H lawful there =
    let o = c.args.slice.now.owner in
    let order = c.args.order.now in
    let number = c.args.number in
    batch_replied H o order number c.in-Ok-Some.view _
    (subst (IsViewOver H o order number (order_of (acts o H) order) (batch_of (acts o H) (order, number))) c.in-Ok-Some.field-0-is (c.in-Ok-Some.ensures.over_histories H lawful there))

pub returns-in-Ok-None-clause-over : goal.returns-in-Ok-None-clause-over
unfolding Rattle.toll_work.specs.BatchView.IsViewOfHistories
returns-in-Ok-None-clause-over c H lawful there =
    let s = c.args.slice.now in
    let o = s.owner in
    let order = c.args.order.now in
    let number = c.args.number in
    batch_absent H o order number (order_of (acts o H) order) (batch_of (acts o H) (order, number))
    (none_by c.order.result _ c.is_none.result c.is_none.ensures (c.order.ensures ∙ given_orders H s there order) ∙ c.if-is_none.false)
    (subst (IsViewOver H o order number (order_of (acts o H) order) (batch_of (acts o H) (order, number))) c.in-Ok-None.field-0-is (c.in-Ok-None.ensures.over_histories H lawful there))
