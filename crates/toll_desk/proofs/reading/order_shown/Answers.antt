use Rattle.std.proofs.Common.{refl, subst, ◌∙◌}
use Rattle.toll_desk.proofs.Common.{IsOrderOr, ReplyOrder, ReplyRefused, UnknownOrder}
use Rattle.toll_desk.proofs.ReadOver.{given_orders}
use Rattle.toll_desk.proofs.reading.order_shown.Goals as goal

pub returns-in-Some-clause-over : goal.returns-in-Some-clause-over
returns-in-Some-clause-over c H there = subst (λ known. IsOrderOr known (ReplyOrder c.in-Some.row)) (c.in-Some.ensures ∙ given_orders H c.args.slice.now there c.args.order.now) refl

pub returns-in-None-clause-over : goal.returns-in-None-clause-over
returns-in-None-clause-over c H there = subst (λ known. IsOrderOr known (ReplyRefused UnknownOrder)) (c.in-None.ensures ∙ given_orders H c.args.slice.now there c.args.order.now) refl
