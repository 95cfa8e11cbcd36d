use Rattle.std.proofs.Common.{◌∙◌}
use Rattle.toll_desk.proofs.ReadOver.{orders_replied}
use Rattle.toll_desk.proofs.reading.orders_shown.Goals as goal

pub returns-in-Ok-clause-over : goal.returns-in-Ok-clause-over
returns-in-Ok-clause-over c H lawful there =
    orders_replied H c.args.slice.now c.in-Ok.orders.items c.orders.ensures.order (c.in-Ok.ensures ∙ c.orders.ensures.rows) there
