use Rattle.toll_wire.proofs.reply.reply_out.Goals as goal

pub returns-in-Orders : goal.returns-in-Orders
returns-in-Orders c = rw (c.in-Orders.is, ← c.deref.ensures.value) (c.grant.ensures _ c.orders_body.ensures)

pub returns-in-Order : goal.returns-in-Order
returns-in-Order c = rw c.in-Order.is (c.grant-in-Order.ensures _ c.order_body.ensures)

pub returns-in-Batch : goal.returns-in-Batch
returns-in-Batch c = rw c.in-Batch.is (c.grant-in-Batch.ensures _ c.batch_body.ensures)

pub returns-in-Stock : goal.returns-in-Stock
returns-in-Stock c = rw (c.in-Stock.is, ← c.deref-in-Stock.ensures.value) (c.grant-in-Stock.ensures _ c.stock_body.ensures)

pub returns-in-Lot : goal.returns-in-Lot
returns-in-Lot c = rw c.in-Lot.is (c.grant-in-Lot.ensures _ c.lot_body.ensures)

pub returns-in-Trace : goal.returns-in-Trace
returns-in-Trace c = rw (c.in-Trace.is, ← c.deref-in-Trace.ensures.value) (c.grant-in-Trace.ensures _ c.trace_body.ensures)

pub returns-in-Refused : goal.returns-in-Refused
returns-in-Refused c = rw (c.in-Refused.is, ← c.refusal_status.ensures) (c.send.ensures _ c.refusal_body-body.ensures)
