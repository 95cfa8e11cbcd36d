use Rattle.toll_wire.proofs.reply.fail.Goals as goal

pub returns : goal.returns
returns c = rw (← c.status.ensures, ← c.allowed.ensures) (c.send.ensures _ c.failure_body-body.ensures)
