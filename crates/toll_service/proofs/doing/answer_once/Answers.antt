use Rattle.std.proofs.Common.{inl}
use Rattle.toll_service.proofs.doing.answer_once.Goals as goal

pub returns-in-Ok : goal.returns-in-Ok
returns-in-Ok g c =
    let over = c.in-Ok.ensures.done in
    let ran = over.done in
    let done = rw ran.leaves at (rw ran.shows at ran.met) in
    inl (record { first = over.first; last = over.last; opened = over.opened; done = done }, c.in-Ok.ensures.once)
