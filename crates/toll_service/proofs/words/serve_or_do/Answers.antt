use Rattle.std.proofs.Common.{rules}
use Rattle.toll_programs.specs.Outputs.{printout_of}
use Rattle.toll_service.specs.Doing.{IsDoneOver, IsOperationDone}
use Rattle.toll_service.proofs.words.serve_or_do.Goals as goal

pub returns-in-Ok : goal.returns-in-Ok
returns-in-Ok g c =
    let over = c.in-Ok.ensures.done in
    let ran = over.done in
    let done = rw ran.leaves at (rw ran.shows at ran.met) in
    let here : IsDoneOver g.O.KeepOpener.is_opened (λ first last. IsOperationDone g.K.Keep.meaning c.args.operation first last (printout_of c.in-Ok.done)) =
    record { first = over.first; last = over.last; opened = over.opened; done = done } in
    search (rules, here, c.in-Ok.ensures.once)
