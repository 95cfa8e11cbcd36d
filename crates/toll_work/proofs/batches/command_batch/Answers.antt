use Rattle.toll_work.proofs.Common.{puts_rows, owed}
use Rattle.toll_work.proofs.BatchLaw.{command_decided, command_keeps}
use Rattle.toll_work.proofs.batches.command_batch.Goals as goal

pub returns : goal.returns
returns c =
    let o = owed c.plan_command.ensures.plan (λ d. command_decided _ _ _ _ d) (λ d decided. command_keeps _ _ _ _ d decided c.plan_command.ensures.kept) (puts_rows c.args.slice.now.owner _) in
    record { decides = o.decides; rules = o.rules; own = o.own }
