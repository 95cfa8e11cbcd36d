use Rattle.toll_work.proofs.Common.{puts_rows, owed}
use Rattle.toll_work.proofs.BatchLaw.{closing_decided, closing_keeps}
use Rattle.toll_work.proofs.batches.close_batch.Goals as goal

pub returns : goal.returns
returns c =
    let o = owed c.plan_closing.ensures.plan (λ d. closing_decided _ _ _ d) (λ d decided. closing_keeps _ _ _ d decided c.plan_closing.ensures.kept) (puts_rows c.args.slice.now.owner _) in
    record { decides = o.decides; rules = o.rules; own = o.own }
