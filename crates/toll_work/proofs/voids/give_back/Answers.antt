use Rattle.toll_work.proofs.Common.{facts_of, refused_decides, void_batch_checks}
use Rattle.toll_work.proofs.voids.give_back.Goals as goal

pub returns-in-Err : goal.returns-in-Err
returns-in-Err c =
    let used = c.args.used.now in
    record { plan = refused_decides (void_batch_checks (facts_of c.args.own.now) c.args.key used.order used.number) _ _ c.in-Err.why c.in-Err.ensures }
