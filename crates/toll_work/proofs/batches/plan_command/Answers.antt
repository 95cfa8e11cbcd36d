use Rattle.toll_work.proofs.Common.{facts_of, open_batch_checks, refused_decides}
use Rattle.toll_work.proofs.batches.plan_command.Goals as goal

pub returns-in-Err-clause-plan : goal.returns-in-Err-clause-plan
returns-in-Err-clause-plan c = refused_decides (open_batch_checks (facts_of c.args.slice.now) c.args.order.now c.args.number) _ _ c.in-Err.why c.in-Err.ensures.checks
