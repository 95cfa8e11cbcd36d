use Rattle.toll_desk.proofs.OccupiedLemmas.{planned_as}
use Rattle.toll_desk.proofs.commands.plan.Goals as goal

pub returns-in-Ok-clause-plan : goal.returns-in-Ok-clause-plan
returns-in-Ok-clause-plan g c honest content H held stands lawful =
    planned_as content H c.args.command.now c.in-Ok.decision c.of.result c.of.ensures.reported c.of.ensures.changes (c.in-Ok.ensures.over honest content H held stands lawful)
