use Rattle.std.proofs.Common.{◌∙◌}
use Rattle.toll_answers.proofs.ConsumedLaw.{consumed_is}
use Rattle.toll_answers.proofs.views.consumed.has_consumed.Goals as goal

pub returns-clause-over : goal.returns-clause-over
returns-clause-over c = λ H lawful there. c.has_standing.ensures.in_slice ∙ consumed_is H lawful c.args.slice.now there c.has_standing.ensures.key_order c.args.lot.now
