use Rattle.toll_service.proofs.EventLemmas.{were_served}
use Rattle.toll_service.proofs.laws.turns_over_a_keep_are_a_run.Goals as goal

pub returns : goal.returns
returns g c = λ keep old new turns runs. were_served g.K.Keep.meaning g.met.K.Keep.settled keep old new turns runs
