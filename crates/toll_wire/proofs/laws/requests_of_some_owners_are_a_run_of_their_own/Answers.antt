use Rattle.toll_wire.proofs.OwnRuns.{requests_run}
use Rattle.toll_wire.proofs.laws.requests_of_some_owners_are_a_run_of_their_own.Goals as goal

pub returns : goal.returns
returns g c = λ os old new events answers run. requests_run os g.K.Keep.meaning g.K.Keep.part (g.met.K.Keep.settled_for os) old new events answers run
