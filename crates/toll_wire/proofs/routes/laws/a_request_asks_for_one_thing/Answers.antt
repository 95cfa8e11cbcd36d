use Rattle.toll_wire.proofs.Once.{asking_once}
use Rattle.toll_wire.proofs.routes.laws.a_request_asks_for_one_thing.Goals as goal

pub returns : goal.returns
returns c = asking_once
