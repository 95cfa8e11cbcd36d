use Rattle.toll_wire.proofs.Determined.{answers-determined}
use Rattle.toll_wire.proofs.laws.any_two_keeps_answer_alike.Goals as goal

pub returns : goal.returns
returns g c = λ j k H events answers others run other calm calm'. (answers-determined H run.last other.last events answers others calm calm' run.run other.run).0
