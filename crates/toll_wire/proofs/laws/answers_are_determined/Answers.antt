use Rattle.toll_wire.proofs.Determined.{answers-determined}
use Rattle.toll_wire.proofs.laws.answers_are_determined.Goals as goal

pub returns : goal.returns
returns c = λ start events answers others end other calm calm' run run'. answers-determined start end other events answers others calm calm' run run'
