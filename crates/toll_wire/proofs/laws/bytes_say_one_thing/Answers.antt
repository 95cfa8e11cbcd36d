use Rattle.toll_wire.proofs.Readings.{says_once}
use Rattle.toll_wire.proofs.laws.bytes_say_one_thing.Goals as goal

pub returns : goal.returns
returns c = λ bytes saying other one two. says_once bytes saying other one two
