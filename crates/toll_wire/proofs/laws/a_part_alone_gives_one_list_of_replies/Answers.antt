use Rattle.toll_wire.proofs.Determined.{one_alone}
use Rattle.toll_wire.proofs.laws.a_part_alone_gives_one_list_of_replies.Goals as goal

pub returns : goal.returns
returns c = λ F own replies others alone alone'. one_alone F own replies others alone alone'
