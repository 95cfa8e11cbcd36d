use Rattle.toll_protocol.proofs.MessageLemmas.{one_call}
use Rattle.toll_protocol.proofs.frames.laws.a_call_is_read_back.Goals as goal

pub returns : goal.returns
returns c = λ text words file p others another q. one_call text words others file another p q
