use Rattle.toll_protocol.proofs.MessageLemmas.{one_response}
use Rattle.toll_protocol.proofs.frames.laws.a_response_is_read_back.Goals as goal

pub returns : goal.returns
returns c = λ text status output error p other another wrong q. one_response text status other output error another wrong p q
