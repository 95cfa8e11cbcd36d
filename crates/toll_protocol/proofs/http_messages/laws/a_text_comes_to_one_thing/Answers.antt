use Rattle.toll_protocol.proofs.Arrivals.{arrives_once}
use Rattle.toll_protocol.proofs.http_messages.laws.a_text_comes_to_one_thing.Goals as goal

pub returns : goal.returns
returns c = λ text one other first second. arrives_once text one other first second
