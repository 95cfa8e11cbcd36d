use Rattle.toll_service.proofs.WholeLemmas.{parts_are_all_of_request}
use Rattle.toll_service.proofs.laws.turns_of_a_request_are_all_of_it.Goals as goal

pub returns : goal.returns
returns c = parts_are_all_of_request
