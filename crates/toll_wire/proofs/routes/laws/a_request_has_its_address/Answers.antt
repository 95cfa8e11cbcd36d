use Rattle.toll_wire.proofs.AddressLemmas.{each_has_address}
use Rattle.toll_wire.proofs.routes.laws.a_request_has_its_address.Goals as goal

pub returns : goal.returns
returns c = each_has_address
