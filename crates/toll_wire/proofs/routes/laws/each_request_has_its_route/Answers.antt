use Rattle.toll_wire.proofs.AddressLemmas.{each_address_asks}
use Rattle.toll_wire.proofs.routes.laws.each_request_has_its_route.Goals as goal

pub returns : goal.returns
returns c = each_address_asks
