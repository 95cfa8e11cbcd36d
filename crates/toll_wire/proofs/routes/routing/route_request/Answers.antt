use Rattle.std.proofs.Common.{sym}
use Rattle.toll_wire.proofs.RequestAt.{request_at, no_route, not_served}
use Rattle.toll_wire.proofs.AddressLemmas.{route_values_fit}
use Rattle.toll_wire.proofs.routes.routing.route_request.Goals as goal

pub request_of_kind-requires : goal.request_of_kind-requires
request_of_kind-requires c =
    route_values_fit c.args.verb c.path_of.result.now c.in-Some.endpoint c.in-Some.values c.in-Some-kind_for.kind c.in-Some.ensures (sym c.in-Some-kind_for.ensures)

pub returns-in-Some-kind_for : goal.returns-in-Some-kind_for
returns-in-Some-kind_for c =
    request_at c.args.verb c.args.target.now c.args.body.now c.path_of.result.now c.in-Some.endpoint c.in-Some.values c.in-Some-kind_for.kind c.request_of_kind.result
    c.path_of.ensures c.in-Some.ensures c.in-Some-kind_for.ensures c.request_of_kind.ensures

pub returns-in-None : goal.returns-in-None
returns-in-None c =
    not_served c.args.verb c.other_of.result c.args.target.now c.args.body.now c.path_of.result.now c.in-Some.endpoint c.in-Some.values
    c.path_of.ensures c.in-Some.ensures c.in-None.ensures c.other_of.ensures

pub returns-in_default : goal.returns-in_default
returns-in_default c = no_route c.args.verb c.args.target.now c.args.body.now c.path_of.result.now c.path_of.ensures c.in_default.ensures
