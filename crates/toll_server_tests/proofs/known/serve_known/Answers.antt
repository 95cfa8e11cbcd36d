use Rattle.std.proofs.Common.{refl}
use Rattle.toll_server_tests.proofs.KnownLemmas.{listened, none_missed, serves_owner}
use Rattle.toll_server_tests.proofs.known.serve_known.Goals as goal

pub returns-clause-requests : goal.returns-clause-requests
returns-clause-requests g c =
    serves_owner g.O.Party.PartialEq.eq _ _ g.O.Service.is_by g.O.Service.answers g.O.Service.resumes _ c.args.count _ c.serve-end.ensures.events.0 c.args.service.now c.serve-end.new.service _ _
    c.new-network.ensures c.serve-end.ensures.events.1 g.met.O.Party.Eq.laws c.serve-end.new.network.owner c.serve-end.new.network.request.now _ refl refl

pub returns-clause-heard : goal.returns-clause-heard
returns-clause-heard g c = none_missed g.O.Party.PartialEq.eq _ _ g.O.Service.is_by g.O.Service.answers g.O.Service.resumes _ c.args.count _ c.serve-end.ensures.events.0 c.args.service.now
    c.serve-end.new.service _ _ c.new-network.ensures c.serve-end.ensures.events.1

pub returns-clause-waits : goal.returns-clause-waits
returns-clause-waits g c = listened c.args.count _ _ c.new-network.ensures c.serve-end.ensures.listens
