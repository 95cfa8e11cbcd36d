use Rattle.std.proofs.Common.{◌∙◌, arith, refl}
use Rattle.toll_server.proofs.ServingLemmas.{all_heard, most_heard, none_heard, one_heard}
use Rattle.toll_server.proofs.event_loop.advance_all.Goals as goal

pub loop-init : goal.loop-init
loop-init g c = record {
  heard = none_heard g.O.Party.PartialEq.eq g.O.Service.is_by g.O.Service.answers g.O.Service.resumes g.W.Stream.Source g.W.Stream.Sink c.args.connections.now _ _ refl;
  event_count = omega arith;
  owners_left = refl;
  most_open = refl;
}

pub loop-preserved : goal.loop-preserved
loop-preserved g c = record {
  heard = one_heard g.O.Party.PartialEq.eq g.O.Service.is_by g.O.Service.answers g.O.Service.resumes g.W.Stream.Source g.W.Stream.Sink c.args.connections.now c.loop.connections c.advance.new.self
      c.loop.counter c.in-Some.key _ _ _ c.loop.invariant.heard c.in-Some.ensures c.advance.ensures.joins c.advance.ensures.tasks c.loop.invariant.most_open c.advance.ensures.owners_left
      c.advance.ensures.hears;
  event_count = omega (arith, c.advance.ensures.more, c.loop.invariant.event_count);
  most_open = c.advance.ensures.most_open ∙ c.loop.invariant.most_open;
  owners_left = c.advance.ensures.owners_left ∙ c.loop.invariant.owners_left;
}

pub returns-in_default-clause-heard : goal.returns-in_default-clause-heard
returns-in_default-clause-heard g c =
    all_heard g.O.Party.PartialEq.eq g.O.Service.is_by g.O.Service.answers g.O.Service.resumes g.W.Stream.Source g.W.Stream.Sink c.args.connections.now c.loop.connections c.loop.counter _ _ _
    c.loop.invariant.heard c.in_default.ensures

pub returns-clause-heard : goal.returns-clause-heard
returns-clause-heard g c =
    most_heard g.O.Party.PartialEq.eq g.O.Service.is_by g.O.Service.answers g.O.Service.resumes g.W.Stream.Source g.W.Stream.Sink c.args.connections.now c.loop.connections c.loop.counter _ _
    (omega arith) c.loop.invariant.heard
