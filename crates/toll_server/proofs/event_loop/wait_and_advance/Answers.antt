use Rattle.toll_server.proofs.ServingLemmas.{waited_so}
use Rattle.toll_server.proofs.event_loop.wait_and_advance.Goals as goal

pub returns-clause-waited : goal.returns-clause-waited
returns-clause-waited g c = (
  c.in_ok-now.now,
  waited_so g.O.Party.PartialEq.eq g.O.Service.is_by g.O.Service.answers g.O.Service.resumes g.W.Stream.Source g.W.Stream.Sink c.in_ok-now.now c.wait_limit-limit.result c.now.result c.args.connections.now
      c.advance_all.new.connections c.close_expired.new.self _ _ _ _ c.now.ensures c.in_ok-now.ensures c.wait_limit-limit.ensures.in_time c.wait_limit-limit.ensures.cause c.advance_all.ensures.heard
      c.close_expired.ensures.gone c.close_expired.ensures.event_count c.close_expired.ensures.owners_left,
)
