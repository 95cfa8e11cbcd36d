use Rattle.std.proofs.Common.{subst}
use Rattle.toll_service.specs.FileServing.{IsFresh}
use Rattle.toll_service.proofs.office_serving.serve_file.Goals as goal

pub returns-clause-served : goal.returns-clause-served
returns-clause-served g c = record {
  first = c.open_ahead.new.self;
  last = c.serve-served.new.service;
  fresh = subst (λ p. IsFresh g.K.Keep.meaning g.O.KeepOpener.is_opened g.O.KeepOpener.openings (g.O.KeepOpener.openings p.opener) c.open_ahead.new.self) c.new-service.ensures.office_path
      (c.open_ahead.ensures c.new-service.ensures.session);
  run = c.serve-served.ensures.run;
  in_turn = c.serve-served.ensures.in_turn;
  most = c.serve-served.ensures.events.0;
  events = c.serve-served.ensures.events.1;
}
