use Rattle.std.proofs.Common.{◌≡◌, inr, rules, subst, sym}
use Rattle.toll_service.specs.Damages.{KnowsNoMore}
use Rattle.toll_service.specs.Sessions.{IsGivenUp, IsSessionIdle, state_of_session}
use Rattle.toll_service.specs.Listeners.{IsReadyWith}
use Rattle.toll_service.proofs.office_service.OfficeServiceService.resume.Goals as goal

pub returns-in-Err : goal.returns-in-Err
returns-in-Err g c = inr (record {
  fault = c.in-Err.stopped.fault;
  idle = subst (λ s. IsSessionIdle (state_of_session c.args.self.now.session) (state_of_session s)) (sym c.log_closed.ensures.session) c.in-Err.ensures.err;
  reported = subst (λ import. IsReadyWith c.give_up.result (IsGivenUp c.in-Err.stopped.fault import)) c.in-Err.ensures.stopped.0 c.give_up.ensures;
  cause = (search (rules, c.in-Err.ensures.refused, c.log_closed.ensures.office_path), c.log_closed.ensures.fault);
  left = subst (λ s. s.left ≡ c.args.self.now.session.left) (sym c.log_closed.ensures.session) c.in-Err.ensures.stays.0;
  known = subst (λ s. KnowsNoMore c.args.self.now.session.damage s.damage) (sym c.log_closed.ensures.session) c.in-Err.ensures.stays.1;
})
