use Rattle.std.proofs.Common.{◌≡◌, inl, inr, rules, subst, sym}
use Rattle.toll_keep.specs.declared.keep_fault.KeepFault.TheVariants.{Damaged}
use Rattle.toll_server.specs.RequestBuffers.{bytes_received, listener_of}
use Rattle.toll_service.specs.Common.{Request}
use Rattle.toll_service.specs.Damages.{HasFoundDamage, IsNoted, KnowsNoMore}
use Rattle.toll_service.specs.Listeners.{ReportsFault}
use Rattle.toll_service.specs.Openings.{IsNoneOpened}
use Rattle.toll_service.specs.Sessions.{AreAsLeft, IsSessionIdle, IsUsedBy, IsWithheld, TakesInput, state_of_session}
use Rattle.toll_service.proofs.office_service.OfficeServiceService.answer.Goals as goal

pub returns-in-Ok-answer : goal.returns-in-Ok-answer
returns-in-Ok-answer g c =
    let K = g.K.Keep in
    let O = g.O.KeepOpener in
    let first = c.args.self.now.session in
    let listener = listener_of c.args.request.now in
    let requested = bytes_received c.args.request.now in
    let Kept : Type 0 = AreAsLeft O.is_found first in
    inl (inl (
      subst (λ s. TakesInput K.meaning O.is_opened O.is_found first (Request listener requested) c.logged.result s) (sym c.logged.ensures.session)
          (subst (λ p. TakesInput K.meaning O.is_opened O.is_found first (Request listener requested) p c.answer.new.self) (sym c.logged.ensures.poll) c.in-Ok-answer.ensures.ok),
      subst (λ s. IsNoted (HasFoundDamage K.meaning O.has_damaged (IsUsedBy O.is_opened O.is_found first s)) Kept (ReportsFault Damaged c.logged.result) first.damage s.damage listener requested)
          (sym c.logged.ensures.session)
          (subst (λ p. IsNoted (HasFoundDamage K.meaning O.has_damaged (IsUsedBy O.is_opened O.is_found first c.answer.new.self)) Kept (ReportsFault Damaged p) first.damage c.answer.new.self.damage listener requested)
          (sym c.logged.ensures.poll) c.in-Ok-answer.ensures.damage),
    ))

pub returns-in-Err-answer : goal.returns-in-Err-answer
returns-in-Err-answer g c =
    let first = c.args.self.now.session in
    let unasked : IsNoneOpened (g.O.KeepOpener.openings c.args.self.now.office_path.opener) (g.O.KeepOpener.openings c.is_damaged.new.office_path.opener) = search rules in
    inl (inr (record {
      fault = c.in-Err-answer.fault;
      idle = subst (λ s. IsSessionIdle (state_of_session first) (state_of_session s)) (sym c.log_closed-in-Err-answer.ensures.session) c.in-Err-answer.ensures.err.0;
      reported = c.write-in-Err-answer.ensures;
      cause = inl (
        subst (λ t. IsWithheld g.O.KeepOpener.is_found c.in-Err-answer.fault first t (g.O.KeepOpener.openings c.log_closed-in-Err-answer.new.self.office_path.opener)) unasked
            (subst (λ p. IsWithheld g.O.KeepOpener.is_found c.in-Err-answer.fault first (g.O.KeepOpener.openings c.is_damaged.new.office_path.opener) (g.O.KeepOpener.openings p.opener))
            (sym c.log_closed-in-Err-answer.ensures.office_path) c.in-Err-answer.ensures.refused),
        c.log_closed-in-Err-answer.ensures.fault,
      );
      left = subst (λ s. s.left ≡ first.left) (sym c.log_closed-in-Err-answer.ensures.session) c.in-Err-answer.ensures.stays.0;
      known = subst (λ s. KnowsNoMore first.damage s.damage) (sym c.log_closed-in-Err-answer.ensures.session) c.in-Err-answer.ensures.stays.1;
    }))
