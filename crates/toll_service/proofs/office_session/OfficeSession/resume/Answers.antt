use Rattle.std.proofs.Common.{◌≡◌, ◌∙◌, ap, subst, sym}
use Rattle.toll_service.specs.Damages.{StaysWhere}
use Rattle.toll_service.specs.Sessions.{AreAsLeft}
use Rattle.toll_service.proofs.office_session.OfficeSession.resume.Goals as goal
use Rattle.toll_service.proofs.office_session.OfficeSession.resume.Goals.{in-Ready, in_default}

pub returns-after-reply-clause-damage : goal.returns-after-reply-clause-damage
returns-after-reply-clause-damage g c =
    let counted : c.match-reply.self.damage ≡ c.check_out.new.self.damage =
    elim (c.match-reply.branch) [ in-Ready w ↦ ap (λ s. s.damage) w.self-is | in_default w ↦ ap (λ s. s.damage) w.self-is ] in
    subst (λ d. StaysWhere (AreAsLeft g.O.KeepOpener.is_found c.args.self.now) c.args.self.now.damage d) (sym (c.check_in.ensures.damage ∙ counted)) c.in-Ok.ensures.damage
