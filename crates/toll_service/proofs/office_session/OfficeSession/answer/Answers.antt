use Rattle.std.proofs.Common.{◌≡◌, ◌∙◌, Some, ap, subst, sym}
use Rattle.toll_keep.specs.declared.keep_fault.KeepFault.TheVariants.{Damaged}
use Rattle.toll_server.specs.RequestBuffers.{bytes_received, listener_of}
use Rattle.toll_service.specs.Damages.{HasFoundDamage, IsNoted, StaysWhere}
use Rattle.toll_service.specs.Listeners.{ReportsFault}
use Rattle.toll_service.specs.Sessions.{AreAsLeft, IsAtHand, IsUsedBy, state_of_session}
use Rattle.toll_service.proofs.DamageLemmas.{meets_damage, noted_behind, reports_damage}
use Rattle.toll_service.proofs.office_session.OfficeSession.answer.Goals as goal
use Rattle.toll_service.proofs.office_session.OfficeSession.answer.Goals.{in-Pending, in_default}

pub returns-clause-damage : goal.returns-clause-damage
returns-clause-damage g c =
    let K = g.K.Keep in
    let O = g.O.KeepOpener in
    let old = c.args.self.now in
    let listener = listener_of c.args.request.now in
    let requested = bytes_received c.args.request.now in
    let first = c.in_ok-opened.opened.keep in
    let turn = c.reply_over-reply in
    let Kept : Type 0 = AreAsLeft O.is_found old in
    let damage : c.match-reply.self.damage ≡ c.check_out.new.self.damage =
    elim (c.match-reply.branch) [ in-Pending w ↦ ap (λ s. s.damage) w.self-is | in_default w ↦ ap (λ s. s.damage) w.self-is ] in
    let counted : c.match-reply.self.openings ≡ c.check_out.new.self.openings =
    elim (c.match-reply.branch) [ in-Pending w ↦ ap (λ s. s.openings) w.self-is | in_default w ↦ ap (λ s. s.openings) w.self-is ] in
    let openings : c.check_in.new.self.openings ≡ c.check_out.new.self.openings = c.check_in.ensures.openings ∙ (ap (λ s. s.openings) c.note_damage.ensures.beside ∙ counted) in
    let begins : IsUsedBy O.is_opened O.is_found old c.check_in.new.self first =
    subst (λ n. IsAtHand O.is_opened Kept (state_of_session old) (record (state_of_session old) { openings = n }) first) (sym openings) c.in_ok-opened.ensures.ok in
    subst (λ d. IsNoted (HasFoundDamage K.meaning O.has_damaged (IsUsedBy O.is_opened O.is_found old c.check_in.new.self)) Kept (ReportsFault Damaged turn.result.poll) old.damage d listener requested)
    (sym c.check_in.ensures.damage)
    (noted_behind (λ owner. (turn.result.fault ≡ Some Damaged) × O.has_damaged turn.new.keep owner)
    (HasFoundDamage K.meaning O.has_damaged (IsUsedBy O.is_opened O.is_found old c.check_in.new.self)) Kept (turn.result.fault ≡ Some Damaged) (ReportsFault Damaged turn.result.poll)
    old.damage c.match-reply.self.damage c.note_damage.new.self.damage listener requested
    (subst (λ d. StaysWhere Kept old.damage d) (sym damage) c.in_ok-opened.ensures.damage)
    (λ is owner found. record {
      first = first;
      last = turn.new.keep;
      begins = begins;
      met = meets_damage K.meaning first turn.new.keep listener turn.result.poll turn.result.fault turn.ensures.met is found.0;
      found = found.1;
    })
    (λ is met. reports_damage K.meaning first turn.new.keep listener turn.result.poll turn.result.fault turn.ensures.met is met)
    c.note_damage.ensures.noted)
