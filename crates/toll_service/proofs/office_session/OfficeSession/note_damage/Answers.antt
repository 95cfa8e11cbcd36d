use Rattle.std.proofs.Common.{◌∙◌, ap, inl, inr, rules, sym}
use Rattle.toll_server.specs.RequestBuffers.{bytes_received, listener_of}
use Rattle.toll_service.proofs.DamageLemmas.{noted_call}
use Rattle.toll_service.proofs.office_session.OfficeSession.note_damage.Goals as goal

pub returns-in-Plant-clause-noted : goal.returns-in-Plant-clause-noted
returns-in-Plant-clause-noted g c =
    noted_call _ _ c.args.self.now.damage c.note_call.new.self (listener_of c.args.request.now) (bytes_received c.args.request.now)
    (ap listener_of c.in-Plant.is) (search rules) c.note_call.ensures.owners
    (λ call there. elim (c.note_call.ensures.calls call there) [
      | inl known ↦ inl known
      | inr its ↦ inr (its ∙ c.deref.ensures.value ∙ sym (ap bytes_received c.in-Plant.is))
    ])
