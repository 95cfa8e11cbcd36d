use Rattle.std.proofs.Common.{◌≡◌, ◌∙◌, inl, inr, rules, subst, sym, true}
use Rattle.toll_base.proofs.Texts.{same_bytes-exact}
use Rattle.toll_base.specs.Bytes.{same_bytes}
use Rattle.toll_server.specs.RequestBuffers.{bytes_received, listener_of}
use Rattle.toll_service.specs.Parties.{IsBy}
use Rattle.toll_service.specs.declared.party.Party.TheVariants.{Owner}
use Rattle.toll_service.proofs.office_session.OfficeSession.note_claimed.Goals as goal

pub returns-then-eq-clause-owners : goal.returns-then-eq-clause-owners
returns-then-eq-clause-owners g c = λ o there.
    let listener = listener_of c.args.request.now in
    let requested = bytes_received c.args.request.now in
    let is : same_bytes c.in-Owner.claimed c.args.owner ≡ true = search (rules, c.eq.ensures, c.if-eq.true) in
    let same = same_bytes-exact c.in-Owner.claimed c.args.owner is in
    let by = subst (IsBy listener requested) c.in-Owner.is c.of.ensures in
    elim (c.note_owner.ensures.owners o there) [
      | inl known ↦ inl known
      | inr its ↦ inr (its, subst (λ name. IsBy listener requested (Owner name)) (same ∙ sym its) by)
    ]
