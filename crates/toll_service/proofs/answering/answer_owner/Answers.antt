use Rattle.std.proofs.Common.{refl, rules, arith}
use Rattle.toll_wire.specs.declared.outgoing.Out.TheVariants.{Text, Unavailable}
use Rattle.toll_service.proofs.RequestLemmas.{bytes_held}
use Rattle.toll_service.proofs.answering.answer_owner.Goals as goal

pub returns-in-Ok-clause-served : goal.returns-in-Ok-clause-served
returns-in-Ok-clause-served g c =
    let (request, same) = bytes_held c.in_ok-unavailable.unavailable c.args.http.now (omega (arith, c.parsed.ensures.bound)) in
    record { request = request; same = same; out = Text c.in-Ok.text; answered = c.in-Ok.ensures.answered _ c.parsed.ensures.value; tells = refl; goes = refl }

pub returns-in-Err-clause-served : goal.returns-in-Err-clause-served
returns-in-Err-clause-served g c =
    let (request, same) = bytes_held c.in_ok-unavailable.unavailable c.args.http.now (omega (arith, c.parsed.ensures.bound)) in
    record { request = request; same = same; out = Unavailable; answered = c.in-Err.ensures.answered _ c.parsed.ensures.value; tells = search rules; goes = refl }
