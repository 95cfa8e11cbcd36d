use Rattle.std.proofs.Common.{is_some, sym, ap, ◌∙◌}
use Rattle.toll_desk.proofs.Common.{same_bytes}
use Rattle.toll_desk.proofs.tracing.may_trace.Goals as goal

pub returns-then-eq : goal.returns-then-eq
returns-then-eq c H lawful rows =
    let lot = c.args.lot.now in
    rw (sym (c.eq.ensures ∙ ap (same_bytes lot.owner) c.owner.ensures.owner) ∙ c.if-eq.true)
    (c.is_some.ensures ∙ ap is_some c.lot.ensures ∙ ap (λ t. is_some (t.lot lot.lot)) rows)

pub returns-else-eq : goal.returns-else-eq
returns-else-eq c H lawful rows =
    rw (sym (c.eq.ensures ∙ ap (same_bytes c.args.lot.now.owner) c.owner.ensures.owner) ∙ c.if-eq.false)
    (c.has_consumed.ensures.over H lawful rows)
