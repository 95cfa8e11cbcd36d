use Rattle.std.proofs.Common.{ap, is_some, ◌∙◌}
use Rattle.toll_desk.proofs.Common.{IfOk-weaker, bytes_cmp, row_at}
use Rattle.toll_desk.proofs.UnitAdded.{unit_known_alike}
use Rattle.toll_desk.proofs.deciding.unit_state.Goals as goal

pub returns-in-Ok-clause-over : goal.returns-in-Ok-clause-over
returns-in-Ok-clause-over g c honest content H held stands lawful =
    let before = c.holding.ensures.reads.goes.honest honest in
    let unit = c.args.unit.now in
    let known = c.is_some.ensures ∙ ap is_some c.find_unit.ensures ∙ ap is_some (λ i. row_at bytes_cmp (λ r. r.unit) ((c.deref.ensures.value ∙ c.in-Ok.ensures.reads before content held) i) (c.as_bytes.ensures.bytes i)) ∙ unit_known_alike content H stands unit in
    IfOk-weaker c.holding.result _ _ (λ state is. record { known = is.0 ∙ known; free = is.1 })
    (c.holding.ensures.over honest content H ((c.in-Ok.ensures.reading.keeps before).content content held) stands lawful)
