use Rattle.std.proofs.Common.{◌∷◌, map, ap, ◌∙◌}
use Rattle.toll_base.specs.Values.{house_name}
use Rattle.toll_desk.proofs.Common.{IfOk-weaker}
use Rattle.toll_desk.proofs.PlantTraces.{forward_all}
use Rattle.toll_desk.proofs.plant_tracing.trace_all.Goals as goal

pub returns-in-Ok-names_of-clause-over : goal.returns-in-Ok-names_of-clause-over
returns-in-Ok-names_of-clause-over g c honest content H held stands lawful =
    let before = c.trace.ensures.reading.goes.honest honest in
    let rows = c.deref.ensures.value ∙ c.in-Ok.ensures.reads before content held in
    IfOk-weaker c.trace.result _ _
    (λ steps is. forward_all H content lawful stands c.args.lot.now c.deref-in-Ok-names_of.result.now steps.items (c.deref-in-Ok-names_of.ensures.value ∙ c.in-Ok-names_of.ensures ∙ ap (λ rows. house_name ∷ map (λ row. row.owner) rows) rows) is)
    (c.trace.ensures.reads honest content ((c.in-Ok.ensures.reading.keeps before).content content held))
