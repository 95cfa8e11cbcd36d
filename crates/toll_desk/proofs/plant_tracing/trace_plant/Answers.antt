use Rattle.std.proofs.Common.{[], ◌∷◌, refl, sym, ap, subst, ◌∙◌}
use Rattle.std.specs.Prelude.{IfOk}
use Rattle.toll_trace.specs.Chain.{edge_of}
use Rattle.toll_trace.specs.declared.way.Way.{Way}
use Rattle.toll_trace.specs.declared.way.Way.TheVariants as way
use Rattle.toll_answers.specs.Agreement.{IsPlantTrace}
use Rattle.toll_keep.specs.Holding.{IsEdgeOfOne}
use Rattle.toll_desk.proofs.Common.{IfOk-weaker, IsTrace, Bytes, same_bytes}
use Rattle.toll_desk.proofs.PlantTraces.{back_own, forward_own}
use Rattle.toll_desk.proofs.plant_tracing.trace_plant.Goals as goal

pub returns-then-eq-clause-over : goal.returns-then-eq-clause-over
returns-then-eq-clause-over g c honest content H held stands lawful =
    subst (λ (w : Way). IfOk c.trace_all.result (λ steps. IsPlantTrace H w c.args.lot.now steps.items)) (sym c.in-Forward.is) (c.trace_all.ensures.over honest content H held stands lawful)

pub returns-in-Back-clause-over : goal.returns-in-Back-clause-over
returns-in-Back-clause-over g c honest content H held stands lawful =
    let lot = c.args.lot.now in
    subst (λ (w : Way). IfOk c.trace.result (λ steps. IsPlantTrace H w lot steps.items)) (sym c.in-Back.is)
    (IfOk-weaker c.trace.result _ _
    (λ steps is. back_own H content lawful stands lot steps.items (subst (λ (h : Bytes). IsTrace (λ a b. IsEdgeOfOne content (lot.owner ∷ h ∷ []) (edge_of way.Back a b)) lot steps.items) c.house.ensures is))
    (c.trace.ensures.reads honest content held))

pub returns-else-eq-clause-over : goal.returns-else-eq-clause-over
returns-else-eq-clause-over g c honest content H held stands lawful =
    let lot = c.args.lot.now in
    subst (λ (w : Way). IfOk c.trace-in-Forward.result (λ steps. IsPlantTrace H w lot steps.items)) (sym c.in-Forward.is)
    (IfOk-weaker c.trace-in-Forward.result _ _
    (λ steps is. forward_own H content lawful stands lot.owner lot steps.items refl (ap (λ h. same_bytes lot.owner h) (sym c.house-in-Forward.ensures) ∙ sym c.eq.ensures ∙ c.if-eq.false) is)
    (c.trace-in-Forward.ensures.reads honest content held))
