use Rattle.std.proofs.Common.{length, map, ap, sym, ◌∙◌}
use Rattle.toll_plant.proofs.ActualLemmas.{asks_actual}
use Rattle.toll_plant.proofs.actuals.command.Goals as goal

pub read-requires : goal.read-requires
read-requires c =
    let words = ap (map (λ f. f.now)) c.as_slice.ensures.value ∙ c.in_ok-fields.ensures in
    asks_actual (map (λ f. f.now) c.as_slice.result.now) (ap length words ∙ (sym c.len.ensures ∙ c.if-len.true))
