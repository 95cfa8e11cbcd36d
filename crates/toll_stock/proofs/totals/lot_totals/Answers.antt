use Rattle.std.proofs.Common.{Some, sym, ◌∙◌}
use Rattle.toll_stock.proofs.Common.{Totals}
use Rattle.toll_stock.proofs.TotalsLaw.{none_given, totals_are_given}
use Rattle.toll_stock.proofs.totals.lot_totals.Goals as goal

pub returns-in-None-clause-totals : goal.returns-in-None-clause-totals
returns-in-None-clause-totals c = λ H lawful there.
    none_given H c.args.slice.now there c.args.lot.now (sym c.lot.ensures ∙ c.in-None.is)

pub returns-in-Some-clause-totals : goal.returns-in-Some-clause-totals
returns-in-Some-clause-totals c = λ H lawful there.
    (λ i. let t : Totals = record { on_hand = c.on_hand_of.ensures.amount H lawful there i; shipped = c.shipped_of.ensures.amount H lawful there i } in Some t)
    ∙ totals_are_given H c.args.slice.now there c.args.lot.now c.in-Some.field-0 (sym c.lot.ensures ∙ c.in-Some.is)
