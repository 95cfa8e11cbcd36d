use Rattle.std.proofs.Common.{◌≡◌, Some, None, sym, ap, subst, ◌∙◌}
use Rattle.toll_stock.proofs.Common.{lot_id, Slice, lot_at, on_hand, History, IsRowsOf, IsLawful, totals_given, Totals}
use Rattle.toll_stock.proofs.TotalsLaw.{none_given, totals_are_given}
use Rattle.toll_stock.proofs.totals_of_lots.LotTotals.of_lot.Goals as goal

pub returns-in-None-clause-totals : goal.returns-in-None-clause-totals
returns-in-None-clause-totals c =
    let lot = c.args.lot.now in
    subst (λ (s : Slice). (H : History) → IsLawful H → IsRowsOf H s → None ≡ totals_given H (lot_id s.owner lot)) c.self.view_is
    (λ H lawful there. none_given H c.self.inside.slice there lot (sym c.lot.ensures ∙ c.in-None.is))

pub returns-in-Some-clause-totals : goal.returns-in-Some-clause-totals
returns-in-Some-clause-totals c = λ H lawful there.
    let lot = c.args.lot.now in
    let is = c.self.view_is in
    let held = c.on_hand_of.ensures.amount H lawful (subst (IsRowsOf H) (sym is) there) ∙ ap (λ s. on_hand H (lot_id s.owner lot)) is in
    (λ i. let t : Totals = record { on_hand = held i; shipped = c.shipped_of.ensures.amount H lawful there i } in Some t)
    ∙ totals_are_given H c.args.self.now there lot c.in-Some.field-0 (ap (λ s. lot_at s lot) (sym is) ∙ sym c.lot.ensures ∙ c.in-Some.is)
