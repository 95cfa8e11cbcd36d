use Rattle.std.proofs.Common.{ap, ◌∙◌}
use Rattle.toll_desk.proofs.Common.{option_map, lot_id, lot_at, LotRow, lot_row, totals_given}
use Rattle.toll_desk.proofs.RecallLines.{line_is, line_none}
use Rattle.toll_desk.proofs.recalls.line_in.Goals as goal

pub returns-in_err-disposition : goal.returns-in_err-disposition
returns-in_err-disposition c H lawful rows own =
    let lot = c.args.step.now.lot in
    let row = ap (λ s. lot_at s lot.lot) c.slice.ensures ∙ (λ i. (rows i).lot lot.lot) ∙ ap (λ o. lot_row H o lot.lot) own in
    c.from_residual.ensures ∙ line_none H c.args.step.now (c.in_err-disposition.ensures ∙ ap (option_map (λ (r : LotRow). r.disposition)) row)

pub returns : goal.returns
returns c H lawful rows own =
    let lot = c.args.step.now.lot in
    let row = ap (λ s. lot_at s lot.lot) c.slice.ensures ∙ (λ i. (rows i).lot lot.lot) ∙ ap (λ o. lot_row H o lot.lot) own in
    line_is H c.args.step.now c.in_ok-disposition.disposition c.in_ok-totals.totals (c.in_ok-disposition.ensures ∙ ap (option_map (λ (r : LotRow). r.disposition)) row) (c.in_ok-totals.ensures.totals H lawful rows ∙ ap (λ o. totals_given H (lot_id o lot.lot)) own)
