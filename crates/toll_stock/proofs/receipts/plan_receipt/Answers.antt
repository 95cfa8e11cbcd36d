use Rattle.std.proofs.Common.{rules, ◌+◌, [], ◌∷◌, ◌++◌}
use Rattle.std.specs.Prelude.{IfOk}
use Rattle.toll_stock.proofs.Common.{lot_row_of, Put, Quarantined, Receipts, Lot, Move, Sublot, sublot_bounds, IsDecided, facts_of, key_checks, receive_checks, gained}
use Rattle.toll_stock.proofs.receipts.plan_receipt.Goals as goal

pub returns-clause-plan : goal.returns-clause-plan
returns-clause-plan c =
    let t = facts_of c.args.slice.now in
    let o = c.args.slice.now.owner in
    let row = c.args.row.now in
    let lot = c.args.lot in
    let old : IfOk c.decide_movement.result (IsDecided (key_checks t row ++ receive_checks t c.args.material lot ++ sublot_bounds t lot c.args.sublot row.amount)
    (Put o (Move row) ∷ Put o (Lot (lot_row_of lot c.args.material Receipts Quarantined)) ∷ Put o (Sublot (gained lot c.args.sublot row.amount t)) ∷ [])) = search rules in
    old
