use Rattle.std.proofs.Common.{rules, [], ◌∷◌, ◌++◌}
use Rattle.std.specs.Prelude.{IfOk}
use Rattle.toll_stock.proofs.Common.{Put, Move, Sublot, IsDecided, facts_of, key_checks, gained, less_in_sublot}
use Rattle.toll_stock.specs.Plans.{parted_checks}
use Rattle.toll_stock.proofs.splits.plan_split.Goals as goal

pub returns-clause-plan : goal.returns-clause-plan
returns-clause-plan c =
    let t = facts_of c.args.slice.now in
    let o = c.args.slice.now.owner in
    let row = c.args.row.now in
    let lot = c.args.lot in
    let old : IfOk c.decide_movement.result (IsDecided (key_checks t row ++ parted_checks t lot c.args.sublot c.args.target row.amount)
    (Put o (Move row) ∷ Put o (Sublot (gained lot c.args.target row.amount t)) ∷ Put o (Sublot (less_in_sublot lot c.args.sublot row.amount t)) ∷ [])) = search rules in
    old
