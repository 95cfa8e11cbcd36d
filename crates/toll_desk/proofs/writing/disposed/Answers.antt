use Rattle.std.proofs.Common.{sym, ap, subst}
use Rattle.toll_desk.proofs.Common.{changes_of, verdict_of, lot_row, IsLotViewOf, ReplyLot}
use Rattle.toll_desk.specs.Plans.{IsPlanOver}
use Rattle.toll_desk.proofs.WriteOver.{dispose_accepted}
use Rattle.toll_desk.proofs.writing.disposed.Goals as goal

pub returns-in-Ok-Some-clause-over : goal.returns-in-Ok-Some-clause-over
returns-in-Ok-Some-clause-over c H lawful known there q a disposes own =
    let s = c.args.slice.now in
    let view = c.in-Ok-Some.view in
    let d = c.args.decision in
    subst (λ v. IsPlanOver H s q (ReplyLot v.row v.measure v.results.items v.sublots.items) c.in-Accept.changes.items) (sym c.with_disposition.ensures)
    (subst (IsPlanOver H s q _) (ap changes_of c.in-Accept.is)
    (dispose_accepted H s lawful known there c.args.lot.now c.args.disposition q a disposes d own view (ap verdict_of c.in-Accept.is)
    (subst (IsLotViewOf H s.owner (lot_row H s.owner c.args.lot.now)) c.in-Ok-Some.field-0-is (c.in-Ok-Some.ensures.over H lawful there))))
