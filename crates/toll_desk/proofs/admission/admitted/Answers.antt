use Rattle.std.proofs.Common.{sym, ap, ◌∙◌}
use Rattle.toll_base.specs.Bytes.{same_bytes}
use Rattle.toll_desk.proofs.Found.{admitted_row}
use Rattle.toll_desk.proofs.admission.admitted.Goals as goal

pub returns-then-is_same : goal.returns-then-is_same
returns-then-is_same c =
    admitted_row c.args.rows.now c.args.owner.now c.args.key.now c.in_ok-row.row (sym c.find_owner.ensures ∙ c.in_ok-row.was) (sym c.is_house.ensures ∙ c.if-is_house.false)
    (ap (same_bytes c.args.key.now) (sym c.as_bytes.ensures.bytes) ∙ sym c.is_same.ensures ∙ c.if-is_same.true)
