use Rattle.std.proofs.Common.{sym, ap, ◌∙◌, length}
use Rattle.toll_base.proofs.PlacedRows.{length-rows_at}
use Rattle.toll_base.proofs.move_rows.MoveRows.len.Goals as goal

pub returns-clause-len : goal.returns-clause-len
returns-clause-len c =
    ap length c.as_slice.ensures ∙ sym (length-rows_at c.self.inside.rows.items c.self.inside.places c.self.invariant.have) ∙ ap length c.self.view_is
