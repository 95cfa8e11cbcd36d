use Rattle.std.proofs.Common.{sym, ap, ◌∙◌}
use Rattle.toll_base.proofs.Common.{nat_list_cmp_total, bytes_cmp, rows_at, row_at}
use Rattle.toll_base.proofs.KeyOrder.{row_at_gap}
use Rattle.toll_base.proofs.MovePlaces.{found_at}
use Rattle.toll_base.proofs.move_rows.MoveRows.get.Goals as goal

pub returns-in-Ok : goal.returns-in-Ok
returns-in-Ok c =
    sym (found_at c.self.inside.rows.items c.self.inside.places c.self.invariant c.args.key.now c.in-Ok.at c.index.result.now
    (rw (← c.as_slice-places.ensures) c.in-Ok.ensures.bound)
    (rw (← c.as_slice-places.ensures, ← c.deref.ensures.value) c.in-Ok.ensures.place)
    (rw (← c.as_slice-places.ensures) c.index.ensures))
    ∙ ap (λ rows. row_at bytes_cmp (λ row. row.key) rows c.args.key.now) c.self.view_is

pub returns-in-Err : goal.returns-in-Err
returns-in-Err c =
    sym (row_at_gap bytes_cmp nat_list_cmp_total (λ row. row.key) (rows_at c.self.inside.rows.items c.self.inside.places) c.args.key.now c.in-Err.field-0
    (rw (← c.as_slice-places.ensures, ← c.deref.ensures.value) c.in-Err.ensures.place))
    ∙ ap (λ rows. row_at bytes_cmp (λ row. row.key) rows c.args.key.now) c.self.view_is
