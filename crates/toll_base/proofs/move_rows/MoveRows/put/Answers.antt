use Rattle.std.proofs.Common.{◌≡◌, sym, ap, ◌∙◌, length, get_or, arith}
use Rattle.toll_base.proofs.Common.{nat_list_cmp_total, bytes_cmp, rows_at, row_at, put_row}
use Rattle.toll_base.proofs.KeyOrder.{row_at_gap}
use Rattle.toll_base.proofs.MovePlaces.{found_at, put_over, put_behind, few}
use Rattle.toll_base.proofs.move_rows.MoveRows.put.Goals as goal
use Rattle.toll_base.specs.declared.capacity.TheConstants.{MOST_MOVEMENTS}

-- the row is written over the one with its key
pub invariant_of-self : goal.invariant_of-self
invariant_of-self c =
    (put_over c.self.inside.rows.items c.self.inside.places c.self.invariant c.args.row c.in-Ok.at _
    (rw (← c.as_slice.ensures) c.in-Ok.ensures.bound)
    (ap (λ places. get_or places c.in-Ok.at 0) c.as_slice-in-Ok.ensures)
    (rw (← c.as_slice.ensures, ← c.deref.ensures.value) c.in-Ok.ensures.place)).are

pub returns-in-Ok-clause-ok : goal.returns-in-Ok-clause-ok
returns-in-Ok-clause-ok c =
    (put_over c.self.inside.rows.items c.self.inside.places c.self.invariant c.args.row c.in-Ok.at _
    (rw (← c.as_slice.ensures) c.in-Ok.ensures.bound)
    (ap (λ places. get_or places c.in-Ok.at 0) c.as_slice-in-Ok.ensures)
    (rw (← c.as_slice.ensures, ← c.deref.ensures.value) c.in-Ok.ensures.place)).same
    ∙ ap (λ rows. put_row bytes_cmp (λ row. row.key) rows c.args.row) c.self.view_is

pub returns-in-Ok-clause-known : goal.returns-in-Ok-clause-known
returns-in-Ok-clause-known c =
    sym (found_at c.self.inside.rows.items c.self.inside.places c.self.invariant c.args.row.key c.in-Ok.at c.index-known.result.now
    (rw (← c.as_slice.ensures) c.in-Ok.ensures.bound)
    (rw (← c.as_slice.ensures, ← c.deref.ensures.value) c.in-Ok.ensures.place)
    (rw (← c.as_slice-in-Ok.ensures) c.index-known.ensures))
    ∙ ap (λ rows. row_at bytes_cmp (λ row. row.key) rows c.args.row.key) c.self.view_is

-- no more movements are there than places have numbers
pub overflow_cast-place-in-Err : goal.overflow_cast-place-in-Err
overflow_cast-place-in-Err c =
    let most = few c.self.inside.rows.items c.self.inside.places c.self.invariant MOST_MOVEMENTS (rw c.self.view_is c.requires) in
    omega (arith, most, c.len-place.ensures, c.deref.ensures.len, ap length c.deref.ensures.value)

-- the row comes behind the others, and its place goes into the gap
pub invariant_of-self-in-Ok-insert : goal.invariant_of-self-in-Ok-insert
invariant_of-self-in-Ok-insert c =
    let last : c.len-place.result ≡ length c.self.inside.rows.items = c.len-place.ensures ∙ sym c.deref.ensures.len ∙ ap length c.deref.ensures.value in
    rw (c.in_ok-push-in-Err.ensures.items, c.in-Ok-insert.ensures.ok, last)
    (put_behind c.self.inside.rows.items c.self.inside.places c.self.invariant c.args.row c.in-Err.at
    (rw (← c.as_slice.ensures) c.in-Err.ensures.bound)
    (rw (← c.as_slice.ensures, ← c.deref.ensures.value) c.in-Err.ensures.place)).are

pub returns-in-Ok-insert-clause-ok : goal.returns-in-Ok-insert-clause-ok
returns-in-Ok-insert-clause-ok c =
    let last : c.len-place.result ≡ length c.self.inside.rows.items = c.len-place.ensures ∙ sym c.deref.ensures.len ∙ ap length c.deref.ensures.value in
    rw (c.in_ok-push-in-Err.ensures.items, c.in-Ok-insert.ensures.ok, last)
    ((put_behind c.self.inside.rows.items c.self.inside.places c.self.invariant c.args.row c.in-Err.at
    (rw (← c.as_slice.ensures) c.in-Err.ensures.bound)
    (rw (← c.as_slice.ensures, ← c.deref.ensures.value) c.in-Err.ensures.place)).same
    ∙ ap (λ rows. put_row bytes_cmp (λ row. row.key) rows c.args.row) c.self.view_is)

pub returns-in-Ok-insert-clause-known : goal.returns-in-Ok-insert-clause-known
returns-in-Ok-insert-clause-known c =
    sym (row_at_gap bytes_cmp nat_list_cmp_total (λ row. row.key) (rows_at c.self.inside.rows.items c.self.inside.places) c.args.row.key c.in-Err.at
    (rw (← c.as_slice.ensures, ← c.deref.ensures.value) c.in-Err.ensures.place))
    ∙ ap (λ rows. row_at bytes_cmp (λ row. row.key) rows c.args.row.key) c.self.view_is
