-- Stored rows put into a slice as they are read.
use Rattle.std.proofs.Common.{◌≡◌, ℕ, ◌+◌, ◌<◌, List, length, get_or, sym, ap, subst, subst₂, ◌∙◌}
use Rattle.toll_sql.proofs.Common.{get_or-map, length-map, Row, Bytes, Text, Put, column, columns_from, width_of, table_for, cells_for, Slice, with_row, KeepsRules, front_slice, IsStoredAs, AreStoredOfOwner, RowKind}
use Rattle.toll_sql.proofs.ChangeLemmas.{fills}
use Rattle.toll_sql.proofs.FrontRules.{front_keeps}
use Rattle.toll_sql.proofs.Rowwise.{owner_first}
use Rattle.toll_sql.proofs.SoFar.{value_at, first_item}
use Rattle.toll_sql.proofs.WriteLemmas.{whole_row}

-- The row that is read from a row's cells is that row.
module _ {X : Type 0} (kind : RowKind X) (stand : AreStoredOfOwner kind) (o : Bytes) (x : X) where
  first_is_owner : column (kind.cells o x) 0 ≡ Text o
  first_is_owner = subst (λ cells. column cells 0 ≡ Text o) (stand.its_cells o x) (owner_first o (kind.any_row x))

  whole_cells : columns_from 0 (width_of kind.table) (kind.cells o x) ≡ kind.cells o x
  whole_cells =
      let row = kind.any_row x in
      subst₂ (λ k cells. columns_from 0 (width_of k) cells ≡ cells) (stand.its_table x) (stand.its_cells o x) (whole_row (table_for row) (cells_for o row) (fills (Put o row)))

  pub read_back : (found : Row) (y : X) → kind.is_valid x → kind.is_valid y → found ≡ kind.cells o x → (column found 0 ≡ Text o → columns_from 0 (width_of kind.table) found ≡ kind.cells o y) → y ≡ x
  read_back found y valid_x valid_y is read =
      stand.reported o y x valid_y valid_x (sym (read (ap (λ row. column row 0) is ∙ first_is_owner)) ∙ ap (columns_from 0 (width_of kind.table)) is ∙ whole_cells)

module _ {X : Type 0} (kind : RowKind X) (stand : AreStoredOfOwner kind) (s : Slice) (rows : List Row) (stored : IsStoredAs kind.table s rows) where
  pub table_as_many : length rows ≡ length (kind.listed s)
  table_as_many = ap length (stored.are ∙ stand.its_rows s) ∙ length-map (kind.listed s) (kind.cells s.owner)

  module _ (i : ℕ) (lt : i < length rows) where
    table_inside : i < length (kind.listed s)
    table_inside = subst (λ n. i < n) table_as_many lt

    -- the row at this place
    pub table_item : X
    table_item = get_or (kind.listed s) i (first_item (kind.listed s) i table_inside)

    pub table_item_is : (d : Row) → get_or rows i d ≡ kind.cells s.owner table_item
    unfolding table_item
    table_item_is d = ap (λ (rs : List Row). get_or rs i d) (stored.are ∙ stand.its_rows s) ∙ get_or-map (kind.cells s.owner) (kind.listed s) i (first_item (kind.listed s) i table_inside) d table_inside

    pub table_item_valid : kind.is_valid table_item
    unfolding table_item
    table_item_valid = value_at kind.is_valid (kind.listed s) i (first_item (kind.listed s) i table_inside) (stand.are_valid s stored.valid) table_inside

    -- With this row, one more is in.
    pub with_table_item : (slice : Slice) → slice ≡ front_slice kind.table i s → with_row slice (kind.any_row table_item) ≡ front_slice kind.table (i + 1) s
    unfolding table_item
    with_table_item slice so_far = ap (λ t. with_row t (kind.any_row (get_or (kind.listed s) i (first_item (kind.listed s) i table_inside)))) so_far ∙ stand.next s i (first_item (kind.listed s) i table_inside) stored.rising table_inside

    pub with_it_keeps : (slice : Slice) → slice ≡ front_slice kind.table i s → KeepsRules s → KeepsRules (with_row slice (kind.any_row table_item))
    with_it_keeps slice so_far keeps = subst KeepsRules (sym (with_table_item slice so_far)) (front_keeps kind.table (i + 1) s keeps)
