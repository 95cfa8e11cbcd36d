-- A content that stands for a history: it has just the rows that the history gives.
use Rattle.std.specs.Prelude.{◌≡◌, true, false, List, length}
use Rattle.std.specs.Option.{option_map}
use Rattle.toll_base.specs.Bytes.{Bytes, bytes_cmp}
use Rattle.toll_base.specs.Words.{where_so}
use Rattle.toll_base.specs.Table.{IsInKeyOrder, row_at}
use Rattle.toll_base.specs.Slice.{empty_slice}
use Rattle.toll_history.specs.History.{History, acts, owner_key, owner_known, count_owners, unit_known, count_units}
use Rattle.toll_history.specs.OwnerFacts.{IsRowsOf}
use Rattle.toll_base.specs.declared.rows.OwnerRow.{OwnerRow}
use Rattle.toll_base.specs.declared.rows.UnitRow.{UnitRow}
use Rattle.toll_keep.specs.Content.{Content}

-- the rows of the owners that were added, in the order of their names
pub record AreOwnersOf (H : History) (rows : List OwnerRow) : Type 0 where
  pub ordered : IsInKeyOrder bytes_cmp (λ row. row.owner) rows
  pub each : (o : Bytes) → row_at bytes_cmp (λ row. row.owner) rows o ≡ option_map (λ key. record { owner = o; key = key }) (owner_key (acts o H))
  pub all : length rows ≡ count_owners H

-- the rows of the units that were added, in the order of their names
pub record AreUnitsOf (H : History) (rows : List UnitRow) : Type 0 where
  pub ordered : IsInKeyOrder bytes_cmp (λ row. row.unit) rows
  pub each : (unit : Bytes) → row_at bytes_cmp (λ row. row.unit) rows unit ≡ where_so (unit_known H unit) (record { unit = unit })
  pub all : length rows ≡ count_units H

-- the content has just the rows that the history gives: each owner has its own, and an unknown owner has none
pub record Represents (c : Content) (H : History) : Type 0 where
  pub owners : AreOwnersOf H c.owners
  pub units : AreUnitsOf H c.units
  pub own : (o : Bytes) → (c.rows o).owner ≡ o
  pub known : (o : Bytes) → owner_known H o ≡ true → IsRowsOf H (c.rows o)
  pub unknown : (o : Bytes) → owner_known H o ≡ false → c.rows o ≡ empty_slice o
