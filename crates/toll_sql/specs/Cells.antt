-- The cells of stored rows, and the order of a table's key.
use Rattle.std.specs.Prelude.{ℕ, zero, suc, Bool, true, false, ◌&&◌, List, [], ◌∷◌, length, drop}
use Rattle.toll_sql.specs.Common.{on, Ordering, Row, column, row_cmp, Int, Text, Column}
use Rattle.sqlite.specs.declared.types.Value.{Value}
use Rattle.sqlite.specs.Kind.{Kind}
use Rattle.sqlite.specs.Kind.TheVariants as kind
use Rattle.toll_sql.specs.Schema.{key_columns, table_of}
use Rattle.toll_sql.specs.declared.table_kind.TableKind.{TableKind}

-- this many columns of a row, from this one on
abbrev pub columns_from : ℕ → ℕ → Row → Row
columns_from at zero row = []
columns_from at (suc n) row = column row at ∷ columns_from (suc at) n row

-- the cells after the rowid
abbrev pub cells_of : Row → Row
cells_of row = drop 1 row

-- the cells of the table's key
abbrev pub key_cells : TableKind → Row → Row
key_cells k cells = columns_from 0 (length (key_columns k)) cells

-- the order of a table's rows: that of their keys
abbrev pub key_order : TableKind → Row → Row → Ordering
key_order k = on (key_cells k) row_cmp

-- whether the cell fits a column of this kind
abbrev pub is_of_kind : Kind → Value → Bool
is_of_kind kind.Text (Text t) = true
is_of_kind kind.Integer (Int n) = true
is_of_kind _ _ = false

-- whether there are as many cells as columns, each of its column's kind
abbrev pub fit : List Column → Row → Bool
fit [] [] = true
fit (c ∷ columns) (v ∷ cells) = is_of_kind c.kind v && fit columns cells
fit _ _ = false

-- whether the cells fill the columns of the table
abbrev pub fill : TableKind → Row → Bool
fill k cells = fit (table_of k).columns cells
