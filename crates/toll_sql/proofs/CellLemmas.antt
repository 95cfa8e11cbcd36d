-- Cells of rows that fill their table's columns.
use Rattle.std.proofs.Common.{◌≡◌, ℕ, zero, suc, true, List, [], ◌∷◌, length, ap, ap₂, ◌∙◌, refl}
use Rattle.toll_sql.proofs.Common.{false≢true, and_parts, Kind, Row, column, Table, Value, Int, Text, Column, columns_from, is_of_kind, fit}
use Rattle.sqlite.specs.Cast.{cast, cast_all, cast_row}
use Rattle.sqlite.specs.Kind.TheVariants as kind
use Rattle.toll_sql.proofs.PutCommon.{cast_int}

pub later_columns : (at n : ℕ) (v : Value) (row : Row) → columns_from (suc at) n (v ∷ row) ≡ columns_from at n row
later_columns at zero v row = refl
later_columns at (suc n) v row = ap (λ cells. column row at ∷ cells) (later_columns (suc at) n v row)

pub every_column : (row : Row) → columns_from 0 (length row) row ≡ row
every_column [] = refl
every_column (v ∷ row) = ap (λ cells. v ∷ cells) (later_columns 0 (length row) v row ∙ every_column row)

pub fit_length : (columns : List Column) (cells : Row) → fit columns cells ≡ true → length cells ≡ length columns
fit_length [] [] h = refl
fit_length [] (v ∷ cells) h = absurd (false≢true h)
fit_length (c ∷ columns) [] h = absurd (false≢true h)
fit_length (c ∷ columns) (v ∷ cells) h = ap suc (fit_length columns cells (and_parts _ _ h).1)

-- A cell of the column's kind isn't changed when it is stored.
cast_one : (k : Kind) (v : Value) → is_of_kind k v ≡ true → cast k v ≡ v
cast_one kind.Text (Text t) h = refl
cast_one kind.Integer (Int n) h = cast_int n
cast_one _ _ h = absurd (false≢true h)

cast_cells : (columns : List Column) (cells : Row) → fit columns cells ≡ true → cast_all columns cells ≡ cells
cast_cells [] [] h = refl
cast_cells [] (v ∷ cells) h = absurd (false≢true h)
cast_cells (c ∷ columns) [] h = absurd (false≢true h)
cast_cells (c ∷ columns) (v ∷ cells) h = let parts = and_parts _ _ h in ap₂ (λ w ws. w ∷ ws) (cast_one c.kind v parts.0) (cast_cells columns cells parts.1)

pub cast_is : (t : Table) (v w : Value) (cells : Row) → cast kind.Integer v ≡ w → fit t.columns cells ≡ true → cast_row t (v ∷ cells) ≡ w ∷ cells
cast_is t v w cells first h = ap₂ (λ x xs. x ∷ xs) first (cast_cells t.columns cells h)
