-- A change is put as its row.
use Rattle.std.proofs.Common.{◌≡◌, true, Result, refl, subst}
use Rattle.toll_sql.proofs.Common.{Row, State, Error, Change, Put, fill, IsReady, IsTransactionStep, IsValidChange, MakesPuts, PutsChange, PutsRow, WritesRow, table_of_change, cells_of_change}
use Rattle.toll_sql.proofs.StepLemmas.{makes_more}
use Rattle.toll_base.specs.declared.rows.Row.TheVariants as of

-- The cells of the change fill the columns of its table.
pub fills : (change : Change) → fill (table_of_change change) (cells_of_change change) ≡ true
fills (Put o (of.Material row)) = refl
fills _ = refl

pub as_change : (change : Change) (old new : State) → IsValidChange change → {X : Type 0} (cells : Row) (r : Result X Error) → cells ≡ cells_of_change change → WritesRow (table_of_change change) cells old new r
    → IsTransactionStep IsReady (MakesPuts (PutsChange change)) old new r
as_change change old new valid cells r is writes =
    let k = table_of_change change in
    let w = subst (λ c. WritesRow k c old new r) is writes (fills change) in
    makes_more IsReady (MakesPuts (PutsRow k (cells_of_change change))) (MakesPuts (PutsChange change)) old new r (λ _ h. record { put = record { valid = valid; put = h.put }; ready = h.ready; schema = h.schema; committed = h.committed }) w
