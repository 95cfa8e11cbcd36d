-- The rows that a decision on a lot puts.
use Rattle.std.specs.Prelude.{ℕ, ◌+◌, ℤ, ◌&&◌, if◌then◌else◌, Option, Some, None, List, [], ◌∷◌}
use Rattle.toll_stock.specs.Common.{Bytes, is_outside, OwnerFacts, is_released, is_some_where, Disposition, Quarantined, LotRow, Lot, Result}
use Rattle.toll_base.specs.declared.rows.Row.{Row}

-- the row of a lot that is there, with another disposition
abbrev pub given_disposition : (LotRow → Disposition) → Option LotRow → List Row
given_disposition disposition None = []
given_disposition disposition (Some row) = Lot (record row { disposition = disposition row }) ∷ []

-- after a value of the test, a released lot is quarantined if that is out of the test's limits; otherwise the lot is unchanged
abbrev pub disposition_after : OwnerFacts → Bytes → ℤ → LotRow → Disposition
disposition_after t test value row = if is_released row.disposition && is_some_where (λ r. is_outside r.limits value) (t.test (row.material, test)) then Quarantined else row.disposition

-- a result, numbered after those that are there, and the lot's row after it
abbrev pub result_rows : (lot test : Bytes) → ℤ → ℕ → OwnerFacts → List Row
result_rows lot test value day t =
    Result (record { lot = lot; test = test; number = t.results_of lot test + 1; value = value; day = day })
    ∷ given_disposition (disposition_after t test value) (t.lot lot)
