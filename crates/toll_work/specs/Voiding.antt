-- The checks of a void of an actual, and the sublot that it changes.
use Rattle.std.specs.Prelude.{ℕ, Option, Some, [], ◌∷◌, ◌++◌}
use Rattle.toll_work.specs.Common.{option_map_or, Bytes, returning_bounds, OwnerFacts, Checks, crosses, is_some_where, MoveRow, BatchClosed, LimitReached, Voided, Consumed, sublot_named}
use Rattle.toll_base.specs.declared.lot.LotId.{LotId}

-- the key isn't voided, and the batch isn't closed
abbrev pub void_batch_checks : OwnerFacts → (key order : Bytes) → (number : ℕ) → Checks
void_batch_checks t key order number =
    (t.voided key, Some Voided)
    ∷ (is_some_where (λ row. row.closed) (t.batch (order, number)), Some BatchClosed)
    ∷ []

-- A consumption can't be given back: its sublot has no room for it, or belongs to neither the owner nor HOUSE.
abbrev pub giving_bounds : Bytes → OwnerFacts → LotId → (sublot : Bytes) → ℕ → Checks
giving_bounds o u lot sublot amount = returning_bounds u lot.lot sublot amount ++ (crosses o Consumed lot.owner, Some LimitReached) ∷ []

-- the lot and the sublot that the actual names, if there is one
abbrev pub actual_sublot : Option MoveRow → Bytes × Bytes
actual_sublot known = option_map_or (λ row. sublot_named row.what) known ([], [])
