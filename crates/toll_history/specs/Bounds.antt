-- The room that a slice needs besides what a verdict checks. No lawful history leads to a slice without it.
use Rattle.std.specs.Prelude.{ℕ, ◌+◌, ◌&&◌, nat_le, nat_lt, Some, is_none, [], ◌∷◌}
use Rattle.toll_history.specs.Common.{Bytes, MOST_STOCK, MOST_SUBLOTS, LimitReached}
use Rattle.toll_history.specs.OwnerFacts.{OwnerFacts}
use Rattle.toll_history.specs.Verdict.{Checks, amount_in}

-- A slice has no room for one more than 20,000 sublots, or for more than 20,000,000,000,000 in a sublot.
abbrev pub sublot_bounds : OwnerFacts → (lot sublot : Bytes) → ℕ → Checks
sublot_bounds t lot sublot amount =
    (is_none (t.sublot (lot, sublot)) && nat_le MOST_SUBLOTS t.sublots, Some LimitReached)
    ∷ (nat_lt MOST_STOCK (amount_in t lot sublot + amount), Some LimitReached)
    ∷ []

-- The same, and no room for a lot whose material isn't there.
abbrev pub lot_bounds : OwnerFacts → (material lot sublot : Bytes) → ℕ → Checks
lot_bounds t material lot sublot amount = (is_none (t.material material), Some LimitReached) ∷ sublot_bounds t lot sublot amount

-- The same, and no room for material given back to a sublot that isn't there.
abbrev pub returning_bounds : OwnerFacts → (lot sublot : Bytes) → ℕ → Checks
returning_bounds t lot sublot amount = (is_none (t.sublot (lot, sublot)), Some LimitReached) ∷ sublot_bounds t lot sublot amount
