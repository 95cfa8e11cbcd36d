-- Lists put in order.
use Rattle.std.specs.Prelude.{◌≡◌, true, List, Contains, Any}
use Rattle.toll_trace.specs.Common.{IsStrictlySortedBy, is_eq, Ordering}

-- The same items, in order; of items that compare equal, only one.
pub record IsInOrder {X : Type 0} (cmp : X → X → Ordering) (items sorted : List X) : Type 0 where
  pub ordered : IsStrictlySortedBy cmp sorted
  pub none_new : (x : X) → Contains sorted x → Contains items x
  pub none_lost : (x : X) → Contains items x → Any (λ y. is_eq (cmp x y) ≡ true) sorted
