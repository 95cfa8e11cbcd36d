-- Where a key is among rows in the order of their keys, or where it would go.
use Rattle.std.specs.Prelude.{◌≡◌, ℕ, List}
use Rattle.std.specs.List.{HoldsAt}
use Rattle.std.specs.List.Sorted.{IsPartitionPoint}
use Rattle.std.specs.declared.cmp.Ordering.{Ordering}
use Rattle.std.specs.declared.cmp.Ordering.TheVariants.{Less, Equal, Greater}

module _ {K R : Type 0} (cmp : K → K → Ordering) (key : R → K) where
  -- the row at this place has the key
  abbrev pub HasKeyAt : List R → K → ℕ → Type 0
  HasKeyAt rows k = HoldsAt (λ row. cmp (key row) k ≡ Equal) rows

  -- the rows before this place have lower keys, and all others greater ones
  abbrev pub IsPlaceFor : List R → K → ℕ → Type 0
  IsPlaceFor rows k = IsPartitionPoint (λ row. cmp (key row) k ≡ Less) (λ row. cmp (key row) k ≡ Greater) rows
