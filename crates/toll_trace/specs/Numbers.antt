-- Lots by their numbers: their places in a list of lots.
use Rattle.std.specs.Prelude.{◌≡◌, ◌⊎◌, ℕ, ◌<◌, List, length, Contains, slice_index_or}
use Rattle.toll_trace.specs.Common.{LotId}

-- The item has this number in the list.
abbrev pub IsNumber : {X : Type 0} → List X → ℕ → X → Type 0
IsNumber items n x = (n < length items) × (slice_index_or items n x ≡ x)

-- All numbers are below the count.
abbrev pub AreBelow : ℕ → List ℕ → Type 0
AreBelow count numbers = (n : ℕ) → Contains numbers n → n < count

-- These are the numbers of those of these lots that are in the list, and no others.
pub record AreAllNumbers (lots those : List LotId) (numbers : List ℕ) : Type 0 where
  pub only : (n : ℕ) → Contains numbers n → (lot : LotId) × IsNumber lots n lot × Contains those lot
  pub every : (lot : LotId) (n : ℕ) → Contains those lot → IsNumber lots n lot → Contains numbers n

-- The list has the lots of all these uses, and perhaps others.
pub record HaveUsed {P : Type 0} (consumptions productions : List (P × LotId)) (lots : List LotId) : Type 0 where
  pub consumed : (u : P × LotId) → Contains consumptions u → Contains lots u.1
  pub produced : (u : P × LotId) → Contains productions u → Contains lots u.1

-- The numbered uses are exactly the uses of lots in the list, at the same places, with the lots' numbers.
pub record HaveNumbers {P : Type 0} (lots : List LotId) (uses : List (P × LotId)) (numbered : List (P × ℕ)) : Type 0 where
  pub only : (v : P × ℕ) → Contains numbered v → (lot : LotId) × IsNumber lots v.1 lot × Contains uses (v.0, lot)
  pub every : (u : P × LotId) (n : ℕ) → Contains uses u → IsNumber lots n u.1 → Contains numbered (u.0, n)

-- These are the lots from before and those with these numbers.
pub record AreAdded (all : List LotId) (numbers : List ℕ) (before lots : List LotId) : Type 0 where
  pub kept : (b : LotId) → Contains before b → Contains lots b
  pub only : (b : LotId) → Contains lots b → Contains before b ⊎ ((n : ℕ) × Contains numbers n × IsNumber all n b)
  pub every : (n : ℕ) (b : LotId) → Contains numbers n → IsNumber all n b → Contains lots b
