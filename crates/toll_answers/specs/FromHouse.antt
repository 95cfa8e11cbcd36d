-- What an owner sees of genealogy that begins at a lot of HOUSE.
use Rattle.std.specs.Prelude.{◌≡◌, ℕ, ◌+◌, ◌≤◌, List, map, Contains}
use Rattle.toll_answers.specs.Common.{Bytes, Action, LotId, Forward, Step, IsChain}
use Rattle.toll_answers.specs.Edges.{IsOwnJoined}

-- a chain over the edges of HOUSE, and then one over the owner's
pub record IsChainFromHouse (house own : List Action) (a : LotId) (n : ℕ) (b : LotId) : Type 0 where
  pub in_house : ℕ
  pub in_own : ℕ
  pub through : LotId
  pub steps : in_house + in_own ≡ n
  pub first : IsChain (IsOwnJoined house Forward) a in_house through
  pub then_own : IsChain (IsOwnJoined own Forward) through in_own b

-- of these steps, those at the owner's lots are exactly the lots that end such a chain, each with the fewest edges of one
pub record AreChainedFromHouse (house own : List Action) (o : Bytes) (a : LotId) (steps : List Step) : Type 0 where
  pub only : (s : Step) → Contains steps s → s.lot.owner ≡ o → IsChainFromHouse house own a s.steps s.lot
  pub fewest : (s : Step) → Contains steps s → s.lot.owner ≡ o → (n : ℕ) → IsChainFromHouse house own a n s.lot → s.steps ≤ n
  pub every : (b : LotId) (n : ℕ) → b.owner ≡ o → IsChainFromHouse house own a n b → Contains (map (λ s. s.lot) steps) b
