-- Whose edges a chain goes over: an owner's lots, and HOUSE's at its start.
use Rattle.std.proofs.Common.{◌≡◌, ◌⊎◌, ℕ, zero, suc, ◌+◌, true, false, not, ◌||◌, refl, sym, ap, subst, ◌∙◌, inl, inr, arith, Contains}
use Rattle.toll_trace.proofs.Unique.{chain_same}
use Rattle.toll_answers.proofs.Common.{Bytes, same_bytes, house_name, Record, History, acts, movements, IsLawful, crosses, LotId, MoveRow, same_bytes-exact, Way, Back, Forward, IsChain, IsActual, member_of_all, WasDone, IsOwnJoined, IsPlantJoined}
use Rattle.toll_base.specs.declared.role.Role.{Role}
use Rattle.toll_base.specs.declared.role.Role.TheVariants.{Consumed, Produced}
use Rattle.toll_history.proofs.Crossing.{crosses_by, movements_not_crossing, is_the_owner}
use Rattle.toll_answers.proofs.Standing.{recorded_moved}

-- ---- an accepted movement does not cross

done_not_crossing : (H : History) (w : Bytes) (row : MoveRow) → IsLawful H → Contains (acts w H) (Record row) → crosses_by w row.what ≡ false
done_not_crossing H w row lawful h = member_of_all (λ m. crosses_by m.0 m.1.what ≡ false) (movements H) (w, row) (movements_not_crossing H lawful) (recorded_moved H w row h)

-- an actual of the owner is on a lot that it may touch so
actual_stays : (H : History) (w order : Bytes) (number segment : ℕ) (role : Role) (lot : LotId) (row : MoveRow) → IsLawful H → WasDone (acts w H) row → IsActual order number segment role lot row → crosses w role lot.owner ≡ false
actual_stays H w order number segment role lot row lawful done is = subst (λ what. crosses_by w what ≡ false) is.is (done_not_crossing H w row lawful done.recorded)

-- the owner itself, or HOUSE
own_or_house : (a o : Bytes) → not (same_bytes a o || same_bytes a house_name) ≡ false → (a ≡ o) ⊎ (a ≡ house_name)
own_or_house a o h =
    elim (same_bytes a o) as (λ b. same_bytes a o ≡ b → not (b || same_bytes a house_name) ≡ false → (a ≡ o) ⊎ (a ≡ house_name)) [
      | true ↦ λ is h. inl (same_bytes-exact a o is)
      | false ↦ λ is h. inr (is_the_owner a house_name h)
    ] refl h

-- an edge of an owner ends at a lot of the owner, and starts at one of the owner or of HOUSE
pub edge_end : (H : History) (w : Bytes) (a b : LotId) → IsLawful H → IsOwnJoined (acts w H) Forward a b → b.owner ≡ w
edge_end H w a b lawful e = is_the_owner b.owner w (actual_stays H w e.order e.number e.produced_in Produced b e.production lawful e.production_stands e.produces)

pub edge_start : (H : History) (w : Bytes) (a b : LotId) → IsLawful H → IsOwnJoined (acts w H) Forward a b → (a.owner ≡ w) ⊎ (a.owner ≡ house_name)
edge_start H w a b lawful e = own_or_house a.owner w (actual_stays H w e.order e.number e.consumed_in Consumed a e.consumption lawful e.consumption_stands e.consumes)

-- ---- chains

pub chain_append : (E : LotId → LotId → Type 0) (a : LotId) (n : ℕ) (b : LotId) (m : ℕ) (c : LotId) → IsChain E a n b → IsChain E b m c → IsChain E a (n + m) c
chain_append E a n b zero c first second = subst (λ k. IsChain E a k c) (omega arith) (subst (IsChain E a n) second first)
chain_append E a n b (suc m) c first second =
    let one_more : suc (n + m) ≡ n + suc m = omega arith in
    subst (λ k. IsChain E a k c) one_more (second.0, chain_append E a n b m second.0 first second.1, second.2)

-- an owner's edges are edges of the plant
pub own_is_plants : (H : History) (o : Bytes) (way : Way) (a : LotId) (n : ℕ) (b : LotId) → IsChain (IsOwnJoined (acts o H) way) a n b → IsChain (IsPlantJoined H way) a n b
own_is_plants H o way = chain_same (IsOwnJoined (acts o H) way) (IsPlantJoined H way) (λ a b e. (o, e))

-- a chain, walked from its end
chain_turned : (E F : LotId → LotId → Type 0) → ((a b : LotId) → E a b → F b a) → (a : LotId) (n : ℕ) (b : LotId) → IsChain E a n b → IsChain F b n a
chain_turned E F turn a zero b chain = sym chain
chain_turned E F turn a (suc n) b chain =
    let one_more : 1 + n ≡ suc n = omega arith in
    subst (λ k. IsChain F b k a) one_more (chain_append F b 1 chain.0 n a (b, refl, turn chain.0 b chain.2) (chain_turned E F turn a n chain.0 chain.1))

module _ (H : History) (lawful : IsLawful H) where
  -- what ends at a lot of HOUSE began at one
  from_house : (a : LotId) (n : ℕ) (b : LotId) → b.owner ≡ house_name → IsChain (IsPlantJoined H Forward) a n b → a.owner ≡ house_name
  from_house a zero b at_house chain = ap (λ lot. lot.owner) chain ∙ at_house
  from_house a (suc n) b at_house chain =
      let edge = chain.2 in
      let before : chain.0.owner ≡ house_name = elim (edge_start H edge.0 chain.0 b lawful edge.1) [
        | inl is ↦ is ∙ sym (edge_end H edge.0 chain.0 b lawful edge.1) ∙ at_house
        | inr is ↦ is
      ] in
      from_house a n chain.0 before chain.1

  forward_within : (o : Bytes) (a : LotId) (n : ℕ) (b : LotId) → a.owner ≡ o → b.owner ≡ o → IsChain (IsPlantJoined H Forward) a n b → IsChain (IsOwnJoined (acts o H) Forward) a n b
  forward_within o a zero b own end chain = chain
  forward_within o a (suc n) b own end chain =
      let edge = chain.2 in
      let by_owner : edge.0 ≡ o = sym (edge_end H edge.0 chain.0 b lawful edge.1) ∙ end in
      let before : chain.0.owner ≡ o = elim (edge_start H edge.0 chain.0 b lawful edge.1) [
        | inl is ↦ is ∙ by_owner
        | inr is ↦ is ∙ sym (from_house a n chain.0 is chain.1) ∙ own
      ] in
      (chain.0, forward_within o a n chain.0 own before chain.1, subst (λ w. IsOwnJoined (acts w H) Forward chain.0 b) by_owner edge.1)

  -- between lots of one owner, HOUSE too, the plant's chains are the owner's: what leaves HOUSE's lots does not come back
  pub chain_within : (o : Bytes) (way : Way) (a : LotId) (n : ℕ) (b : LotId) → a.owner ≡ o → b.owner ≡ o → IsChain (IsPlantJoined H way) a n b → IsChain (IsOwnJoined (acts o H) way) a n b
  chain_within o Forward a n b own end chain = forward_within o a n b own end chain
  chain_within o Back a n b own end chain =
      chain_turned (IsOwnJoined (acts o H) Forward) (IsOwnJoined (acts o H) Back) (λ a b e. e) b n a
      (forward_within o b n a end own (chain_turned (IsPlantJoined H Back) (IsPlantJoined H Forward) (λ a b e. e) a n b chain))
