-- Traces and recalls, cut to one owner's lots.
use Rattle.std.proofs.Common.{◌≡◌, ℕ, zero, suc, ◌+◌, List, refl, sym, ap₂, subst, inl, inr, arith, Contains}
use Rattle.toll_answers.proofs.Common.{Bytes, house_name, History, acts, IsLawful, LotId, Way, Forward, Step, IsChain, IsTrace, Contains-from_map, IsOwnJoined, IsPlantJoined}
use Rattle.toll_answers.specs.FromHouse.{IsChainFromHouse, AreChainedFromHouse}
use Rattle.toll_answers.proofs.OwnEdges.{edge_end, edge_start, chain_append, own_is_plants, chain_within}

-- ---- traces over two relations that agree at some lots

pub steps_along : (E F : LotId → LotId → Type 0) (a : LotId) (P : LotId → Type 0) → ((n : ℕ) (b : LotId) → P b → IsChain E a n b → IsChain F a n b) → ((n : ℕ) (b : LotId) → P b → IsChain F a n b → IsChain E a n b) →
    (x y : List Step) → IsTrace E a x → IsTrace F a y → (s : Step) → P s.lot → Contains x s → Contains y s
steps_along E F a P to from x y tx ty s at is =
    let t = Contains-from_map (λ (t : Step). t.lot) y s.lot (ty.every s.lot s.steps (to s.steps s.lot at (tx.only s is))) in
    let to_t = subst (λ lot. IsChain F a t.0.steps lot) t.2 (ty.only t.0 t.1) in
    let to_s = subst (λ lot. IsChain F a s.steps lot) (sym t.2) (to s.steps s.lot at (tx.only s is)) in
    let le = tx.fewest s is t.0.steps (from t.0.steps s.lot at to_t) in
    let ge = ty.fewest t.0 t.1 s.steps to_s in
    let same : t.0.steps ≡ s.steps = omega arith in
    let step : t.0 ≡ s = ap₂ {C = Step} (λ n lot. record { steps = n; lot = lot }) same t.2 in
    subst (Contains y) step t.1

module _ (H : History) (lawful : IsLawful H) where
  -- the plant's trace from an owner's lot has at the owner's lots what the owner's own trace has
  pub plants_steps_are_own : (o : Bytes) (way : Way) (a : LotId) → a.owner ≡ o → (plants own : List Step) → IsTrace (IsPlantJoined H way) a plants → IsTrace (IsOwnJoined (acts o H) way) a own →
      (s : Step) → s.lot.owner ≡ o → Contains plants s → Contains own s
  plants_steps_are_own o way a mine plants own tp to s at =
      steps_along (IsPlantJoined H way) (IsOwnJoined (acts o H) way) a (λ lot. lot.owner ≡ o)
      (λ n b end. chain_within H lawful o way a n b mine end) (λ n b end. own_is_plants H o way a n b) plants own tp to s at

  pub own_steps_are_plants : (o : Bytes) (way : Way) (a : LotId) → a.owner ≡ o → (plants own : List Step) → IsTrace (IsPlantJoined H way) a plants → IsTrace (IsOwnJoined (acts o H) way) a own →
      (s : Step) → s.lot.owner ≡ o → Contains own s → Contains plants s
  own_steps_are_plants o way a mine plants own tp to s at =
      steps_along (IsOwnJoined (acts o H) way) (IsPlantJoined H way) a (λ lot. lot.owner ≡ o)
      (λ n b end. own_is_plants H o way a n b) (λ n b end. chain_within H lawful o way a n b mine end) own plants to tp s at

  -- ---- chains from a lot of HOUSE

  -- such a chain goes over HOUSE's edges, and then over those of its end's owner
  pub chain_from_house : (a : LotId) (n : ℕ) (b : LotId) → a.owner ≡ house_name → IsChain (IsPlantJoined H Forward) a n b → IsChainFromHouse (acts house_name H) (acts b.owner H) a n b
  chain_from_house a zero b at_house chain = record { in_house = 0; in_own = 0; through = a; steps = refl; first = refl; then_own = chain }
  chain_from_house a (suc n) b at_house chain =
      let before = chain_from_house a n chain.0 at_house chain.1 in
      let edge = chain.2 in
      let by_end : edge.0 ≡ b.owner = sym (edge_end H edge.0 chain.0 b lawful edge.1) in
      let own_edge : IsOwnJoined (acts b.owner H) Forward chain.0 b = subst (λ w. IsOwnJoined (acts w H) Forward chain.0 b) by_end edge.1 in
      elim (edge_start H b.owner chain.0 b lawful own_edge) [
        | inl is ↦ record {
          in_house = before.in_house;
          in_own = suc before.in_own;
          through = before.through;
          steps = let sum = before.steps in omega arith;
          first = before.first;
          then_own = (chain.0, subst (λ w. IsChain (IsOwnJoined (acts w H) Forward) before.through before.in_own chain.0) is before.then_own, own_edge);
        }
        | inr is ↦ record {
          in_house = before.in_house + before.in_own;
          in_own = 1;
          through = chain.0;
          steps = let sum = before.steps in omega arith;
          first = chain_append (IsOwnJoined (acts house_name H) Forward) a before.in_house before.through before.in_own chain.0 before.first (subst (λ w. IsChain (IsOwnJoined (acts w H) Forward) before.through before.in_own chain.0) is before.then_own);
          then_own = (chain.0, refl, own_edge);
        }
      ]

  pub from_house_is_chain : (o : Bytes) (a : LotId) (n : ℕ) (b : LotId) → IsChainFromHouse (acts house_name H) (acts o H) a n b → IsChain (IsPlantJoined H Forward) a n b
  from_house_is_chain o a n b j =
      subst (λ k. IsChain (IsPlantJoined H Forward) a k b) j.steps
      (chain_append (IsPlantJoined H Forward) a j.in_house j.through j.in_own b (own_is_plants H house_name Forward a j.in_house j.through j.first) (own_is_plants H o Forward j.through j.in_own b j.then_own))

  -- a forward trace from a lot of HOUSE, cut to an owner's lots
  pub traces_from_house : (o : Bytes) (a : LotId) → a.owner ≡ house_name → (trace : List Step) → IsTrace (IsPlantJoined H Forward) a trace → AreChainedFromHouse (acts house_name H) (acts o H) o a trace
  traces_from_house o a at_house trace t = record {
    only = λ s is end. subst (λ w. IsChainFromHouse (acts house_name H) (acts w H) a s.steps s.lot) end (chain_from_house a s.steps s.lot at_house (t.only s is));
    fewest = λ s is end n j. t.fewest s is n (from_house_is_chain o a n s.lot j);
    every = λ b n end j. t.every b n (from_house_is_chain o a n b j);
  }

-- where HOUSE did the same, and the owner too, the same chains lead from a lot of HOUSE to one of the owner's
pub chains_agree : (G H : History) → IsLawful G → IsLawful H → (o : Bytes) → acts o G ≡ acts o H → acts house_name G ≡ acts house_name H → (a : LotId) (n : ℕ) (b : LotId) → a.owner ≡ house_name → b.owner ≡ o → IsChain (IsPlantJoined G Forward) a n b → IsChain (IsPlantJoined H Forward) a n b
chains_agree G H lawful lawful' o own house a n b at_house end chain =
    from_house_is_chain H lawful' o a n b (subst (λ in_house. IsChainFromHouse in_house (acts o H) a n b) house (subst (λ in_own. IsChainFromHouse (acts house_name G) in_own a n b) own (subst (λ w. IsChainFromHouse (acts house_name G) (acts w G) a n b) end (chain_from_house G lawful a n b at_house chain))))
