-- The plant's traces, over the batches of those owners alone that can lead on.
use Rattle.std.proofs.Common.{◌≡◌, ◌⊎◌, ℕ, zero, suc, Bool, true, false, ◌||◌, Some, is_some, List, [], ◌∷◌, map, refl, sym, ap, subst, ◌∙◌, inl, inr}
use Rattle.std.specs.Prelude.{Contains, if◌then◌else◌}
use Rattle.std.proofs.lemmas.Map.Lookups.{exact_bytes}
use Rattle.std.proofs.lemmas.Map.Views.{tells_apart}
use Rattle.std.specs.Ordering.{is_eq}
unfoldable use Rattle.toll_base.specs.Table.{row_at}
use Rattle.toll_base.specs.Bytes.{bytes_cmp}
use Rattle.toll_base.proofs.Texts.{same_bytes-exact}
use Rattle.toll_base.specs.declared.rows.OwnerRow.{OwnerRow}
use Rattle.toll_trace.specs.Chain.{IsChain, edge_of}
use Rattle.toll_trace.specs.declared.way.Way.{Way}
use Rattle.toll_trace.specs.declared.way.Way.TheVariants as way
use Rattle.toll_trace.specs.Edges.{IsEdge}
use Rattle.toll_trace.proofs.Unique.{trace_same}
use Rattle.toll_desk.proofs.Common.{false≢true, Bytes, same_bytes, same_bytes-refl, house_name, LotId, History, acts, IsLawful, IsTrace, Step, Contains-none, Contains-cases, Contains-here, Contains-later, IsOwnEdge, IsPlantJoined, lots_owned, Content, Represents}
use Rattle.toll_keep.specs.Content.{knows}
use Rattle.toll_keep.specs.Holding.{IsEdgeOfOne}
use Rattle.toll_desk.proofs.Knowing.{represented_knows}
use Rattle.toll_desk.proofs.PlantShown.{edge_owner}
use Rattle.toll_desk.proofs.StandingEdges.{edge_is_own, own_is_edge}

-- ---- a trace over edges that are all there are wherever it comes

module _ (E F : LotId → LotId → Type 0) (P : LotId → Type 0) (more : (a b : LotId) → E a b → F a b) (lead : (a b : LotId) → P a → F a b → E a b × P b) where
  chain_more : (a : LotId) (n : ℕ) (b : LotId) → IsChain E a n b → IsChain F a n b
  chain_more a zero b c = c
  chain_more a (suc n) b c = (c.0, chain_more a n c.0 c.1, more c.0 b c.2)

  chain_there : (a : LotId) (n : ℕ) (b : LotId) → P a → IsChain F a n b → IsChain E a n b × P b
  chain_there a zero b start c = (c, subst P c start)
  chain_there a (suc n) b start c =
      let before = chain_there a n c.0 start c.1 in
      let next = lead c.0 b before.1 c.2 in
      ((c.0, before.0, next.0), next.1)

  pub trace_there : (a : LotId) (trace : List Step) → P a → IsTrace E a trace → IsTrace F a trace
  trace_there a trace start t = record {
    only = λ s i. chain_more a s.steps s.lot (t.only s i);
    fewest = λ s i n c. t.fewest s i n (chain_there a n s.lot start c).0;
    every = λ b n c. t.every b n (chain_there a n b start c).0;
    ordered = t.ordered;
  }

-- ---- the owners that are named

owner_is_named : (rows : List OwnerRow) (o : Bytes) → is_some (row_at bytes_cmp (λ (row : OwnerRow). row.owner) rows o) ≡ true → Contains (map (λ (row : OwnerRow). row.owner) rows) o
unfolding row_at
owner_is_named [] o h = absurd (false≢true h)
owner_is_named (row ∷ rows) o h = go (is_eq (bytes_cmp o row.owner)) refl h (owner_is_named rows o)
  where
    go : (b : Bool) → is_eq (bytes_cmp o row.owner) ≡ b → is_some (if b then Some row else row_at bytes_cmp (λ (row : OwnerRow). row.owner) rows o) ≡ true → (is_some (row_at bytes_cmp (λ (row : OwnerRow). row.owner) rows o) ≡ true → Contains (map (λ (row : OwnerRow). row.owner) rows) o) → Contains (map (λ (row : OwnerRow). row.owner) (row ∷ rows)) o
    go true e h later = subst (Contains (row.owner ∷ map (λ (row : OwnerRow). row.owner) rows)) (sym (tells_apart exact_bytes o row.owner e)) (Contains-here row.owner (map (λ (row : OwnerRow). row.owner) rows))
    go false e h later = Contains-later row.owner (map (λ (row : OwnerRow). row.owner) rows) o (later h)

all_named : (rows : List OwnerRow) (o : Bytes) → (same_bytes o house_name || is_some (row_at bytes_cmp (λ (row : OwnerRow). row.owner) rows o)) ≡ true → Contains (house_name ∷ map (λ (row : OwnerRow). row.owner) rows) o
all_named rows o h = go (same_bytes o house_name) refl h
  where
    go : (b : Bool) → same_bytes o house_name ≡ b → (b || is_some (row_at bytes_cmp (λ (row : OwnerRow). row.owner) rows o)) ≡ true → Contains (house_name ∷ map (λ (row : OwnerRow). row.owner) rows) o
    go true e h = subst (Contains (house_name ∷ map (λ (row : OwnerRow). row.owner) rows)) (sym (same_bytes-exact o house_name e)) (Contains-here house_name (map (λ (row : OwnerRow). row.owner) rows))
    go false e h = Contains-later house_name (map (λ (row : OwnerRow). row.owner) rows) o (owner_is_named rows o h)

-- ---- which owners lead on

module _ (H : History) (c : Content) (lawful : IsLawful H) (stands : Represents c H) where
  abbrev JoinedBy : List Bytes → Way → LotId → LotId → Type 0
  JoinedBy owners w a b = IsEdgeOfOne c owners (edge_of w a b)

  plants : (owners : List Bytes) (w : Way) (a b : LotId) → JoinedBy owners w a b → IsPlantJoined H w a b
  plants owners w a b edge = (edge.owner, edge_is_own H c lawful stands edge.owner (edge_of w a b) edge.edge)

  of_one : (owners : List Bytes) (w : Way) (a b : LotId) (o : Bytes) → Contains owners o → IsOwnEdge (acts o H) (edge_of w a b) → JoinedBy owners w a b
  of_one owners w a b o named edge = record { owner = o; named = named; edge = own_is_edge H c lawful stands o (edge_of w a b) edge }

  -- forward from a lot of an owner, the owner's own
  pub forward_own : (o : Bytes) (lot : LotId) (steps : List Step) → lot.owner ≡ o → same_bytes o house_name ≡ false → IsTrace (JoinedBy (o ∷ []) way.Forward) lot steps → IsTrace (IsPlantJoined H way.Forward) lot steps
  forward_own o lot steps own other = trace_there (JoinedBy (o ∷ []) way.Forward) (IsPlantJoined H way.Forward) (λ l. l.owner ≡ o) (plants (o ∷ []) way.Forward) lead lot steps own
    where
      lead : (a b : LotId) → a.owner ≡ o → IsPlantJoined H way.Forward a b → JoinedBy (o ∷ []) way.Forward a b × (b.owner ≡ o)
      lead a b at edge =
          let lots = lots_owned H lawful edge.0 (edge_of way.Forward a b) edge.1 in
          let is : edge.0 ≡ o = elim lots.1 [ inl from ↦ sym from ∙ at | inr house ↦ absurd (false≢true (sym other ∙ ap (λ p. same_bytes p house_name) (sym at ∙ house) ∙ same_bytes-refl house_name)) ] in
          (of_one (o ∷ []) way.Forward a b o (Contains-here o []) (subst (λ p. IsOwnEdge (acts p H) (edge_of way.Forward a b)) is edge.1), lots.0 ∙ is)

  -- back, the owner's own and HOUSE's
  pub back_own : (lot : LotId) (steps : List Step) → IsTrace (JoinedBy (lot.owner ∷ house_name ∷ []) way.Back) lot steps → IsTrace (IsPlantJoined H way.Back) lot steps
  back_own lot steps = trace_there (JoinedBy two way.Back) (IsPlantJoined H way.Back) (λ l. (l.owner ≡ lot.owner) ⊎ (l.owner ≡ house_name)) (plants two way.Back) lead lot steps (inl refl)
    where
      two : List Bytes
      two = lot.owner ∷ house_name ∷ []

      lead : (a b : LotId) → (a.owner ≡ lot.owner) ⊎ (a.owner ≡ house_name) → IsPlantJoined H way.Back a b → JoinedBy two way.Back a b × ((b.owner ≡ lot.owner) ⊎ (b.owner ≡ house_name))
      lead a b at edge =
          let lots = lots_owned H lawful edge.0 (edge_of way.Back a b) edge.1 in
          let named : Contains two edge.0 = elim at [
            | inl own ↦ subst (Contains two) (sym own ∙ lots.0) (Contains-here lot.owner (house_name ∷ []))
            | inr house ↦ subst (Contains two) (sym house ∙ lots.0) (Contains-later lot.owner (house_name ∷ []) house_name (Contains-here house_name []))
          ] in (
            of_one two way.Back a b edge.0 named edge.1,
            elim lots.1 [
              | inl from ↦ elim at [ inl own ↦ inl (from ∙ sym lots.0 ∙ own) | inr house ↦ inr (from ∙ sym lots.0 ∙ house) ]
              | inr house ↦ inr house
            ],
          )

  -- and all
  pub forward_all : (lot : LotId) (owners : List Bytes) (steps : List Step) → owners ≡ house_name ∷ map (λ row. row.owner) c.owners → IsTrace (JoinedBy owners way.Forward) lot steps → IsTrace (IsPlantJoined H way.Forward) lot steps
  forward_all lot owners steps named = trace_there (JoinedBy owners way.Forward) (IsPlantJoined H way.Forward) (λ l. Unit {0}) (plants owners way.Forward) lead lot steps tt
    where
      lead : (a b : LotId) → Unit {0} → IsPlantJoined H way.Forward a b → JoinedBy owners way.Forward a b × Unit {0}
      lead a b at edge =
          let known : knows c edge.0 ≡ true = represented_knows H c stands edge.0 ∙ edge_owner H edge.0 (edge_of way.Forward a b) lawful edge.1 in
          (of_one owners way.Forward a b edge.0 (subst (λ os. Contains os edge.0) (sym named) (all_named c.owners edge.0 known)) edge.1, tt)

  -- ---- an owner's own trace
  pub own_trace : (o : Bytes) (w : Way) (lot : LotId) (steps : List Step) → IsTrace (JoinedBy (o ∷ []) w) lot steps → IsTrace (λ a b. IsOwnEdge (acts o H) (edge_of w a b)) lot steps
  own_trace o w lot steps = trace_same (JoinedBy (o ∷ []) w) (λ a b. IsOwnEdge (acts o H) (edge_of w a b))
      (λ a b edge. edge_is_own H c lawful stands o (edge_of w a b) (elim (Contains-cases o [] edge.owner edge.named) [ inl same ↦ subst (λ p. IsEdge (c.rows p) (edge_of w a b)) (sym same) edge.edge | inr none ↦ absurd (Contains-none edge.owner none) ]))
      (λ a b edge. of_one (o ∷ []) w a b o (Contains-here o []) edge) lot steps
