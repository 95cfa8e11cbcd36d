-- The edges that a content has are those of the history that it stands for.
use Rattle.std.proofs.Common.{◌≡◌, true, false, List, refl, sym, subst}
use Rattle.std.specs.Prelude.{Contains}
use Rattle.toll_desk.proofs.Common.{Bytes, Record, History, acts, owner_known, IsLawful, Contains-none, Content, IsEdgeOfSome}
use Rattle.toll_base.specs.declared.lot.Edge.{Edge}
use Rattle.toll_trace.specs.Edges.{IsEdge, AreEdges}
use Rattle.toll_trace.proofs.Unique.{edges_same}
use Rattle.toll_answers.specs.Edges.{IsOwnEdge, IsPlantEdge}
use Rattle.toll_answers.proofs.SliceEdges.{slice_edge_is_own, own_edge_is_slices}
use Rattle.toll_desk.specs.Representing.{Represents}
use Rattle.toll_keep.proofs.AllOwners.{no_edges}
use Rattle.toll_desk.proofs.Unknown.{acts_of_unknown}

module _ (H : History) (c : Content) (lawful : IsLawful H) (stands : Represents c H) where
  pub edge_is_own : (o : Bytes) (e : Edge) → IsEdge (c.rows o) e → IsOwnEdge (acts o H) e
  edge_is_own o e is =
      elim (owner_known H o) as (λ b. owner_known H o ≡ b → IsOwnEdge (acts o H) e) [
        | true ↦ λ known. subst (λ w. IsOwnEdge (acts w H) e) (stands.own o) (slice_edge_is_own H (c.rows o) (stands.known o known) e is)
        | false ↦ λ unknown. absurd (no_edges o e (subst (λ s. IsEdge s e) (stands.unknown o unknown) is))
      ] refl

  pub own_is_edge : (o : Bytes) (e : Edge) → IsOwnEdge (acts o H) e → IsEdge (c.rows o) e
  own_is_edge o e is =
      elim (owner_known H o) as (λ b. owner_known H o ≡ b → IsEdge (c.rows o) e) [
        | true ↦ λ known. own_edge_is_slices H (c.rows o) (stands.known o known) lawful e (subst (λ w. IsOwnEdge (acts w H) e) (sym (stands.own o)) is)
        | false ↦ λ unknown. absurd (Contains-none (Record is.production) (subst (λ own. Contains own (Record is.production)) (acts_of_unknown o H lawful unknown) is.production_stands.recorded))
      ] refl

  pub edges_are_own : (o : Bytes) (edges : List Edge) → AreEdges (IsEdge (c.rows o)) edges → AreEdges (IsOwnEdge (acts o H)) edges
  edges_are_own o edges are = edges_same (IsEdge (c.rows o)) (IsOwnEdge (acts o H)) (edge_is_own o) (own_is_edge o) edges are

  pub edges_are_plants : (edges : List Edge) → AreEdges (IsEdgeOfSome c) edges → AreEdges (IsPlantEdge H) edges
  edges_are_plants edges are =
      edges_same (IsEdgeOfSome c) (IsPlantEdge H)
      (λ e of_some. (of_some.owner, edge_is_own of_some.owner e of_some.edge))
      (λ e of_plant. record { owner = of_plant.0; edge = own_is_edge of_plant.0 e of_plant.1 })
      edges are
