-- The batch that holds a unit and the edges of all owners, in a content.
use Rattle.std.specs.Prelude.{◌≡◌, ◌↔◌, ℕ, Bool, true, not, ◌&&◌, Option, Some, None, List, Contains, All, Any, Result, Vec, IfOk}
use Rattle.toll_keep.specs.Common.{Global, Bytes, same_bytes, Slice, batch_at, IsEdge}
use Rattle.toll_base.specs.Words.{is_some_where, none_or}
use Rattle.toll_base.specs.declared.lot.Edge.{Edge}
use Rattle.toll_base.specs.declared.lot.LotId.{LotId}
use Rattle.toll_base.specs.declared.rows.BatchRow.{BatchRow}
use Rattle.toll_trace.specs.Chain.{edge_of}
use Rattle.toll_trace.specs.Recorded.{Draws}
use Rattle.toll_trace.specs.Trace.{IsTrace}
use Rattle.toll_trace.specs.declared.recorded.Recorded.{Recorded}
use Rattle.toll_trace.specs.declared.step.Step.{Step}
use Rattle.toll_trace.specs.declared.way.Way.{Way}
use Rattle.toll_keep.specs.Content.{Content}
use Rattle.toll_keep.specs.declared.holder.Holder.{Holder}

-- whether the batch was opened on the unit and is not closed
abbrev pub is_on : Bytes → BatchRow → Bool
is_on unit row = same_bytes row.unit unit && not row.closed

-- The batch holds the unit; None means that no batch of any owner does.
abbrev pub IsHolder : Content → Bytes → Option Holder → Type 0
IsHolder c unit (Some h) = is_some_where (is_on unit) (batch_at (c.rows h.owner) (h.order, h.number)) ≡ true
IsHolder c unit None = (o : Bytes) (k : Bytes × ℕ) → none_or (λ row. not (is_on unit row)) (batch_at (c.rows o) k) ≡ true

-- The batch of this owner holds the unit; None means that none of its batches does.
abbrev pub IsHolderIn : Slice → Bytes → Option Holder → Type 0
IsHolderIn s unit (Some h) = (h.owner ≡ s.owner) × (is_some_where (is_on unit) (batch_at s (h.order, h.number)) ≡ true)
IsHolderIn s unit None = (k : Bytes × ℕ) → none_or (λ row. not (is_on unit row)) (batch_at s k) ≡ true

-- One of the slices has the batch that holds the unit; None means that none has.
abbrev pub IsHolderAmong : List Slice → Bytes → Option Holder → Type 0
IsHolderAmong slices unit (Some h) = Any (λ s. IsHolderIn s unit (Some h)) slices
IsHolderAmong slices unit None = All (λ s. IsHolderIn s unit None) slices

-- ---- edges

-- The rows of some owner have the edge.
pub record IsEdgeOfSome (c : Content) (e : Edge) : Type 0 where
  pub owner : Bytes
  pub edge : IsEdge (c.rows owner) e

-- The edges are exactly those of the slices.
pub record AreGathered (slices : List Slice) (edges : List Edge) : Type 0 where
  pub only : (e : Edge) → Contains edges e → Any (λ s. IsEdge s e) slices
  pub every : (s : Slice) (e : Edge) → Contains slices s → IsEdge s e → Contains edges e

-- ---- traces

-- The rows of one of these owners have the edge.
pub record IsEdgeOfOne (c : Content) (owners : List Bytes) (e : Edge) : Type 0 where
  pub owner : Bytes
  pub named : Contains owners owner
  pub edge : IsEdge (c.rows owner) e

-- The records draw exactly the edges of these owners.
abbrev pub DrawsFor : Content → List Bytes → Recorded → Type 0
DrawsFor c owners recorded = (e : Edge) → Draws recorded e ↔ IsEdgeOfOne c owners e

-- If rows are returned, they are the owner's.
abbrev pub GivesRows : {E : Type 0} → Content → Bytes → Result Slice E → Type 0
GivesRows c o reported = IfOk reported (λ slice. slice ≡ c.rows o)

-- If steps are returned, they are the trace from the lot over the edges of these owners.
abbrev pub GivesTrace : {E : Type 0} → Content → List Bytes → LotId → Way → Result (Vec Step Global) E → Type 0
GivesTrace c owners from way reported = IfOk reported (λ steps. IsTrace (λ a b. IsEdgeOfOne c owners (edge_of way a b)) from steps.items)
