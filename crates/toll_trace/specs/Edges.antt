-- Edges of genealogy: which lots went into which.
use Rattle.std.specs.Prelude.{◌≡◌, ℕ, ◌≤◌, false, Some, is_some, List, Contains}
use Rattle.toll_trace.specs.Common.{IsStrictlySortedBy, Bytes, Slice, move_at, void_at, LotId, Edge, Role, MoveRow, Actual, edge_cmp}
use Rattle.toll_base.specs.declared.role.Role.TheVariants.{Consumed, Produced}

-- The movement is an actual: this batch uses this lot in this role and segment.
pub record IsActual (order : Bytes) (number segment : ℕ) (role : Role) (lot : LotId) (row : MoveRow) : Type 0 where
  pub material : Bytes
  pub sublot : Bytes
  pub is : row.what ≡ Actual order number segment role material lot sublot

-- Two actuals, of which stands holds, draw the edge. In one batch, one consumes the lot that the edge leads from, and the other produces
-- the lot that it leads to. The consumption's segment is not above the production's.
pub record IsDrawn (stands : MoveRow → Type 0) (e : Edge) : Type 0 where
  pub order : Bytes
  pub number : ℕ
  pub consumption : MoveRow
  pub production : MoveRow
  pub consumed_in : ℕ
  pub produced_in : ℕ
  pub consumption_stands : stands consumption
  pub production_stands : stands production
  pub consumes : IsActual order number consumed_in Consumed e.from consumption
  pub produces : IsActual order number produced_in Produced e.to production
  pub not_above : consumed_in ≤ produced_in

-- The slice has the movement, and no void of its key.
pub record Stands (s : Slice) (row : MoveRow) : Type 0 where
  pub recorded : move_at s row.key ≡ Some row
  pub not_voided : is_some (void_at s row.key) ≡ false

-- Actuals that stand in the slice draw the edge.
abbrev pub IsEdge : Slice → Edge → Type 0
IsEdge s e = IsDrawn (Stands s) e

-- These are exactly the edges, in order, each once.
pub record AreEdges (is_edge : Edge → Type 0) (edges : List Edge) : Type 0 where
  pub only : (e : Edge) → Contains edges e → is_edge e
  pub every : (e : Edge) → is_edge e → Contains edges e
  pub ordered : IsStrictlySortedBy edge_cmp edges
