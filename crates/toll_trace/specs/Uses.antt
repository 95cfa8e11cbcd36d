-- The lots that actuals use: the lists from which edges are made.
use Rattle.std.specs.Prelude.{ℕ, Bool, ◌==◌, ◌&&◌, nat_le, Option, Some, None, is_some, List, Contains, map, filter, if◌then◌else◌}
use Rattle.toll_trace.specs.Common.{filter_map, is_eq, Bytes, same_bytes, same_lot, Slice, void_at, LotId, Edge, Role, MoveRow, Actual}
use Rattle.toll_base.specs.Keys.{batch_cmp}
use Rattle.toll_base.specs.Roles.{same_role}
use Rattle.toll_base.specs.declared.movement.Move.{Move}
use Rattle.toll_trace.specs.declared.edges.LotUse.{LotUse}

-- a batch of the owner: an order and a number
abbrev pub Batch : Type 0
Batch = Bytes × ℕ

-- the lot that an actual uses in this role, with its batch
abbrev pub use_as : Role → Move → Option (Batch × LotUse)
use_as role (Actual order number segment recorded material lot sublot) = if same_role recorded role then Some ((order, number), record { segment = segment; lot = lot }) else None
use_as role _ = None

-- the use of a movement that no void takes back
abbrev pub standing_use : Role → Slice → MoveRow → Option (Batch × LotUse)
standing_use role s row = if is_some (void_at s row.key) then None else use_as role row.what

-- the uses of the standing actuals in this role
abbrev pub uses : Role → Slice → List (Batch × LotUse)
uses role s = filter_map (standing_use role s) s.moves

-- whether both are uses of one lot by one batch
abbrev pub same_use : Batch × LotUse → Batch × LotUse → Bool
same_use u v = (same_bytes u.0.0 v.0.0 && (u.0.1 == v.0.1)) && same_lot u.1.lot v.1.lot

-- These uses are left. For each use there is one left of the same lot by the same batch, whose segment is related to its own by `so`.
pub record AreLeft (so : ℕ → ℕ → Type 0) (uses left : List (Batch × LotUse)) : Type 0 where
  pub none_new : (u : Batch × LotUse) → Contains left u → Contains uses u
  pub none_lost : (batch : Batch) (lot : LotId) (segment : ℕ) → Contains uses (batch, record { segment = segment; lot = lot }) → (n : ℕ) × Contains left (batch, record { segment = n; lot = lot }) × so n segment

-- whether the consumption's segment is not above the production's
abbrev pub is_not_above : LotUse → Batch × LotUse → Bool
is_not_above consumption production = nat_le consumption.segment production.1.segment

-- the edge from the consumed lot to the produced lot
abbrev pub edge_between : LotUse → Batch × LotUse → Edge
edge_between consumption production = record { from = consumption.lot; to = production.1.lot }

-- the edges from a consumed lot to the lots that the same batch produces, by a list of productions
abbrev pub edges_from : List (Batch × LotUse) → Batch × LotUse → List Edge
edges_from productions consumption = map (edge_between consumption.1) (filter (is_not_above consumption.1) (filter (λ production. is_eq (batch_cmp production.0 consumption.0)) productions))
