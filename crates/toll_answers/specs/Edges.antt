-- Genealogy over a history.
use Rattle.std.specs.Prelude.{◌≡◌, false, List, Contains}
use Rattle.toll_answers.specs.Common.{Bytes, History, acts, Action, Record, LotId, Edge, Way, edge_of, voided_in, MoveRow, AreEdges, IsDrawn}

-- of an owner's own actions: the movement was recorded, and its key isn't voided
pub record WasDone (own : List Action) (row : MoveRow) : Type 0 where
  pub recorded : Contains own (Record row)
  pub not_voided : voided_in own row.key ≡ false

-- an edge of a batch of the owner whose actions these are
abbrev pub IsOwnEdge : List Action → Edge → Type 0
IsOwnEdge own e = IsDrawn (WasDone own) e

-- the edges of an owner's batches, in order, each once
abbrev pub AreOwnEdges : History → (o : Bytes) → List Edge → Type 0
AreOwnEdges H o edges = AreEdges (IsOwnEdge (acts o H)) edges

-- an edge of a batch of any owner
abbrev pub IsPlantEdge : History → Edge → Type 0
IsPlantEdge H e = (o : Bytes) × IsOwnEdge (acts o H) e

-- the lots joined by an owner's edges, and by all
abbrev pub IsOwnJoined : List Action → Way → LotId → LotId → Type 0
IsOwnJoined own way a b = IsOwnEdge own (edge_of way a b)

abbrev pub IsPlantJoined : History → Way → LotId → LotId → Type 0
IsPlantJoined H way a b = IsPlantEdge H (edge_of way a b)
