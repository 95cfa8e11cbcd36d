-- Rows of a query that show edges of genealogy.
use Rattle.std.specs.Prelude.{◌≡◌, ◌≢◌, ℕ, Bool, true, false, List, [], ◌∷◌, map, Contains, Result, Err}
use Rattle.toll_sql.specs.Common.{Database, Row, State, Text, Bytes, Slice, Content, KeepFault, Memory}
use Rattle.toll_base.specs.Lots.{edge_cmp}
use Rattle.toll_base.specs.declared.lot.Edge.{Edge}
use Rattle.toll_sql.specs.Asked.{AreReadWith}
use Rattle.toll_sql.specs.Asking.{ForPart, OverOurs}
use Rattle.toll_sql.specs.AskedTexts.{owners_text}
use Rattle.toll_sql.specs.Cells.{columns_from}
use Rattle.toll_sql.specs.Holds.{HoldsEach}
use Rattle.toll_sql.specs.Shown.{FirstIs}
use Rattle.toll_sql.specs.Valid.{IsLotId}
use Rattle.toll_sql.specs.declared.table_kind.TableKind.{TableKind}
use Rattle.toll_sql.specs.declared.table_kind.TableKind.TheVariants.{Moves, Voids}
use Rattle.toll_trace.specs.InOrder.{IsInOrder}

-- whether edges are drawn from the table
abbrev pub draws_edges : TableKind → Bool
draws_edges Moves = true
draws_edges Voids = true
draws_edges _ = false

-- P holds of the slice whose movements and voids the tables held as this owner's, whatever rows they had of others.
abbrev pub ForMoves : Bytes → State → State → (Slice → Type 0) → Type 0
ForMoves = ForPart draws_edges

-- P holds of a content whose movements and voids the tables held, whatever other rows they had.
abbrev pub ForAllMoves : State → State → (Content → Type 0) → Type 0
ForAllMoves old new P = OverOurs old new (λ db. (c : Content) → HoldsEach draws_edges db c.rows → P c)

-- the cells of an edge: the lot that it leads from, and the lot that it leads to
abbrev pub edge_cells : Edge → Row
edge_cells e = Text e.from.owner ∷ Text e.from.lot ∷ Text e.to.owner ∷ Text e.to.lot ∷ []

-- The rows are those of the edges, in any order and perhaps more than once.
pub record ShowEdges (is_edge : Edge → Type 0) (rows : List Row) : Type 0 where
  pub only : (row : Row) → Contains rows row → (e : Edge) × is_edge e × (row ≡ edge_cells e)
  pub every : (e : Edge) → is_edge e → Contains rows (edge_cells e)

-- The edge leads between lots with valid names.
abbrev pub IsNamedEdge : Edge → Type 0
IsNamedEdge e = IsLotId e.from × IsLotId e.to

-- The row has the cells of no edge between lots with valid names.
abbrev pub ShowsNoEdge : Row → Type 0
ShowsNoEdge row = (e : Edge) → IsNamedEdge e → columns_from 0 4 row ≢ edge_cells e

-- The row has the cells of such an edge.
abbrev pub ShowsEdge : Row → Type 0
ShowsEdge row = (e : Edge) × IsNamedEdge e × (columns_from 0 4 row ≡ edge_cells e)

-- If Memory is reported, there is a first row, and it shows an edge.
abbrev pub LacksAtEdge : {X : Type 0} → List Row → Result X KeepFault → Type 0
LacksAtEdge rows result = result ≡ Err Memory → FirstIs ShowsEdge rows

-- One of the rows shows no edge.
abbrev pub HasNoEdge : List Row → Type 0
HasNoEdge rows = (row : Row) × Contains rows row × ShowsNoEdge row

-- The edges are those that the rows show, in order, each once.
pub record AreEdgesReadFrom (rows : List Row) (edges : List Edge) : Type 0 where
  pub read : List Edge
  pub cells : map edge_cells read ≡ map (columns_from 0 4) rows
  pub in_order : IsInOrder edge_cmp read edges

-- The edges are those of all rows that the text reads, by the definitions of crate sqlite.
abbrev pub AreEdgesOf : Database → List ℕ → Row → List Edge → Type 0
AreEdgesOf db text params edges = (rows : List Row) × AreReadWith db text params rows × AreEdgesReadFrom rows edges

-- The text for pairs of this owner's movements reads these rows.
abbrev pub AreOwnersPairs : Database → Bytes → List Row → Type 0
AreOwnersPairs db o rows = AreReadWith db owners_text (Text o ∷ []) rows

-- The edges are those of all rows that this text reads.
abbrev pub AreOwnersEdges : Database → Bytes → List Edge → Type 0
AreOwnersEdges db o edges = AreEdgesOf db owners_text (Text o ∷ []) edges
