-- Remembered graphs of owners, and the changes that keep them.
use Rattle.std.specs.Prelude.{◌≡◌, Bool, false, not, ◌&&◌, ◌||◌, is_some, List, Contains, filter, map}
use Rattle.toll_keep.specs.Common.{list_any, Bytes, same_bytes, Slice, Change, Put, IsEdge}
use Rattle.toll_base.specs.Slice.{move_at}
use Rattle.toll_base.specs.declared.rows.Row.TheVariants as row
use Rattle.toll_trace.specs.Graph.{IsGraph}
use Rattle.toll_trace.specs.declared.graph.Graph.{Graph}
use Rattle.toll_keep.specs.Content.{Content}
use Rattle.toll_keep.specs.Slices.{is_slice_of}
use Rattle.toll_keep.specs.declared.known_graph.KnownGraph.{KnownGraph}
pub use Rattle.toll_base.specs.SliceRules.{is_actual}

-- The graph has the edges of the owner's rows, and the rows' owner is the one named.
pub record IsKnownGraph (c : Content) (known : KnownGraph) : Type 0 where
  pub named : (c.rows known.owner).owner ≡ known.named
  pub graph : IsGraph (IsEdge (c.rows known.owner)) known.graph

abbrev pub AreGraphsOf : Content → List KnownGraph → Type 0
AreGraphsOf c graphs = (known : KnownGraph) → Contains graphs known → IsKnownGraph c known

-- Each graph of one of these owners is of the content.
abbrev pub AreGraphsFor : List Bytes → Content → List KnownGraph → Type 0
AreGraphsFor os c graphs = (known : KnownGraph) → Contains graphs known → Contains os known.owner → IsKnownGraph c known

-- One of the graphs is the owner's.
abbrev pub HasGraph : List KnownGraph → Bytes → Type 0
HasGraph graphs o = (known : KnownGraph) × Contains graphs known × (known.owner ≡ o)

-- Each of these owners has one of the graphs.
abbrev pub HaveGraphs : List KnownGraph → List Bytes → Type 0
HaveGraphs graphs owners = (o : Bytes) → Contains owners o → HasGraph graphs o

-- the graphs of these owners
abbrev pub graphs_among : List KnownGraph → List Bytes → List Graph
graphs_among graphs owners = map (λ known. known.graph) (filter (λ known. list_any (same_bytes known.owner) owners) graphs)

-- ---- changes

-- whether the owner's rows are among the slices, and have no movement with this key
abbrev pub lacks_key : List Slice → Bytes → Bytes → Bool
lacks_key slices o key = list_any (λ s. is_slice_of o s && not (is_some (move_at s key))) slices

-- whether a change may add or remove an edge of the owner whose rows have this name: it puts an actual, a void, or another movement whose
-- key the rows may have already
abbrev pub may_draw : List Slice → (o named : Bytes) → Change → Bool
may_draw slices o named (Put p (row.Move moved)) = same_bytes p named && (is_actual moved.what || not (lacks_key slices o moved.key))
may_draw slices o named (Put p (row.Void voided)) = same_bytes p named
may_draw slices o named _ = false

abbrev pub may_change_graph : List Slice → List Change → KnownGraph → Bool
may_change_graph slices changes known = list_any (may_draw slices known.owner known.named) changes
