-- Graphs.
use Rattle.std.specs.Prelude.{List, Contains}
use Rattle.toll_trace.specs.Common.{LotId, Edge}
use Rattle.toll_trace.specs.declared.graph.Graph.{Graph}
use Rattle.toll_trace.specs.declared.edge_index.EdgeIndex.{EdgeIndex}
use Rattle.toll_trace.specs.declared.way.Way.{Way}
use Rattle.toll_trace.specs.declared.way.Way.TheVariants.{Back, Forward}
use Rattle.toll_trace.specs.Chain.{edge_of}
use Rattle.toll_trace.specs.Leads.{IsIndexedStep}

-- the graph's joints for this direction
abbrev pub joints_of : Way → Graph → EdgeIndex
joints_of Back graph = graph.back
joints_of Forward graph = graph.forward

-- In the graph, a step in this direction leads from `a` to `b`.
abbrev pub Leads : Graph → Way → LotId → LotId → Type 0
Leads graph way a b = IsIndexedStep graph.lots.items (joints_of way graph) a b

-- In the graph, steps lead along exactly these edges, in both directions.
pub record IsGraph (is_edge : Edge → Type 0) (graph : Graph) : Type 0 where
  pub only : (way : Way) (a b : LotId) → Leads graph way a b → is_edge (edge_of way a b)
  pub every : (way : Way) (a b : LotId) → is_edge (edge_of way a b) → Leads graph way a b

-- The graph is that of the edges in this list.
abbrev pub IsGraphOf : List Edge → Graph → Type 0
IsGraphOf edges graph = IsGraph (Contains edges) graph

-- In one of the graphs, a step in this direction leads from `a` to `b`.
abbrev pub LeadAmong : List Graph → Way → LotId → LotId → Type 0
LeadAmong graphs way a b = (graph : Graph) × Contains graphs graph × Leads graph way a b
