-- Edges that are read from rows that show them.
use Rattle.std.proofs.Common.{◌≡◌, List, Result, IfOk, sym, ap, subst, ◌∙◌, Contains}
use Rattle.toll_sql.proofs.Common.{AllByRecursion, IfOk-weaker, Row, column, bytes, bytes_cmp, Slice, Edge, MoveRow, member_of_row, Contains-map, Contains-from_map, kept_in_order, member_of_all, AreEdges, IsEdge, columns_from, AreEdgesReadFrom, HasNoEdge, IsNamedEdge, ShowEdges, edge_cells, IsMove, IsMovement}
use Rattle.toll_base.specs.Lots.{edge_cmp}
use Rattle.toll_trace.proofs.Orders.{edges_exact}

edge_same : (e f : Edge) → edge_cells e ≡ edge_cells f → e ≡ f
edge_same e f h = ap (λ r. record { from = record { owner = bytes (column r 0); lot = bytes (column r 1) }; to = record { owner = bytes (column r 2); lot = bytes (column r 3) } }) h

module _ (is_edge : Edge → Type 0) (rows : List Row) (shown : ShowEdges is_edge rows) where
  edges_read : (edges : List Edge) → AreEdgesReadFrom rows edges → AreEdges is_edge edges
  edges_read edges from = record {
    only = λ e i.
        let r = Contains-from_map (columns_from 0 4) rows (edge_cells e) (subst (λ xs. Contains xs (edge_cells e)) from.cells (Contains-map edge_cells from.read e (from.in_order.none_new e i))) in
        let f = shown.only r.0 r.1 in
        let same : f.0 ≡ e = edge_same f.0 e (ap (columns_from 0 4) (sym f.2) ∙ r.2) in
        subst is_edge same f.1;
    every = λ e d.
        let i = Contains-map (columns_from 0 4) rows (edge_cells e) (shown.every e d) in
        let f = Contains-from_map edge_cells from.read (edge_cells e) (subst (λ xs. Contains xs (edge_cells e)) (sym from.cells) i) in
        kept_in_order edge_cmp edges_exact from.read edges from.in_order e (subst (λ e. Contains from.read e) (edge_same f.0 e f.2) f.1);
    ordered = from.in_order.ordered;
  }

  pub each_named : ((e : Edge) → is_edge e → IsNamedEdge e) → ¬ HasNoEdge rows
  each_named named bad =
      let f = shown.only bad.0 bad.1 in
      bad.2 f.0 (named f.0 f.1) (ap (columns_from 0 4) f.2)

  pub read_from : {E Y : Type 0} (items : Y → List Edge) (r : Result Y E) → IfOk r (λ edges. AreEdgesReadFrom rows (items edges)) → IfOk r (λ edges. AreEdges is_edge (items edges))
  read_from items r h = IfOk-weaker r _ _ (λ edges from. edges_read (items edges) from) h

-- ---- the edges of rows with valid values

pub edge_named : (s : Slice) → AllByRecursion IsMovement s.moves → (e : Edge) → IsEdge s e → IsNamedEdge e
edge_named s valid e d =
    let c = member_of_all IsMovement s.moves d.consumption valid (member_of_row bytes_cmp (λ (row : MoveRow). row.key) s.moves d.consumption.key d.consumption d.consumption_stands.recorded) in
    let p = member_of_all IsMovement s.moves d.production valid (member_of_row bytes_cmp (λ (row : MoveRow). row.key) s.moves d.production.key d.production d.production_stands.recorded) in
    ((subst IsMove d.consumes.is c.what).4, (subst IsMove d.produces.is p.what).4)
