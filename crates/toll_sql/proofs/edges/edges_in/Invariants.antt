use Rattle.std.proofs.Common.{◌≡◌, ◌≤◌, take, map}
use Rattle.toll_sql.proofs.Common.{columns_from, ShowsEdge, edge_cells, FirstIs}
use Rattle.toll_sql.proofs.edges.edges_in.Given as goal

abbrev pub invariant-loop-row : goal.invariant-loop-row
invariant-loop-row l = record {
  read : map edge_cells l.edges.items ≡ map (columns_from 0 4) (take l.row-index l.rows);
  first : 1 ≤ l.row-index → FirstIs ShowsEdge l.rows;
}
