use Rattle.std.proofs.Common.{rules}
use Rattle.toll_sql.proofs.Common.{columns_from, ShowsEdge, edge_cells}
use Rattle.toll_sql.proofs.ListLemmas.{more_shown}
use Rattle.toll_sql.proofs.SoFar.{first_good}
use Rattle.toll_sql.proofs.edges.edges_in.Goals as goal

pub returns-in_err-append-clause-lacks : goal.returns-in_err-append-clause-lacks
returns-in_err-append-clause-lacks c _ = first_good ShowsEdge c.args.rows.now c.loop-row.row-index c.row-item.result c.loop-row-test.true c.row-item.is c.loop-row.invariant.first (c.in-Some.edge, c.in-Some.ensures.valid, c.in-Some.ensures.some)

pub loop-row-preserved : goal.loop-row-preserved
loop-row-preserved c =
    let i = c.loop-row.row-index in
    let lt = c.loop-row-test.true in
    let rows = c.args.rows.now in
    let row = c.row-item.result in
    let edge = c.in-Some.edge in
    let pushed = c.in_ok-append.ensures.items in
    let more = more_shown edge_cells (columns_from 0 4) rows i lt row c.row-item.is c.loop-row.edges.items edge c.loop-row.invariant.read c.in-Some.ensures.some in
    record {
      read = search rules;
      first = λ _. first_good ShowsEdge rows i row lt c.row-item.is c.loop-row.invariant.first (edge, c.in-Some.ensures.valid, c.in-Some.ensures.some);
    }
