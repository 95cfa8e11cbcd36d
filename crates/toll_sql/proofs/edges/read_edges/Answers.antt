use Rattle.std.proofs.Common.{IfOk, refl, subst}
use Rattle.toll_sql.proofs.Common.{IfOk-weaker, state, IsEdge, AreEdgesReadFrom, HasNoEdge, Moves}
use Rattle.toll_sql.proofs.EdgesRead.{each_named, edge_named, read_from}
use Rattle.toll_sql.proofs.LookLemmas.{looking}
use Rattle.toll_sql.proofs.edges.read_edges.Goals as goal

pub returns-in-Ok : goal.returns-in-Ok
returns-in-Ok g c =
    let read = subst (λ rows. IfOk c.edges_shown.result (λ edges. AreEdgesReadFrom rows edges.items)) c.deref.ensures.value c.edges_shown.ensures.read in
    record {
      looks = looking (state g.S.Store c.args.conn.now) (state g.S.Store c.owners_pairs.new.conn) c.in-Ok.rows c.edges_shown.result c.in-Ok.ensures.asks.asks c.edges_shown.ensures.disk c.edges_shown.ensures.closed;
      reads = λ clean s held. read_from (IsEdge s) c.in-Ok.rows.items (c.in-Ok.ensures.rows clean s held) (λ edges. edges.items) c.edges_shown.result read;
      shown = λ clean. IfOk-weaker c.edges_shown.result _ _ (λ edges it. (c.in-Ok.rows.items, c.in-Ok.ensures.read clean, it)) read;
      whole = λ clean s held is. each_named (IsEdge s) c.in-Ok.rows.items (c.in-Ok.ensures.rows clean s held) (edge_named s (held.rows.valid Moves refl)) (subst HasNoEdge c.deref.ensures.value (c.edges_shown.ensures.damaged is));
      lack = c.edges_shown.ensures.lack;
    }
