use Rattle.std.proofs.Common.{IfOk, refl, subst}
use Rattle.toll_sql.proofs.Common.{IfOk-weaker, state, IsEdgeOfSome, AreEdgesReadFrom, HasNoEdge, Moves}
use Rattle.toll_sql.proofs.EdgesRead.{each_named, edge_named, read_from}
use Rattle.toll_sql.proofs.LookLemmas.{looking}
use Rattle.toll_sql.proofs.edges.read_all_edges.Goals as goal

pub returns-in-Ok : goal.returns-in-Ok
returns-in-Ok g c =
    let read = subst (λ rows. IfOk c.edges_shown.result (λ edges. AreEdgesReadFrom rows edges.items)) c.deref.ensures.value c.edges_shown.ensures.read in
    record {
      looks = looking (state g.S.Store c.args.conn.now) (state g.S.Store c.all_pairs.new.conn) c.in-Ok.rows c.edges_shown.result c.in-Ok.ensures.asks.asks c.edges_shown.ensures.disk c.edges_shown.ensures.closed;
      reads = λ clean has content held. read_from (IsEdgeOfSome content) c.in-Ok.rows.items (c.in-Ok.ensures.rows clean has content held) (λ edges. edges.items) c.edges_shown.result read;
      shown = λ clean. IfOk-weaker c.edges_shown.result _ _ (λ edges it. (c.in-Ok.rows.items, c.in-Ok.ensures.read clean, it)) read;
      whole = λ clean has content held is. each_named (IsEdgeOfSome content) c.in-Ok.rows.items (c.in-Ok.ensures.rows clean has content held) (λ e d. edge_named (content.rows d.owner) ((held.slices d.owner).valid Moves refl) e d.edge) (subst HasNoEdge c.deref.ensures.value (c.edges_shown.ensures.damaged is));
      lack = c.edges_shown.ensures.lack;
    }
