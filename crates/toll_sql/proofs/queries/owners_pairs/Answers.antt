use Rattle.std.proofs.Common.{[], ◌∷◌, refl, ap}
use Rattle.toll_sql.proofs.Common.{IfOk-weaker, state, Bytes, Text, owners_text}
use Rattle.toll_sql.proofs.AskLemmas.{select_passed}
use Rattle.toll_sql.proofs.AskedLemmas.{read_with}
use Rattle.toll_sql.proofs.EdgesShown.{owners_shown}
use Rattle.toll_sql.proofs.JoinQuery.{owners_plain, owners_answered}
use Rattle.toll_sql.proofs.queries.owners_pairs.Goals as goal

pub returns : goal.returns
returns g c =
    let o = c.args.owner.now in
    let old = state g.S.Store c.args.conn.now in
    let new = state g.S.Store c.query_all.new.self in
    let called = c.query_all.ensures in
    let it = select_passed owners_text (Text o ∷ []) old new owners_plain (λ rows. rows.items) c.query_all.result c.of_store.result c.of_store.ensures owners_text _ refl (ap (λ (o : Bytes). Text o ∷ []) c.as_bytes.ensures.bytes) called.mode called.ok called.err called.survives in
    record {
      asks = it.0;
      read = λ clean. IfOk-weaker c.of_store.result _ _ (λ rows h. read_with owners_text (Text o ∷ []) old new rows.items h) (it.1 clean);
      rows = λ clean s held. IfOk-weaker c.of_store.result _ _ (λ rows h. owners_shown old.now.trees o s held.rows rows.items (owners_answered old new held.ours (Text o ∷ []) rows.items h)) (it.1 clean);
    }
