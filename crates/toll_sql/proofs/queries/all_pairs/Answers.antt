use Rattle.std.proofs.Common.{[], refl}
use Rattle.toll_sql.proofs.Common.{IfOk-weaker, state, all_text}
use Rattle.toll_sql.proofs.AskLemmas.{select_passed}
use Rattle.toll_sql.proofs.AskedLemmas.{read_with}
use Rattle.toll_sql.proofs.EdgesShown.{all_shown}
use Rattle.toll_sql.proofs.JoinQuery.{all_plain, all_answered}
use Rattle.toll_sql.proofs.queries.all_pairs.Goals as goal

pub returns : goal.returns
returns g c =
    let old = state g.S.Store c.args.conn.now in
    let new = state g.S.Store c.query_all.new.self in
    let called = c.query_all.ensures in
    let it = select_passed all_text [] old new all_plain (λ rows. rows.items) c.query_all.result c.of_store.result c.of_store.ensures all_text [] refl refl called.mode called.ok called.err called.survives in
    record {
      asks = it.0;
      read = λ clean. IfOk-weaker c.of_store.result _ _ (λ rows h. read_with all_text [] old new rows.items h) (it.1 clean);
      rows = λ clean has content held. IfOk-weaker c.of_store.result _ _ (λ rows h. all_shown old.now.trees content held rows.items (all_answered old new has [] rows.items h)) (it.1 clean);
    }
