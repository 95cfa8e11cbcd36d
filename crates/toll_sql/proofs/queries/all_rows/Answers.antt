use Rattle.std.proofs.Common.{[], refl}
use Rattle.toll_sql.proofs.Common.{IfOk-weaker, state, select_text}
use Rattle.toll_sql.proofs.AskLemmas.{all_selected, select_passed, select_plain}
use Rattle.toll_sql.proofs.AskedLemmas.{read_of}
use Rattle.toll_sql.proofs.queries.all_rows.Goals as goal

pub returns : goal.returns
returns g c =
    let k = c.args.table in
    let old = state g.S.Store c.args.conn.now in
    let new = state g.S.Store c.query_all.new.self in
    let called = c.query_all.ensures in
    let it = select_passed (select_text k) [] old new (select_plain k old new) (λ rows. rows.items) c.query_all.result c.of_store.result c.of_store.ensures _ [] c.select_text.ensures refl called.mode called.ok called.err called.survives in
    record {
      asks = λ unowned. it.0;
      rows = λ unowned clean has. IfOk-weaker c.of_store.result _ _ (λ rows h. all_selected k old new unowned has rows.items h) (it.1 clean);
      read = λ clean. read_of (λ rows. rows.items) (select_text k) old new c.of_store.result (it.1 clean);
    }
